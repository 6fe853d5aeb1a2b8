-- The laws that `buffer` promises, each by its proof.
use Rattle.buffer.proofs.Runs.{run_goes, run_ends, run-within, any-reads, all-printed, ran_fixed}
use Rattle.buffer.proofs.promises.Goals as goal

pub returns : goal.returns
returns c =
    record {
      buffers = (run_goes, run_ends, run-within);
      reads = (any-reads, all-printed);
      fixed = ran_fixed;
    }
