-- The laws that `stream` promises, each by its proof.
use Rattle.stream.proofs.Meanings.{stopped_silent, taken_fixed}
use Rattle.stream.proofs.Passes.{passed-takes, passed_fixed}
use Rattle.stream.proofs.Samples.{samples}
use Rattle.stream.proofs.Texts.{answer-first, decimal-reads}
use Rattle.stream.proofs.promises.Goals as goal

pub returns : goal.returns
returns c =
    record {
      laws = (stopped_silent, taken_fixed);
      texts = (answer-first, decimal-reads);
      passed = (passed-takes, passed_fixed);
      ends = samples;
    }
