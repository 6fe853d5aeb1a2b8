-- The laws that `load` promises, each by its proof.
use Rattle.load.proofs.Shares.{carries_is_division}
use Rattle.load.proofs.Replies.{rows-rise, answered_is_division, refused_is_no, less_is_carried, quotas_keep_up, load_fixed}
use Rattle.load.proofs.promises.Goals as goal

pub returns : goal.returns
returns c =
    record {
      exact = (rows-rise, carries_is_division, answered_is_division, refused_is_no);
      steady = (less_is_carried, quotas_keep_up);
      fixed = load_fixed;
    }
