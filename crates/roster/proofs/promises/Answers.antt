-- The laws that `roster` promises, each by its proof.
use Rattle.roster.proofs.Changes.{none-valid, added-valid, dropped-valid, rerated-valid, added_only, dropped_only, rerated_only}
use Rattle.roster.proofs.Changes.{no_second_add, no_absent_drop, no_absent_rate}
use Rattle.roster.proofs.Made.{same_rate}
use Rattle.roster.proofs.promises.Goals as goal

pub returns : goal.returns
returns c =
    record {
      sound = (none-valid, added-valid, dropped-valid, rerated-valid);
      exact = (added_only, dropped_only, rerated_only, same_rate);
      refused = (no_second_add, no_absent_drop, no_absent_rate);
    }
