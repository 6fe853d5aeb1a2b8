-- The laws that `mover` promises, each by its proof.
use Rattle.mover.proofs.Laws.{freed_is_lacking, moved_is_exact, changed_is_freed, fewest_changes, others_stay, from_above_to_below}
use Rattle.mover.proofs.promises.Goals as goal

pub returns : goal.returns
returns c = (freed_is_lacking, moved_is_exact, changed_is_freed, fewest_changes, others_stay, from_above_to_below)
