-- The law that `retired` promises, by its proof.
use Rattle.retired.proofs.Retired.{not_used_again}
use Rattle.retired.proofs.promises.Goals as goal

pub returns : goal.returns
returns c = not_used_again
