-- The law that `printing` promises, by its proof.
use Rattle.printing.proofs.Texts.{said_fixed}
use Rattle.printing.proofs.promises.Goals as goal

pub returns : goal.returns
returns c = said_fixed
