-- The law that `every_key` promises, by its proof.
use Rattle.every_key.proofs.EveryKey.{every_key_served}
use Rattle.every_key.proofs.promises.Goals as goal

pub returns : goal.returns
returns c = every_key_served
