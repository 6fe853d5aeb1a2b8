-- `serving::Server::new` meets its contract: before the first read nothing is held.
use mathlib.Core.Path.{refl}
use Rattle.serving.proofs.Holdings.{holding_first}
use Rattle.serving.proofs.Server.new.Goals as goal

pub returns : goal.returns
returns c = holding_first _ c.new.ensures c.filled.ensures refl
