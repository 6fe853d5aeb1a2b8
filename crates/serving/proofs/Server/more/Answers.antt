-- `serving::Server::more` meets its contract: what was read stands behind the bytes held.
use native.Mathlib.Omega.{arith}
use mathlib.Core.Path.{refl}
use Rattle.serving.proofs.Holdings.{longer, read_behind}
use Rattle.serving.proofs.Server.more.Goals as goal

pub returns-in-Some-clause-longer : goal.returns-in-Some-clause-longer
returns-in-Some-clause-longer g c = λ next is. read_behind c.args.self.now.buf _ _ c.in-Some.n (omega arith)

pub returns-in-Some-clause-goes_on : goal.returns-in-Some-clause-goes_on
returns-in-Some-clause-goes_on g c = λ next is. longer c.requires.waits _ c.read.new.buf _ (record { state = refl; owners = refl }) refl (omega arith) (omega arith) (returns-in-Some-clause-longer g c next is)
