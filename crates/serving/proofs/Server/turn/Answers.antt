-- `serving::Server::turn` meets its contract: a run stays within the output, and what is kept or read leads to the next turn.
use native.Mathlib.Omega.{arith}
use mathlib.Core.Path.{refl}
use Rattle.serving.proofs.Holdings.{over, waiting, room_left, shorter}
use Rattle.serving.proofs.Server.turn.Goals as goal

pub returns-then-not-write-clause-ends : goal.returns-then-not-write-clause-ends
returns-then-not-write-clause-ends g c = λ done is. over c.requires _ _ c.run-ran.ensures.reply done (λ w. cc)

pub returns-then-self-clause-ends : goal.returns-then-self-clause-ends
returns-then-self-clause-ends g c = λ done is. over c.requires _ _ c.run-ran.ensures.reply done (λ w. c.if-self.true)

pub more-requires-clause-waits : goal.more-requires-clause-waits
more-requires-clause-waits g c = waiting c.requires _ _ c.run-ran.ensures.reply c.if-ran-eq0.true c.if-self.false (omega arith) _ refl c.run-ran.ensures.table refl refl

pub more-requires-clause-room : goal.more-requires-clause-room
more-requires-clause-room g c = room_left c.requires _ _ c.run-ran.ensures.reply c.if-ran-eq0.true c.if-self.false (omega arith) (omega arith)

pub returns-clause-goes_on : goal.returns-clause-goes_on
returns-clause-goes_on g c = λ next is. shorter c.requires _ _ c.run-ran.ensures.reply _ c.keep-self.new.buf refl c.run-ran.ensures.table refl c.keep-self.ensures.count c.keep-self.ensures.bytes
