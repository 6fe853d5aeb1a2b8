-- `Owners::tally` meets its contract. The loop's invariant is `Tallied`.
use Rattle.table.proofs.Turns.{Tallied}
use Rattle.table.proofs.owning.Owners.tally.Given as goal

abbrev pub invariant-loop-owner : goal.invariant-loop-owner
invariant-loop-owner l = Tallied l.self.numbers.now l.initial.room l.table l.room l.freed l.owner-index
