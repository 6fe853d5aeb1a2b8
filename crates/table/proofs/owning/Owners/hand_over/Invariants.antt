-- `Owners::hand_over` meets its contract. The loop's invariant is `Handed`.
use Rattle.table.proofs.Turns.{Handed}
use Rattle.table.proofs.owning.Owners.hand_over.Given as goal

abbrev pub invariant-loop-slot : goal.invariant-loop-slot
invariant-loop-slot l = Handed l.self.numbers.now l.initial.room l.initial.short l.initial.table l.room l.short l.table l.next l.slot-index
