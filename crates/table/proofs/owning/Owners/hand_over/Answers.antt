-- `Owners::hand_over` meets its contract. The loop's invariant is `Handed`.
use mathlib.Core.Path.{subst}
use Rattle.table.specs.Seat.{NextShort}
use Rattle.table.proofs.Turns.{hand_start, seated_from, unseated_from, hand_kept, some_short, hand_freed, hand_done}
use Rattle.table.proofs.owning.Owners.hand_over.Goals as goal

pub loop-slot-preserved-in-Some : goal.loop-slot-preserved-in-Some
loop-slot-preserved-in-Some c =
    let rises = c.args.self.now.rises in
    let w = c.loop-slot.invariant in
    let on = c.loop-slot-test.true in
    hand_kept rises w on _ (seated_from rises w on _ c.in-Some.ensures)

pub unwrap-next-requires : goal.unwrap-next-requires
unwrap-next-requires c =
    let rises = c.args.self.now.rises in
    let w = c.loop-slot.invariant in
    let on = c.loop-slot-test.true in
    some_short rises w on (unseated_from rises w on c.in_default.ensures) _ c.next_short.ensures

pub loop-slot-preserved : goal.loop-slot-preserved
loop-slot-preserved c =
    let rises = c.args.self.now.rises in
    let w = c.loop-slot.invariant in
    let on = c.loop-slot-test.true in
    hand_freed rises w on (unseated_from rises w on c.in_default.ensures) _ (subst (NextShort c.loop-slot.short c.loop-slot.next) c.unwrap-next.ensures c.next_short.ensures)

pub returns : goal.returns
returns c = hand_done c.loop-slot.invariant c.loop-slot-test.false
