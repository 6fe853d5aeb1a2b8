-- `Owners::seat` meets its contract: the search finds the owner's place or there is none, and at its place stands its room.
use mathlib.Core.Path.{sym, ◌∙◌}
use Rattle.mover.proofs.Laws.{quota_off}
use Rattle.table.proofs.Seats.{searched_there, searched_none, seat_by_room}
use Rattle.table.proofs.owning.Owners.seat.Goals as goal

pub returns-in_err-p : goal.returns-in_err-p
returns-in_err-p c =
    let owners = c.args.self.now in
    rw c.from_residual.ensures (quota_off owners.numbers.now c.args.room.now _ (searched_none _ owners.rises _ _ c.binary_search.ensures.position (sym c.ok.ensures.value ∙ c.in_err-p.was)))

pub returns : goal.returns
returns c =
    let owners = c.args.self.now in
    let there = searched_there _ owners.rises _ _ c.binary_search.ensures.position _ (sym c.ok.ensures.value ∙ c.in_ok-p.was) in
    rw c.then_some.ensures (seat_by_room _ owners.rises _ c.args.room.now _ there.0 there.1)
