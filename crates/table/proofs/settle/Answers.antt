-- `table::settle` meets its contract: the mover on the roster's owners and shares.
use mathlib.Core.Path.{◌≡◌, refl, sym, ap, ap₂, ◌∙◌}
use lib.ListN.{length}
use lib.Seq.{length-take-le}
use Rattle.mover.specs.Mover.{moved, freed_below}
use Rattle.table.specs.Table.{owners}
use Rattle.table.proofs.Owners.{front_shares, shares_fit, fitting}
use Rattle.table.proofs.Replies.{slots-few}
use Rattle.table.proofs.settle.Goals as goal
use Rattle.table.proofs.settle.Goals.{After-count-n}

many : (c : After-count-n) → c.count-n.result ≡ length (owners c.args.v.now.roster)
many c = c.count-n.ensures ∙ ap length c.of-owners.ensures

pub slice_bounds-room-end : goal.slice_bounds-room-end
slice_bounds-room-end c = shares_fit _ c.args.v.now.valid _ _ (many (goal.at.slice_bounds-room-end c).After-count-n) _ c.share_list-room.ensures

pub slice_bounds-move_slots-end : goal.slice_bounds-move_slots-end
slice_bounds-move_slots-end c = sym (length-take-le _ _ (shares_fit _ c.args.v.now.valid _ _ (many (goal.at.slice_bounds-move_slots-end c).After-count-n) _ c.share_list-room.ensures))

pub slice_bounds-short-end : goal.slice_bounds-short-end
slice_bounds-short-end c = shares_fit _ c.args.v.now.valid _ _ (many (goal.at.slice_bounds-short-end c).After-count-n) _ c.share_list-room.ensures

pub slice_bounds-move_slots-end-2 : goal.slice_bounds-move_slots-end-2
slice_bounds-move_slots-end-2 c = sym (length-take-le _ _ (shares_fit _ c.args.v.now.valid _ _ (many (goal.at.slice_bounds-move_slots-end-2 c).After-count-n) _ c.share_list-room.ensures))

pub move_slots-requires : goal.move_slots-requires
move_slots-requires c =
    let z = c.requires in
    let v = c.args.v.now.valid in
    let q = front_shares _ v _ _ (many (goal.at.move_slots-requires c).After-count-n) _ c.share_list-room.ensures in
    record { fits = (rw (c.of-owners.ensures, q) (fitting _ v _ _ z.that_long), refl); small = slots-few z }

pub returns : goal.returns
returns c =
    let args = c.args in
    let q = front_shares _ args.v.now.valid _ _ (many (goal.at.returns c).After-count-n) _ c.share_list-room.ensures in
    let m = c.move_slots.ensures in
    record {
      count = m.count ∙ ap₂ (λ h k. freed_below h k args.table.now (length args.table.now)) c.of-owners.ensures q;
      owners = m.slots ∙ ap₂ (λ h k. moved h k args.table.now) c.of-owners.ensures q;
    }
