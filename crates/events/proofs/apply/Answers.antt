-- `events::apply` meets its contract: a refusal leaves all, and past the checks the move is not refused.
use mathlib.Core.Path.{sym, ap, ◌∙◌}
use Rattle.base.proofs.Refusals.{number_not_zero}
use Rattle.mover.specs.Mover.{changes}
use Rattle.table.specs.Answers.{moved_to}
use Rattle.table.specs.Laws.{Sized}
use Rattle.table.specs.Told.{told_move}
use Rattle.table.proofs.Replies.{moved-to}
use Rattle.events.specs.Events.{changed}
use Rattle.events.proofs.Outcomes.{accepted_check, changed-sized, refused_reply, accepted_reply, new_table, move_is_ok}
use Rattle.events.proofs.apply.Goals as goal
use Rattle.events.proofs.apply.Goals.{In-Ok}

pub returns-in-Err : goal.returns-in-Err
returns-in-Err c =
    let m = refused_reply _ _ _ _ _ (sym c.in-Err.ensures.answer) (number_not_zero _) in
    record { reply = sym m.0; owners = sym m.1 }

-- past the checks the changed roster is as well sized
sized : (c : In-Ok) → let args = c.args in Sized (changed args.r args.event) args.slots args.table.now
sized c = let z = sym c.in-Ok.ensures.answer in changed-sized _ _ c.args.event _ (accepted_check _ _ c.args.event _ z)

pub unwrap-moved-requires : goal.unwrap-moved-requires
unwrap-moved-requires c =
    let s = sized (goal.at.unwrap-moved-requires c).In-Ok in
    move_is_ok _ _ _ s _ c.in-Ok.ensures.next _ c.rearrange.ensures.reply

pub returns-in-Ok : goal.returns-in-Ok
returns-in-Ok c =
    let args = c.args in
    let next = c.in-Ok.ensures.next in
    let z = sym c.in-Ok.ensures.answer in
    let to = ap (λ r. moved_to r args.slots args.table.now) next ∙ moved-to _ _ _ (sized (goal.at.returns-in-Ok c).In-Ok) in
    let reply = ap told_move (sym c.unwrap-moved.ensures) ∙ c.rearrange.ensures.reply in
    let count = ap (λ x. x.count) reply ∙ ap (changes args.table.now) to in
    record {
      reply = sym (accepted_reply _ _ args.event _ z _ _ next count);
      owners = c.rearrange.ensures.owners ∙ to ∙ sym (new_table _ _ args.event _ z);
    }
