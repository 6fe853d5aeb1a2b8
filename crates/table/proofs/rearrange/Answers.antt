-- `table::rearrange` meets its contract: past the sizes the table is settled.
use mathlib.Core.Path.{sym, subst, ap, ◌∙◌}
use Rattle.base.proofs.Refusals.{number_not_zero}
use Rattle.std.proofs.lemmas.Result.{err_from_is_err_and}
use Rattle.table.specs.Laws.{Sized}
use Rattle.table.specs.Table.{freed_slots, rearranged}
use Rattle.table.proofs.Replies.{sizes_sized, move_sizes, moved-to, move_done}
use Rattle.table.proofs.rearrange.Goals as goal
use Rattle.table.proofs.rearrange.Goals.{In_ok-v}

pub returns-in_err-v : goal.returns-in_err-v
returns-in_err-v c =
    let p = err_from_is_err_and c.from_residual.result c.from_residual.ensures.1 in
    let m = move_sizes _ _ _ _ c.in_err-v.ensures.answer (number_not_zero _) in
    record { reply = rw (p.1, p.2) (sym m.0); owners = sym m.1 }

-- past the `?` the sizes are right
sized : (c : In_ok-v) → let args = c.args in Sized args.r args.slots args.table.now
sized c = sizes_sized _ _ _ (sym c.in_ok-v.ensures.answer)

pub settle-requires : goal.settle-requires
settle-requires c = subst (λ r. Sized r c.args.slots c.args.table.now) (sym c.in_ok-v.ensures.same) (sized (goal.at.settle-requires c).In_ok-v)

pub returns : goal.returns
returns c =
    let args = c.args in
    let z = sized (goal.at.returns c).In_ok-v in
    let same = c.in_ok-v.ensures.same in
    let m = c.settle.ensures in
    record {
      reply = sym (move_done _ _ _ z _ (m.count ∙ ap (λ r. freed_slots r args.slots args.table.now) same));
      owners = m.owners ∙ ap (λ r. rearranged r args.slots args.table.now) same ∙ sym (moved-to _ _ _ z);
    }
