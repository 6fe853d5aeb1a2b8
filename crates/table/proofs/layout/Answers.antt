-- `table::layout` meets its contract: settling a table of zeros gives each host its quota in a row.
use mathlib.Core.Path.{◌≡◌, sym, subst, ap, ap₂, ◌∙◌}
use lib.ListN.{replicate}
use Rattle.base.proofs.Refusals.{number_not_zero}
use Rattle.std.proofs.lemmas.Result.{err_from_is_err_and}
use Rattle.table.specs.Laws.{Sized}
use Rattle.table.specs.Table.{rearranged}
use Rattle.table.proofs.Moves.{blank_sized, fresh-moved}
use Rattle.table.proofs.Replies.{sizes_sized, layout_refused, layout_done}
use Rattle.table.proofs.layout.Goals as goal
use Rattle.table.proofs.layout.Goals.{In_ok-v, After-clear}

pub returns-in_err-v : goal.returns-in_err-v
returns-in_err-v c =
    let p = err_from_is_err_and c.from_residual.result c.from_residual.ensures.1 in
    let m = layout_refused _ _ _ _ c.in_err-v.ensures.answer (number_not_zero _) in
    record { answer = rw (p.1, p.2) (sym m.0); owners = sym m.1 }

-- past the `?` the sizes are right
sized : (c : In_ok-v) → let args = c.args in Sized args.r args.slots args.table.now
sized c = sizes_sized _ _ _ (sym c.in_ok-v.ensures.answer)

-- and then every slot is 0
blank : (c : After-clear) → let args = c.args in Sized args.r args.slots args.table.now → c.clear.new.table ≡ replicate args.slots 0
blank c z = c.clear.ensures ∙ ap (λ n. replicate n 0) z.that_long

pub settle-requires : goal.settle-requires
settle-requires c =
    let z = sized (goal.at.settle-requires c).In_ok-v in
    let zeros = blank (goal.at.settle-requires c).After-clear z in
    subst (λ r. Sized r c.args.slots c.clear.new.table) (sym c.in_ok-v.ensures.same) (subst (Sized c.args.r c.args.slots) (sym zeros) (blank_sized z))

pub returns : goal.returns
returns c =
    let args = c.args in
    let z = sized (goal.at.returns c).In_ok-v in
    let zeros = blank (goal.at.returns c).After-clear z in
    let done = layout_done _ _ _ z in
    record {
      answer = sym done.0;
      owners = c.settle.ensures.owners ∙ ap₂ (λ r l. rearranged r args.slots l) c.in_ok-v.ensures.same zeros ∙ fresh-moved _ _ (blank_sized z) ∙ sym done.1;
    }
