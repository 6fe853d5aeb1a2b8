-- `table::sized` meets its contract: each test decides its row.
use borrow.Author.Tests.{ne_eqb}
use mathlib.Core.Path.{sym, ◌∙◌}
use Rattle.base.specs.Rows.{lowest}
use Rattle.table.proofs.Replies.{sizes_told}
use Rattle.table.proofs.sized.Goals as goal
use Rattle.table.proofs.sized.Goals.{then-not-slots_fit-via-then-not-slots_fit, then-not-slots_fit-via-else-not-slots_fit+then-length-slots}

pub returns-then-not-slots_fit-clause-answer : goal.returns-then-not-slots_fit-clause-answer
unfolding lowest
returns-then-not-slots_fit-clause-answer c =
    elim c.then-not-slots_fit.branch [
      | then-not-slots_fit-via-then-not-slots_fit w ↦ rw (sym c.slots_fit.ensures ∙ w.if-not-slots_fit.true)
      | then-not-slots_fit-via-else-not-slots_fit+then-length-slots w ↦ rw (sym c.slots_fit.ensures ∙ w.if-not-slots_fit.false, ne_eqb _ _ w.if-length-slots.true)
    ]

pub returns-clause-answer : goal.returns-clause-answer
returns-clause-answer c = sizes_told _ _ _ _ (sym c.slots_fit.ensures ∙ c.if-not-slots_fit.false) c.if-length-slots.false c.try_from.ensures
