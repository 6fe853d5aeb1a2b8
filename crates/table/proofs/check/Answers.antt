-- `table::check` meets its contract: a stranger, a wrong count, or a table that belongs.
use native.Mathlib.Omega.{arith}
use mathlib.Core.Path.{◌≡◌, sym, ap, ap₂, subst, ◌∙◌}
use mathlib.Core.Bool.{not}
use lib.ListN.{length}
use lib.Seq.{length-take-le}
use Rattle.base.specs.Tables.{first, at}
use Rattle.base.specs.declared.Refusal.TheVariants.{WrongTable}
use Rattle.base.specs.Refusals.{number_of}
use Rattle.base.proofs.Refusals.{number_not_zero}
use Rattle.std.proofs.lemmas.Result.{err_from_is_err_and}
use Rattle.roster.specs.Roster.{is_on}
use Rattle.mover.specs.Mover.{quota_of}
use Rattle.mover.specs.Pass.{frees}
use Rattle.mover.proofs.Laws.{freed_is_frees}
use Rattle.table.specs.Answers.{checked}
use Rattle.table.specs.Table.{owners, stranger, freed_slots}
use Rattle.table.specs.Laws.{Sized}
use Rattle.table.proofs.Owners.{shares_each, front_shares, shares_fit}
use Rattle.table.proofs.Replies.{sizes_sized, slots-few, sizes_low, check_sizes, stranger_is, check_stranger, check_count, check_belongs}
use Rattle.table.proofs.check.Goals as goal
use Rattle.table.proofs.check.Goals.{In_ok-v, After-first_stranger, After-count, After-tally}

pub returns-in_err-v-clause-reply : goal.returns-in_err-v-clause-reply
returns-in_err-v-clause-reply c =
    let p = err_from_is_err_and c.from_residual.result c.from_residual.ensures.1 in
    rw (p.1, p.2) (sym (check_sizes _ _ _ _ c.in_err-v.ensures.answer (number_not_zero _)))

pub returns-in_err-v-clause-with_slot : goal.returns-in_err-v-clause-with_slot
returns-in_err-v-clause-with_slot c = λ e.
    let p = err_from_is_err_and c.from_residual.result c.from_residual.ensures.1 in
    let low = sizes_low c.args.r c.args.slots (length c.args.table.now) in
    let same : c.in_err-v.field-0.0 ≡ WrongTable = cc (p.1, p.2, e) in
    let three = ap number_of same in
    omega (arith, c.in_err-v.ensures.answer)

-- past the `?` the sizes are right
sized : (c : In_ok-v) → let args = c.args in Sized c.in_ok-v.v.roster args.slots args.table.now
sized c = subst (λ r. Sized r c.args.slots c.args.table.now) (sym c.in_ok-v.ensures.same) (sizes_sized _ _ _ (sym c.in_ok-v.ensures.answer))

-- the search for a stranger among the owners is that of the definition
same_search : (c : After-first_stranger) → let args = c.args in
    Sized c.in_ok-v.v.roster args.slots args.table.now →
    first (length args.table.now) (λ i. not (is_on c.of-owners.result.numbers.now (at args.table.now i))) ≡ stranger c.in_ok-v.v.roster args.table.now
same_search c z =
    let args = c.args in
    ap (λ h. first (length args.table.now) (λ i. not (is_on h (at args.table.now i)))) c.of-owners.ensures ∙ stranger_is _ _ _ z

pub returns-in-Some-clause-reply : goal.returns-in-Some-clause-reply
returns-in-Some-clause-reply c =
    let here = goal.at.returns-in-Some-clause-reply c in
    let z = sized here.In_ok-v in
    let found = c.in-Some.ensures in
    sym (check_stranger _ _ _ z _ (found.1 ∙ same_search here.After-first_stranger z) found.0)
    ∙ ap (λ r. checked r c.args.slots c.args.table.now) c.in_ok-v.ensures.same

pub share_list-room-requires : goal.share_list-room-requires
share_list-room-requires c = (sized (goal.at.share_list-room-requires c).In_ok-v).count_fits

many : (c : After-count) → c.count.result ≡ length (owners c.in_ok-v.v.roster)
many c = c.count.ensures ∙ ap length c.of-owners.ensures

pub slice_bounds-room-end : goal.slice_bounds-room-end
slice_bounds-room-end c = shares_fit _ c.in_ok-v.v.valid _ _ (many c) _ c.share_list-room.ensures

pub slice_bounds-tally-end : goal.slice_bounds-tally-end
slice_bounds-tally-end c = sym (length-take-le _ _ (shares_fit _ c.in_ok-v.v.valid _ _ (many (goal.at.slice_bounds-tally-end c).After-count) _ c.share_list-room.ensures))

pub tally-requires : goal.tally-requires
tally-requires c =
    let here = goal.at.tally-requires c in
    let v = c.in_ok-v.v.valid in (
      ap length (front_shares _ v _ _ (many here.After-count) _ c.share_list-room.ensures) ∙ shares_each _ v _ ∙ ap length (sym c.of-owners.ensures),
      slots-few (sized here.In_ok-v),
    )

-- what was counted is what is freed
counted : (c : After-tally) → c.count.result ≡ length (owners c.in_ok-v.v.roster) → c.tally.result ≡ freed_slots c.in_ok-v.v.roster c.args.slots c.args.table.now
counted c n =
    let args = c.args in
    let v = c.in_ok-v.v.valid in
    c.tally.ensures.counted
    ∙ ap₂ (λ h q. frees (quota_of h q) args.table.now) c.of-owners.ensures (front_shares _ v _ _ n _ c.share_list-room.ensures)
    ∙ freed_is_frees _ _ _

pub returns-then-tally-ne0-clause-reply : goal.returns-then-tally-ne0-clause-reply
returns-then-tally-ne0-clause-reply c =
    let here = goal.at.returns-then-tally-ne0-clause-reply c in
    let z = sized here.In_ok-v in
    let none = sym c.in_default.ensures ∙ same_search here.After-first_stranger z in
    sym (check_count _ _ _ z _ none (λ e. c.if-tally-ne0.true (counted here.After-tally (many here.After-count) ∙ e)))
    ∙ ap (λ r. checked r c.args.slots c.args.table.now) c.in_ok-v.ensures.same

pub returns-clause-reply : goal.returns-clause-reply
returns-clause-reply c =
    let here = goal.at.returns-clause-reply c in
    sym (check_belongs _ _ _ (sized here.In_ok-v) (sym (counted here.After-tally (many here.After-count)) ∙ c.if-tally-ne0.false))
    ∙ ap (λ r. checked r c.args.slots c.args.table.now) c.in_ok-v.ensures.same
