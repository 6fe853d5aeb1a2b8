-- `load::carries` meets its contract: past the tests the numbers are in their ranges, and the sums from the list are the definition's.
use mathlib.Core.Path.{◌≡◌, sym, ap, ap₂, ◌∙◌}
use mathlib.Core.Bool.{true}
use lib.Dec.{leb}
use Rattle.std.specs.List.{sum_by}
use Rattle.base.specs.Tables.{total}
use Rattle.roster.specs.Roster.{rates_of, valid}
use Rattle.load.specs.Load.{most_kept}
use Rattle.load.proofs.Ranges.{sum_some, sum_most}
use Rattle.load.proofs.Replies.{carried-done}
use Rattle.load.proofs.Totals.{carries_sum}
use Rattle.load.proofs.carries.Goals as goal
use Rattle.load.proofs.carries.Goals.{After-rate_sum}

-- past the tests the rates that are summed are those of the roster handed in, which breaks no rule
module _ (c : After-rate_sum) where
  right : valid c.args.r ≡ true
  right = rw c.in_ok-roster.ensures at c.in_ok-roster.roster.valid

  listed : c.rates-rates.result.now ≡ rates_of c.args.r
  listed = c.rates-rates.ensures ∙ ap rates_of c.in_ok-roster.ensures

pub invariant_of-asked-clause-all_in_range : goal.invariant_of-asked-clause-all_in_range
invariant_of-asked-clause-all_in_range c =
    let past = (goal.at.invariant_of-asked-clause-all_in_range c).After-rate_sum in
    rw (c.rate_sum.ensures, listed past) (sum_some c.args.r (right past) c.if-r-eq0.false, sum_most c.args.r (right past))

pub returns : goal.returns
returns c =
    let args = c.args in
    let past = (goal.at.returns c).After-rate_sum in
    let held : c.most_held.result ≡ sum_by (most_kept args.load args.slots (total (rates_of args.r))) (rates_of args.r) =
    c.most_held.ensures ∙ ap (λ all. sum_by (most_kept args.load args.slots all) c.rates-rates.result.now) c.rate_sum.ensures
    ∙ ap (λ rates. sum_by (most_kept args.load args.slots (total rates)) rates) (listed past) in
    ap (λ b. record { answer = 0; carries = b }) (ap₂ leb c.from.ensures held ∙ sym (carries_sum args.load args.slots (rates_of args.r)))
    ∙ sym (carried-done args.r args.slots args.load (sym c.slots_fit.ensures ∙ c.if-not-slots_fit.false) (right past) c.if-r-eq0.false (sym c.load_fits.ensures ∙ c.if-not-load_fits.false))
