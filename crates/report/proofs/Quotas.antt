-- What the function `quotas` gives a roster that breaks no rule: at each host's place, its quota.
-- Assumes nothing.
use mathlib.Core.Path.{◌≡◌, ◌∙◌}
use mathlib.Core.Bool.{true}
use Prim.Native.Nat.{ℕ, ◌-◌, ◌≤◌, ◌<◌}
use lib.Dec.{leb}
use lib.ListN.{length}
use borrow.Author.Tests.{le-leb}
use Rattle.base.specs.Tables.{at}
use Rattle.base.specs.Sizes.{slots_fit}
use Rattle.base.proofs.Tests.{and_right, and_both, all_of}
use Rattle.base.proofs.Entries.{at_table, alike_zeros}
use Rattle.quota.specs.Quota.{quota, quotas, within_sizes, quotas_given}
use Rattle.roster.specs.declared.Roster.{Roster}
use Rattle.roster.specs.Roster.{rates_of, valid}
use Rattle.roster.proofs.Facts.{Facts, facts, length-rates, at-rates}

-- the rates of a valid roster are within the sizes of quotas
within : (r : Roster) (slots : ℕ) → valid r ≡ true → slots_fit slots ≡ true → within_sizes (rates_of r) slots ≡ true
unfolding within_sizes
within r slots right sizes =
    let f : Facts r = facts r right in
    and_both _ _
    (and_both _ _ (let few : length (rates_of r) ≤ 256 = rw (length-rates r f) f.few in le-leb _ _ few) (and_right (leb 1 slots) _ sizes))
    (all_of (length (rates_of r)) _ (λ i l. let low : i < r.count = rw (length-rates r f) at l in rw (at-rates r f i low) (f.each_rate_fits i low)))

-- what the function `quotas` gives at a host's place is its quota
pub quota-given : (r : Roster) (slots : ℕ) → valid r ≡ true → slots_fit slots ≡ true → (i : ℕ) → i < r.count → at (quotas_given (rates_of r) slots) i ≡ quota (rates_of r) slots i
unfolding quotas_given
quota-given r slots right sizes i l =
    rw (within r slots right sizes)
    (alike_zeros (256 - length (quotas (rates_of r) slots)) (quotas (rates_of r) slots) i ∙ at_table (length (rates_of r)) (quota (rates_of r) slots) i (rw (length-rates r (facts r right)) l))
