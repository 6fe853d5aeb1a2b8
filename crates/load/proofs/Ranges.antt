-- What the tests that the load question makes tell of its numbers: load, slots and rates are in their ranges.
-- Assumes nothing.
use mathlib.Core.Path.{◌≡◌}
use mathlib.Core.Bool.{true}
use mathlib.Core.Logic.{◌≢◌}
use Prim.Native.Nat.{ℕ, ◌*◌, ◌≤◌, ◌<◌}
use native.Mathlib.Nat.{lt_of_lt_of_le, pos_of_ne-zero}
use native.Mathlib.Omega.{arith}
use lib.Dec.{leb}
use lib.ListN.{length}
use borrow.Author.Tests.{leb-true}
use Rattle.base.specs.Tables.{at, total}
use Rattle.base.specs.Sizes.{between, rate_fits}
use Rattle.base.proofs.Tests.{and_left, and_right}
use Rattle.base.proofs.Sums.{sum-at}
use Rattle.quota.specs.Laws.{Positive}
use Rattle.load.proofs.Totals.{sum_bounded}
use Rattle.roster.specs.declared.Roster.{Roster}
use Rattle.roster.specs.Roster.{rates_of, valid}
use Rattle.roster.proofs.Facts.{Facts, facts, length-rates, at-rates}

-- a number in a range
module _ (first last n : ℕ) (t : between first last n ≡ true) where
  pub from_first : first ≤ n
  from_first = leb-true _ _ (and_left (leb first n) _ t)

  pub to_last : n ≤ last
  to_last = leb-true _ _ (and_right (leb first n) _ t)

-- the rates of a valid roster
module _ (r : Roster) (t : valid r ≡ true) where
  f : Facts r
  f = facts r t

  pub rates-few : length (rates_of r) ≤ 256
  rates-few = rw (length-rates r f) f.few

  rate_in_range : (i : ℕ) → i < length (rates_of r) → rate_fits (at (rates_of r) i) ≡ true
  rate_in_range i l = let low : i < r.count = rw (length-rates r f) at l in rw (at-rates r f i low) (f.each_rate_fits i low)

  pub rate_most : (i : ℕ) → i < length (rates_of r) → at (rates_of r) i ≤ 1000000
  rate_most i l = to_last 1 1000000 _ (rate_in_range i l)

  pub rates_positive : Positive (rates_of r)
  rates_positive i l = from_first 1 1000000 (at (rates_of r) i) (rate_in_range i l)

  pub some_rates : r.count ≢ 0 → 0 < length (rates_of r)
  some_rates ne = rw (length-rates r f) (pos_of_ne-zero ne)

  pub sum_some : r.count ≢ 0 → 0 < total (rates_of r)
  sum_some ne =
      let first : 0 < length (rates_of r) = some_rates ne in
      lt_of_lt_of_le (from_first 1 1000000 (at (rates_of r) 0) (rate_in_range 0 first)) (sum-at (length (rates_of r)) (at (rates_of r)) 0 first)

  pub sum_most : total (rates_of r) ≤ 256000000
  sum_most =
      let most : total (rates_of r) ≤ length (rates_of r) * 1000000 = sum_bounded (length (rates_of r)) 1000000 (at (rates_of r)) rate_most in
      omega (arith, rates-few)
