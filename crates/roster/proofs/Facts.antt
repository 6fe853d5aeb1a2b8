-- What a valid roster is, as facts; and the test of one place after the other, which comes to the same.
-- Assumes nothing.
use mathlib.Core.Path.{◌≡◌}
use mathlib.Core.Bool.{true, false, ◌&&◌, and-false}
use mathlib.Core.Logic.{⊎_elim, by_cases}
use Prim.Native.Nat.{ℕ, zero, suc, ◌-◌, ◌≤◌, ◌<◌}
use native.Mathlib.Nat.{not-suc-le-zero, lt_trans}
use native.Mathlib.Omega.{arith, by_contra}
use native.Mathlib.Decide.{dec_lt}
use lib.Dec.{leb, ltb, eqb}
use lib.ListN.{length, get_or-eq_default}
use lib.Seq.{length-take-le, get_or-take}
use borrow.Author.Tests.{lt-ltb, le-ltb, ltb-true, le-leb, lt-leb, leb-true, eq-eqb, eqb-true}
use Rattle.base.specs.Tables.{all, at}
use Rattle.base.specs.Sizes.{host_fits, rate_fits}
use Rattle.base.proofs.Tests.{below_suc, and_left, and_right, and_both, same_test, all-at, all_of}
use Rattle.roster.specs.declared.Roster.{Roster}
use Rattle.roster.specs.Places.{last_before, right_at}
use Rattle.roster.specs.Roster.{hosts_of, rates_of, sized, in_range, rising, zero_past, valid, Rises}

pub record Facts (r : Roster) : Type 0 where
  pub hosts_long : length r.hosts ≡ 256
  pub rates_long : length r.rates ≡ 256
  pub few : r.count ≤ 256
  pub each_host_fits : (i : ℕ) → i < r.count → host_fits (at r.hosts i) ≡ true
  pub each_rate_fits : (i : ℕ) → i < r.count → rate_fits (at r.rates i) ≡ true
  pub rises : (i : ℕ) → suc i < r.count → at r.hosts i < at r.hosts (suc i)
  pub no_host : (i : ℕ) → r.count ≤ i → at r.hosts i ≡ 0
  pub no_rate : (i : ℕ) → r.count ≤ i → at r.rates i ≡ 0

-- valid, and its facts -----------------------------------------------------------

module _ (r : Roster) (t : valid r ≡ true) where
  shape : (sized r && in_range r) ≡ true
  unfolding valid
  shape = and_left (sized r && in_range r) _ (and_left (sized r && in_range r && rising r) _ t)

  lengths : (eqb (length r.hosts) 256 && eqb (length r.rates) 256) ≡ true
  unfolding sized
  lengths = and_left (eqb (length r.hosts) 256 && eqb (length r.rates) 256) _ (and_left (sized r) _ shape)

  ranges : (all r.count (λ i. host_fits (at r.hosts i)) && all r.count (λ i. rate_fits (at r.rates i))) ≡ true
  unfolding in_range
  ranges = and_right (sized r) _ shape

  zeros : (i : ℕ) → i < 256 → r.count ≤ i → (eqb (at r.hosts i) 0 && eqb (at r.rates i) 0) ≡ true
  unfolding valid zero_past
  zeros i l h = rw (le-ltb i r.count h) at (all-at 256 _ (and_right (sized r && in_range r && rising r) _ t) i l)

  long_hosts : length r.hosts ≡ 256
  long_hosts = eqb-true _ _ (and_left (eqb (length r.hosts) 256) _ lengths)

  long_rates : length r.rates ≡ 256
  long_rates = eqb-true _ _ (and_right (eqb (length r.hosts) 256) _ lengths)

  pub facts : Facts r
  unfolding valid sized rising
  facts = record {
    hosts_long = long_hosts;
    rates_long = long_rates;
    few = leb-true _ _ (and_right (eqb (length r.hosts) 256 && eqb (length r.rates) 256) _ (and_left (sized r) _ shape));
    each_host_fits = all-at r.count _ (and_left (all r.count (λ i. host_fits (at r.hosts i))) _ ranges);
    each_rate_fits = all-at r.count _ (and_right (all r.count (λ i. host_fits (at r.hosts i))) _ ranges);
    rises = λ i h. ltb-true _ _ (all-at (r.count - 1) _ (and_right (sized r && in_range r) _ (and_left (sized r && in_range r && rising r) _ t)) i (omega arith));
    no_host = λ i h. by_cases (dec_lt i 256)
        (λ l. eqb-true _ _ (and_left (eqb (at r.hosts i) 0) _ (zeros i l h)))
        (λ w. get_or-eq_default r.hosts 0 (omega (arith, long_hosts, by_contra 256 i w)));
    no_rate = λ i h. by_cases (dec_lt i 256)
        (λ l. eqb-true _ _ (and_right (eqb (at r.hosts i) 0) _ (zeros i l h)))
        (λ w. get_or-eq_default r.rates 0 (omega (arith, long_rates, by_contra 256 i w)));
  }

pub too_many : (r : Roster) → 256 < r.count → valid r ≡ false
unfolding valid sized
too_many r h = rw (lt-leb _ _ h, and-false (eqb (length r.hosts) 256 && eqb (length r.rates) 256))

pub facts_valid : (r : Roster) → Facts r → valid r ≡ true
unfolding valid sized in_range rising zero_past
facts_valid r f =
    and_both _ _
    (and_both _ _
    (and_both _ _
    (and_both _ _ (and_both _ _ (eq-eqb _ _ f.hosts_long) (eq-eqb _ _ f.rates_long)) (le-leb _ _ f.few))
    (and_both _ _ (all_of r.count _ f.each_host_fits) (all_of r.count _ f.each_rate_fits)))
    (all_of (r.count - 1) _ (λ i l. lt-ltb _ _ (f.rises i (omega arith)))))
    (all_of 256 _ (λ i l. by_cases (dec_lt i r.count)
    (λ k. rw (lt-ltb i r.count k))
    (λ w. let h : r.count ≤ i = by_contra _ _ w in rw (le-ltb i r.count h, f.no_host i h, f.no_rate i h))))

-- the hosts and rates of a valid roster ----------------------------------------------

-- strictly rising from place to place is strictly rising
pub rise_apart : (n : ℕ) (f : ℕ → ℕ) → ((i : ℕ) → suc i < n → f i < f (suc i)) → (i j : ℕ) → i < j → j < n → f i < f j
rise_apart n f h i zero l k = absurd (not-suc-le-zero l)
rise_apart n f h i (suc j) l k =
    ⊎_elim
    (λ v. lt_trans (rise_apart n f h i j v (omega arith)) (h j k))
    (λ (e : i ≡ j). rw e (h j k))
    (below_suc l)

module _ (r : Roster) (f : Facts r) where
  pub length_hosts : length (hosts_of r) ≡ r.count
  length_hosts = length-take-le r.count r.hosts (rw f.hosts_long f.few)

  pub length-rates : length (rates_of r) ≡ r.count
  length-rates = length-take-le r.count r.rates (rw f.rates_long f.few)

  pub at_hosts : (i : ℕ) → i < r.count → at (hosts_of r) i ≡ at r.hosts i
  at_hosts i l = get_or-take r.count r.hosts i 0 l

  pub at-rates : (i : ℕ) → i < r.count → at (rates_of r) i ≡ at r.rates i
  at-rates i l = get_or-take r.count r.rates i 0 l

  pub hosts_rise : Rises (hosts_of r)
  hosts_rise i j l k =
      let h : j < r.count = rw length_hosts at k in
      rw (at_hosts i (lt_trans l h), at_hosts j h) (rise_apart r.count (at r.hosts) f.rises i j l h)

-- one place after the other -----------------------------------------------------------

-- every place is right exactly where the roster is valid, since a number of 16 bits is at most 65,535
pub places_right : (r : Roster) → length r.hosts ≡ 256 → length r.rates ≡ 256 → r.count ≤ 256 → ((i : ℕ) → at r.hosts i ≤ 65535) → all 256 (right_at r.hosts r.rates r.count) ≡ valid r
unfolding last_before
places_right r lh lr few narrow = same_test _ _ (λ t. facts_valid r (of_places t)) (λ t. all_of 256 _ (to_places (facts r t)))
  where
    h : ℕ → ℕ
    h = at r.hosts

    used : all 256 (right_at r.hosts r.rates r.count) ≡ true → (i : ℕ) → i < r.count → (ltb (last_before r.hosts i) (h i) && rate_fits (at r.rates i)) ≡ true
    used t i l = rw (lt-ltb i r.count l) at (all-at 256 _ t i (omega arith))

    above : all 256 (right_at r.hosts r.rates r.count) ≡ true → (i : ℕ) → i < r.count → last_before r.hosts i < h i
    above t i l = ltb-true _ _ (and_left (ltb (last_before r.hosts i) (h i)) _ (used t i l))

    unused : all 256 (right_at r.hosts r.rates r.count) ≡ true → (i : ℕ) → i < 256 → r.count ≤ i → (eqb (h i) 0 && eqb (at r.rates i) 0) ≡ true
    unused t i l k = rw (le-ltb i r.count k) at (all-at 256 _ t i l)

    of_places : all 256 (right_at r.hosts r.rates r.count) ≡ true → Facts r
    of_places t = record {
      hosts_long = lh;
      rates_long = lr;
      few = few;
      each_host_fits = λ i l. and_both _ _ (le-leb 1 (h i) (let v = above t i l in omega arith)) (le-leb (h i) 65535 (narrow i));
      each_rate_fits = λ i l. and_right (ltb (last_before r.hosts i) (h i)) _ (used t i l);
      rises = λ i l. above t (suc i) l;
      no_host = λ i k. by_cases (dec_lt i 256)
          (λ l. eqb-true _ _ (and_left (eqb (h i) 0) _ (unused t i l k)))
          (λ w. get_or-eq_default r.hosts 0 (omega (arith, by_contra 256 i w)));
      no_rate = λ i k. by_cases (dec_lt i 256)
          (λ l. eqb-true _ _ (and_right (eqb (h i) 0) _ (unused t i l k)))
          (λ w. get_or-eq_default r.rates 0 (omega (arith, by_contra 256 i w)));
    }

    first_above : Facts r → (i : ℕ) → i < r.count → last_before r.hosts i < h i
    first_above f zero l = leb-true 1 (h 0) (and_left (leb 1 (h 0)) _ (f.each_host_fits 0 l))
    first_above f (suc i) l = f.rises i l

    to_places : Facts r → (i : ℕ) → i < 256 → right_at r.hosts r.rates r.count i ≡ true
    to_places f i l =
        by_cases (dec_lt i r.count)
        (λ k. rw (lt-ltb i r.count k) (and_both _ _ (lt-ltb _ _ (first_above f i k)) (f.each_rate_fits i k)))
        (λ w. let k : r.count ≤ i = by_contra _ _ w in rw (le-ltb i r.count k, f.no_host i k, f.no_rate i k))
