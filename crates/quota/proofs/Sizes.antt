-- What it takes for rates and slots to be within the sizes.
-- Assumes nothing.
use mathlib.Core.Path.{◌≡◌}
use mathlib.Core.Bool.{Bool, true, false, ◌&&◌, and-false}
use mathlib.Core.List.{List}
use Prim.Native.Nat.{ℕ, ◌≤◌, ◌<◌}
use lib.Dec.{leb}
use lib.ListN.{length}
use borrow.Author.Tests.{le-leb, lt-leb, leb-true}
use Rattle.std.specs.List.{list_all}
use Rattle.std.proofs.lemmas.List.Elements.{All-from_get_or}
use Rattle.std.proofs.lemmas.List.Sums.{AllPass-from_list_all, list_all-from_AllPass}
use Rattle.base.specs.Tables.{all, at}
use Rattle.base.proofs.Tests.{and_left, and_right, same_test, all-at, all_of}
use Rattle.base.specs.Sizes.{rate_fits}
use Rattle.quota.specs.Quota.{within_sizes}
use Rattle.quota.specs.Laws.{Positive}

pub too_many_hosts : (rates : List ℕ) (S : ℕ) → 256 < length rates → within_sizes rates S ≡ false
unfolding within_sizes
too_many_hosts rates S h = rw (lt-leb _ _ h)

pub too_many_slots : (rates : List ℕ) (S : ℕ) → 16384 < S → within_sizes rates S ≡ false
unfolding within_sizes
too_many_slots rates S h = rw (lt-leb _ _ h, and-false (leb (length rates) 256))

-- each element of a list passes a test exactly where each of its places does
pub each_place : (test : ℕ → Bool) (l : List ℕ) → list_all test l ≡ all (length l) (λ i. test (at l i))
each_place test l =
    same_test _ _
    (λ t. let each = AllPass-from_list_all test l t in all_of (length l) _ (λ i h. each i 0 h))
    (λ t. list_all-from_AllPass test l (All-from_get_or (λ x. test x ≡ true) l 0 (all-at (length l) _ t)))

pub rates_decide : (rates : List ℕ) (S : ℕ) → length rates ≤ 256 → S ≤ 16384 → within_sizes rates S ≡ all (length rates) (λ i. rate_fits (at rates i))
unfolding within_sizes
rates_decide rates S h k = rw (le-leb _ _ h, le-leb _ _ k)

module _ (rates : List ℕ) (S : ℕ) (t : within_sizes rates S ≡ true) where
  sizes : (leb (length rates) 256 && leb S 16384) ≡ true
  unfolding within_sizes
  sizes = and_left (leb (length rates) 256 && leb S 16384) _ t

  pub hosts_fit : length rates ≤ 256
  hosts_fit = leb-true _ _ (and_left (leb (length rates) 256) _ sizes)

  pub slots_fit_lem : S ≤ 16384
  slots_fit_lem = leb-true _ _ (and_right (leb (length rates) 256) _ sizes)

  pub rates_positive : Positive rates
  unfolding within_sizes
  rates_positive i l = leb-true _ _ (and_left (leb 1 (at rates i)) _ (all-at (length rates) _ (and_right (leb (length rates) 256 && leb S 16384) _ t) i l))
