-- Sums place by place and from a list, and how large they are.
-- Assumes nothing.
use mathlib.Core.Path.{◌≡◌, refl, ap}
use Prim.Native.Nat.{ℕ, ◌*◌, ◌≤◌, ◌<◌}
use native.Mathlib.Omega.{arith}
use mathlib.Core.List.{List, ◌∷◌}
use lib.ListN.{length}
use Rattle.std.specs.List.{sum_by}
use Rattle.std.proofs.lemmas.List.Recursion.{is_sum_by}
use lib.Dec.{leb}
use Rattle.base.specs.Tables.{sum, at, total}
use Rattle.load.specs.Load.{most_kept, carries_all}
use Rattle.base.proofs.Sums.{sum_le, sum_front, sum_const}

-- each place at most c
pub sum_bounded : (n c : ℕ) (f : ℕ → ℕ) → ((i : ℕ) → i < n → f i ≤ c) → sum n f ≤ n * c
sum_bounded n c f h = let r : sum n f ≤ sum n (λ i. c) = sum_le n f (λ i. c) h in let e : sum n (λ i. c) ≡ n * c = sum_const n c in omega arith

-- the library's sum over a list is the sum place by place
pub sum_by_places : (f : ℕ → ℕ) (l : List ℕ) → sum (length l) (λ i. f (at l i)) ≡ sum_by f l
unfolding sum
sum_by_places f = is_sum_by (λ l. sum (length l) (λ i. f (at l i))) f refl (λ x l. sum_front (length l) (λ i. f (at (x ∷ l) i)))

pub total_places : (l : List ℕ) → total l ≡ sum_by (λ x. x) l
total_places l = sum_by_places (λ x. x) l

pub ruleset place_by_place = (sum_by_places, total_places)

-- so the hosts could hold all slots and keep up exactly when their sum from the list is that much
pub carries_sum : (load slots : ℕ) (rates : List ℕ) → carries_all load slots rates ≡ leb slots (sum_by (most_kept load slots (total rates)) rates)
unfolding carries_all
carries_sum load slots rates = ap (leb slots) (sum_by_places (most_kept load slots (total rates)) rates)
