-- The laws a to g of the quotas, from one fact: the quotas are a cut.
-- Assumes nothing.
use mathlib.Core.Path.{◌≡◌, refl, sym, ap, ◌∙◌, subst}
use mathlib.Core.Bool.{◌&&◌}
use mathlib.Core.Logic.{⊎_elim, by_cases}
use mathlib.Core.List.{List, [], ◌∷◌}
use Prim.Native.Nat.{ℕ, zero, suc, ◌+◌, ◌-◌, ◌*◌, ◌≤◌, ◌<◌}
use native.Mathlib.Nat.{lt_of_mul-lt-mul_right, mul-le-mul_right, mul-le-mul_left, le_of_lt, le_of_eq, le_of_mul-le-mul_right, zero-lt-suc, lt_of_lt_of_le}
use native.Mathlib.Omega.{arith, by_contra}
use native.Mathlib.Decide.{dec_lt, ℕ_discrete}
use lib.Dec.{eqb}
use lib.ListN.{length, set, length-set}
use lib.Seq.{get_or-set_same, get_or-set_other, set-set, set-get_or}
use borrow.Author.Tests.{eqb-true}
use Rattle.base.specs.Tables.{sum, table, at, total}
use Rattle.base.specs.Lists.{insert_at, remove_at, skip}
use Rattle.base.proofs.Sums.{sum_gap, sum_same, somewhere_more, sum-mul, sum-add, sum_const, sum_picked}
use Rattle.base.proofs.Entries.{at_table, total-table, length_insert, at_insert_skip, every_insert, every_remove, every_set, insert_removed, length_remove, skip_rises, skip-within}
use Rattle.base.proofs.Tests.{and_left, and_right, all-at}
use Rattle.quota.specs.Quota.{quota, quotas}
use Rattle.quota.specs.Greedy.{greedy, is_cut}
use Rattle.quota.specs.Laws.{Positive, MoreClaims, SumIsSlots, LeastGreatestRatio, Bounded, OneWay, AddTakes, DropGives, RiseTakes, FallGives, EqualRates, GreedyGives, CutIsQuotas}
use Rattle.quota.specs.Cut.{Before, Cut}
use Rattle.quota.proofs.Cut.{before_facts, granted_of_cut, cut_is_quotas}
use Rattle.quota.proofs.Step.{greedy-cut, greedy-total}

-- the quotas themselves ----------------------------------------------------------

-- f. with no hosts both are empty
none-greedy : (S : ℕ) → greedy [] S ≡ []
unfolding greedy
none-greedy zero = refl
none-greedy (suc S) = rw (none-greedy S) refl

pub greedy_gives : GreedyGives
unfolding table
greedy_gives [] pos S = none-greedy S
greedy_gives (r ∷ rates) pos S =
    let some = zero-lt-suc (length rates) in
    cut_is_quotas (greedy-cut (r ∷ rates) some pos S) S (greedy-total (r ∷ rates) some pos S)

module _ (rates : List ℕ) (pos : Positive rates) (some : 0 < length rates) (S : ℕ) where
  quotas-cut : Cut rates (quotas rates S)
  quotas-cut = subst (Cut rates) (greedy_gives rates pos S) (greedy-cut rates some pos S)

  quotas-total : total (quotas rates S) ≡ S
  quotas-total = ap total (sym (greedy_gives rates pos S)) ∙ greedy-total rates some pos S

  at-quotas : (i : ℕ) → i < length rates → at (quotas rates S) i ≡ quota rates S i
  at-quotas i l = at_table (length rates) (quota rates S) i l

  -- the cut, and the sum, said of each quota
  pub quota-cut : (i j : ℕ) → i < length rates → j < length rates → Before rates i (quota rates S i) j (suc (quota rates S j))
  quota-cut i j hi hj = rw (← at-quotas i hi, ← at-quotas j hj) (quotas-cut.cut i j hi hj)

  pub quota-sum : sum (length rates) (quota rates S) ≡ S
  quota-sum = sym (total-table (length rates) (quota rates S)) ∙ quotas-total

pub more_claims : MoreClaims
more_claims rates pos S most room i l =
    let some : 0 < length rates = omega arith in
    granted_of_cut (quotas-cut rates pos some S) most S i (quotas-total rates pos some S) room l ∙ at-quotas rates pos some S i l

pub sum_is_slots : SumIsSlots
sum_is_slots rates pos some S = quotas-total rates pos some S

-- b. ratio ---------------------------------------------------------------------------

pub least_greatest_ratio : LeastGreatestRatio
least_greatest_ratio rates pos S slots d i hi =
    let some : 0 < length rates = omega arith in
    let q = quota rates S in
    let same : sum (length rates) (at slots) ≡ sum (length rates) q = subst (λ n. sum n (at slots) ≡ S) d.a_host_each d.all-given ∙ sym (quota-sum rates pos some S) in
    ⊎_elim
    (λ m. let j = m.0 in
    let b : Before rates i (q i) j (suc (q j)) = quota-cut rates pos some S i j hi m.1 in
    let up : suc (q j) * at rates i ≤ at slots j * at rates i = mul-le-mul_right (at rates i) m.2 in
    (j, m.1, omega (arith, b.no_heavier)))
    (λ low. (i, hi, let e : at slots i ≡ q i = sum_same (length rates) (at slots) q low same i hi in le_of_eq (rw e refl)))
    (somewhere_more (length rates) (at slots) q)

-- c. bound ---------------------------------------------------------------------------

pub bounded : Bounded
bounded rates pos S i hi =
    let some : 0 < length rates = omega arith in
    let n = length rates in
    let q = quota rates S in
    let each : (j : ℕ) → j < n → at rates j * q i ≤ (q j + 1) * at rates i = λ j hj.
    let b : Before rates i (q i) j (suc (q j)) = quota-cut rates pos some S i j hi hj in omega (arith, b.no_heavier) in
    let gap : sum n (λ j. at rates j * q i) + at rates i ≤ sum n (λ j. (q j + 1) * at rates i) =
    sum_gap n (λ j. at rates j * q i) (λ j. (q j + 1) * at rates i) i (at rates i) each hi (omega arith) in
    let left : sum n (λ j. at rates j * q i) ≡ total rates * q i = sum-mul n (at rates) (q i) in
    let right : sum n (λ j. (q j + 1) * at rates i) ≡ sum n (λ j. q j + 1) * at rates i = sum-mul n (λ j. q j + 1) (at rates i) in
    let more : sum n (λ j. q j + 1) ≡ S + n - 1 + 1 = sum-add n q (λ j. 1) ∙ (let a = sum_const n 1 in let b = quota-sum rates pos some S in omega arith) in
    let whole : sum n (λ j. q j + 1) * at rates i ≡ (S + n - 1 + 1) * at rates i = ap (λ k. k * at rates i) more in
    bound_of (q i) (total rates) (at rates i) (S + n - 1) (omega arith)
  where
    bound_of : (a t r k : ℕ) → t * a + r ≤ (k + 1) * r → a * t ≤ r * k
    bound_of a t r k h = omega arith

-- d. one way ---------------------------------------------------------------------------

pub one_way : OneWay
one_way rates rates' pos pos' place rises within no_fall S i hi own =
    by_contra _ _ λ gains.
    let q = quota rates S in
    let q' = quota rates' S in
    let n = length rates in
    let some : 0 < n = omega arith in
    let some' : 0 < length rates' = let w = within i hi in omega arith in
    let picked : sum n (λ j. q' (place j)) ≤ S = subst (λ t. sum n (λ j. q' (place j)) ≤ t) (quota-sum rates' pos' some' S) (sum_picked n (length rates') q' place rises within) in
    ⊎_elim
    (λ m. let j = m.0 in let hj = m.1 in
    let old : Before rates j (q j) i (suc (q i)) = quota-cut rates pos some S j i hj hi in
    let new : Before rates' (place i) (q' (place i)) (place j) (suc (q' (place j))) = quota-cut rates' pos' some' S (place i) (place j) (within i hi) (within j hj) in
    let a : suc (q i) * at rates j ≤ q' (place i) * at rates j = mul-le-mul_right (at rates j) gains in
    let b : q' (place i) * at rates j ≤ q' (place i) * at rates' (place j) = mul-le-mul_left (q' (place i)) (no_fall j hj) in
    let c : suc (q' (place j)) * at rates i ≤ q j * at rates i = mul-le-mul_right (at rates i) m.2 in
    let e : suc (q' (place j)) * at rates' (place i) ≡ suc (q' (place j)) * at rates i = ap (λ r. suc (q' (place j)) * r) own in
    by_cases (dec_lt j i)
    (λ l. let s : q' (place i) * at rates' (place j) < suc (q' (place j)) * at rates' (place i) = new.lighter_from (le_of_lt (rises j i l hi)) in
    omega (arith, old.no_heavier))
    (λ w. let l : i ≤ j = by_contra _ _ w in
    let s : q j * at rates i < suc (q i) * at rates j = old.lighter_from l in
    omega (arith, new.no_heavier)))
    (λ low. let g : sum n q + 1 ≤ sum n (λ j. q' (place j)) = sum_gap n q (λ j. q' (place j)) i 1 low hi (omega arith) in
    let t = quota-sum rates pos some S in
    omega arith)
    (somewhere_more n q (λ j. q' (place j)))

pub add-takes : AddTakes
add-takes rates pos p r within some S i hi =
    let same : (k : ℕ) → at (insert_at p r rates) (skip p k) ≡ at rates k = at_insert_skip p r rates within in
    one_way rates (insert_at p r rates) pos (every_insert (λ v. 0 < v) p r rates within some pos) (skip p)
    (λ i j l h. skip_rises p i j l)
    (λ k h. rw (length_insert p r rates within) (skip-within p (length rates) k h))
    (λ k h. le_of_eq (sym (same k)))
    S i hi (same i)

-- a drop is an add read backwards
pub drop_gives : DropGives
drop_gives rates pos p h S i hi =
    let within : p ≤ length (remove_at p rates) = let e = length_remove p rates h in omega arith in
    subst (λ l. quota l S (skip p i) ≤ quota (remove_at p rates) S i) (insert_removed p rates h)
    (add-takes (remove_at p rates) (every_remove (λ v. 0 < v) p rates h pos) p (at rates p) within (pos p h) S i hi)

pub rise-takes : RiseTakes
rise-takes rates pos p r h up S i hi ne =
    one_way rates (set rates p r) pos (every_set (λ v. 0 < v) rates p r (lt_of_lt_of_le (pos p h) up) pos) (λ k. k)
    (λ i j l _. l)
    (λ k hk. rw (length-set rates p r) hk)
    no_fall
    S i hi (get_or-set_other rates p i r 0 ne)
  where
    no_fall : (k : ℕ) → k < length rates → at rates k ≤ at (set rates p r) k
    no_fall k hk =
        by_cases (ℕ_discrete k p)
        (λ e. rw e (rw (get_or-set_same rates p r 0 h) up))
        (λ w. le_of_eq (sym (get_or-set_other rates p k r 0 w)))

-- a fall is a rise read backwards
pub fall_gives : FallGives
fall_gives rates pos p r h some down S i hi ne =
    let back : set (set rates p r) p (at rates p) ≡ rates = set-set rates p r (at rates p) ∙ set-get_or rates p 0 in
    let l : p < length (set rates p r) = rw (length-set rates p r) h in
    subst (λ k. quota k S i ≤ quota (set rates p r) S i) back
    (rise-takes (set rates p r) (every_set (λ v. 0 < v) rates p r some pos) p (at rates p) l (rw (get_or-set_same rates p r 0 h) down) S i (rw (length-set rates p r) hi) ne)

-- e. equal rates -------------------------------------------------------------------------

pub equal_rates : EqualRates
equal_rates rates pos S i j l hj same =
    let hi : i < length rates = omega arith in
    let some : 0 < length rates = omega arith in
    let r = at rates j in
    let some-rate : 0 < r = pos j hj in
    let q = quota rates S in
    let up : Before rates j (q j) i (suc (q i)) = quota-cut rates pos some S j i hj hi in
    let down : Before rates i (q i) j (suc (q j)) = quota-cut rates pos some S i j hi hj in
    let a : q j < suc (q i) = lt_of_mul-lt-mul_right r (rw same at (up.lighter_from (le_of_lt l))) in
    let b : q i ≤ suc (q j) = le_of_mul-le-mul_right (rw same at down.no_heavier) some-rate in
    (omega arith, omega arith)

-- g. certificate -----------------------------------------------------------------------

pub cut_test_is_quotas : CutIsQuotas
unfolding is_cut
cut_test_is_quotas rates held S t =
    let n = length rates in
    let first = eqb (length held) n && eqb (total held) S in
    let sizes = and_left first _ t in
    let c : Cut rates held = record {
      sized = eqb-true _ _ (and_left (eqb (length held) n) _ sizes);
      cut = λ i j hi hj. before_facts (all-at n _ (all-at n _ (and_right first _ t) i hi) j hj);
    } in
    cut_is_quotas c S (eqb-true _ _ (and_right (eqb (length held) n) _ sizes))
