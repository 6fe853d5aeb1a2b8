-- The greedy step keeps a cut: the claim that it grants is the least ungranted one. So the greedy rule gives the quotas.
-- Assumes nothing.
use mathlib.Core.Path.{◌≡◌, refl, ap, ◌∙◌, subst, subst⁻¹}
use mathlib.Core.Bool.{true, false}
use mathlib.Core.Logic.{◌≢◌, ⊎_elim, by_cases}
use mathlib.Core.List.{List}
use Prim.Native.Nat.{ℕ, zero, suc, ◌+◌, ◌*◌, ◌≤◌, ◌<◌, zero-le}
use native.Mathlib.Nat.{not-suc-le-zero, lt_of_mul-lt-mul_right, mul-le-mul_right, mul-lt-mul_of_pos_right, zero-mul, mul-pos, le_of_lt, le_refl, le_antisymm, eq-or-lt_of_le}
use native.Mathlib.Numerals.{add-one}
use native.Mathlib.Omega.{arith}
use native.Mathlib.Decide.{ℕ_discrete}
use lib.ListN.{length, set, replicate, length-set, length-replicate, get_or-replicate}
use lib.Seq.{get_or-set_same, get_or-set_other}
use borrow.Author.Tests.{ltb-true, ltb-false}
use Rattle.base.specs.Tables.{at, total}
use Rattle.base.proofs.Sums.{sum-at}
use Rattle.base.proofs.Entries.{total-set, total_zeros}
use Rattle.base.proofs.Tests.{below_suc, by_test}
use Rattle.quota.specs.Quota.{lighter}
use Rattle.quota.specs.Greedy.{least, grant, greedy}
use Rattle.quota.specs.Laws.{Positive}
use Rattle.quota.specs.Cut.{Before, Cut}

-- weights a / p < b / q ≤ c / r, compared across
lighter_trans : (a p b q c r : ℕ) → 0 < q → 0 < r → a * q < b * p → b * r ≤ c * q → a * r < c * p
lighter_trans a p b q c r hq hr l m =
    lt_of_mul-lt-mul_right q
    (let x : a * q * r < b * p * r = mul-lt-mul_of_pos_right l hr in
    let y : b * r * p ≤ c * q * p = mul-le-mul_right p m in
    omega arith)

-- place p is the first of 0 .. n-1 with the least next claim
pub record Least (rates held : List ℕ) (n p : ℕ) : Type 0 where
  pub no_heavier : (i : ℕ) → i < n → suc (at held p) * at rates i ≤ suc (at held i) * at rates p
  pub first : (i : ℕ) → i < p → suc (at held p) * at rates i < suc (at held i) * at rates p

pub least-within : (rates held : List ℕ) (n : ℕ) → least rates held (suc n) ≤ n
unfolding least
least-within rates held zero = by_test (lighter rates 0 (suc (at held 0)) 0 (suc (at held 0))) (λ t. rw t (omega arith)) (λ f. rw f (omega arith))
least-within rates held (suc n) =
    let best = least rates held (suc n) in
    let low : best ≤ n = least-within rates held n in
    by_test (lighter rates (suc n) (suc (at held (suc n))) best (suc (at held best))) (λ t. rw t (omega arith)) (λ f. rw f (omega arith))

least_one : (rates held : List ℕ) → least rates held 1 ≡ 0
least_one rates held = le_antisymm (least-within rates held 0) zero-le

pub least_is_least : (rates held : List ℕ) → Positive rates → (n : ℕ) → n < length rates → Least rates held (suc n) (least rates held (suc n))
unfolding least
least_is_least rates held pos zero l =
    subst⁻¹ (Least rates held 1) (least_one rates held)
    (record {
      no_heavier = λ i h. let e : i ≡ 0 = omega arith in rw e (le_refl _);
      first = λ i h. absurd (not-suc-le-zero h);
    })
least_is_least rates held pos (suc n) l =
    let best = least rates held (suc n) in
    let w : Least rates held (suc n) best = least_is_least rates held pos n (omega arith) in
    let low : best ≤ n = least-within rates held n in
    by_test (lighter rates (suc n) (suc (at held (suc n))) best (suc (at held best)))
    (λ t. rw t (taken best w low (ltb-true _ _ t)))
    (λ f. rw f (kept best w low (ltb-false _ _ f)))
  where
    -- place suc n is lighter than the best before it, so lighter than all before it
    taken : (b : ℕ) → Least rates held (suc n) b → b ≤ n → suc (at held (suc n)) * at rates b < suc (at held b) * at rates (suc n) → Least rates held (suc (suc n)) (suc n)
    taken b w low t =
        let each : (i : ℕ) → i < suc n → suc (at held (suc n)) * at rates i < suc (at held i) * at rates (suc n) = λ i h.
        lighter_trans (suc (at held (suc n))) (at rates (suc n)) (suc (at held b)) (at rates b) (suc (at held i)) (at rates i) (pos b (omega arith)) (pos i (omega arith)) t (w.no_heavier i h) in
        record {
          no_heavier = λ i h. ⊎_elim (λ k. le_of_lt (each i k)) (λ e. rw e (le_refl _)) (below_suc h);
          first = each;
        }

    kept : (b : ℕ) → Least rates held (suc n) b → b ≤ n → suc (at held b) * at rates (suc n) ≤ suc (at held (suc n)) * at rates b → Least rates held (suc (suc n)) b
    kept b w low f =
        record {
          no_heavier = λ i h. ⊎_elim (λ k. w.no_heavier i k) (λ e. rw e f) (below_suc h);
          first = w.first;
        }

-- the loop that looks for the least, a place further
module _ (rates held : List ℕ) (i best : ℕ) (so_far : best ≡ least rates held i) where
  pub least_taken : lighter rates i (suc (at held i)) best (suc (at held best)) ≡ true → i ≡ least rates held (i + 1)
  unfolding least
  least_taken t = rw (add-one i, ← so_far) (rw t)

  pub least_kept : lighter rates i (suc (at held i)) best (suc (at held best)) ≡ false → best ≡ least rates held (i + 1)
  unfolding least
  least_kept f = rw (add-one i, ← so_far) (rw f)

-- grant ------------------------------------------------------------------------

at-grant : (held : List ℕ) (p : ℕ) → p < length held → at (grant held p) p ≡ suc (at held p)
at-grant held p h = get_or-set_same held p _ 0 h

at_grant_other : (held : List ℕ) (p i : ℕ) → i ≢ p → at (grant held p) i ≡ at held i
at_grant_other held p i ne = get_or-set_other held p i _ 0 ne

at_grant_more : (held : List ℕ) (p i : ℕ) → p < length held → at held i ≤ at (grant held p) i
at_grant_more held p i h =
    by_cases (ℕ_discrete i p)
    (λ e. let v = at-grant held p h in rw e (omega arith))
    (λ ne. let v = at_grant_other held p i ne in omega arith)

pub total-grant : (held : List ℕ) (p : ℕ) → p < length held → total (grant held p) ≡ suc (total held)
total-grant held p h = let v = total-set held p (suc (at held p)) h in omega arith

-- a claim comes before a later one of the other host too
before_later : {rates : List ℕ} {i k j l : ℕ} (m : ℕ) → l ≤ m → Before rates i k j l → Before rates i k j m
before_later {rates} {i} {k} {j} {l} m h b =
    let up : l * at rates i ≤ m * at rates i = mul-le-mul_right (at rates i) h in
    record {
      no_heavier = omega (arith, b.no_heavier);
      lighter_from = λ w. let s : k * at rates j < l * at rates i = b.lighter_from w in omega arith;
    }

-- the least ungranted claim, granted, leaves a cut
pub grant_keeps_cut : {rates held : List ℕ} (p : ℕ) → p < length rates → Positive rates → Cut rates held → Least rates held (length rates) p → Cut rates (grant held p)
grant_keeps_cut {rates} {held} p hp pos c w =
    record {
      sized = length-set held p _ ∙ c.sized;
      cut = λ i j hi hj. by_cases (ℕ_discrete i p) (λ e. rw e (own j hj)) (λ ne. rw (at_grant_other held p i ne) (before_later _ (more j) (c.cut i j hi hj)));
    }
  where
    within : p < length held
    within = rw c.sized hp

    more : (j : ℕ) → suc (at held j) ≤ suc (at (grant held p) j)
    more j = let v = at_grant_more held p j within in omega arith

    own : (j : ℕ) → j < length rates → Before rates p (at (grant held p) p) j (suc (at (grant held p) j))
    own j hj =
        rw (at-grant held p within)
        (let up : suc (at held j) * at rates p ≤ suc (at (grant held p) j) * at rates p = mul-le-mul_right (at rates p) (more j) in
        record {
          no_heavier = omega (arith, w.no_heavier j hj);
          lighter_from = λ l. ⊎_elim
              (λ (e : j ≡ p). let r : 0 < at rates p = pos p hp in
              let v : at (grant held p) p ≡ suc (at held p) = at-grant held p within in
              rw e (rw v (omega arith)))
              (λ (k : j < p). let s : suc (at held p) * at rates j < suc (at held j) * at rates p = w.first j k in omega arith)
              (eq-or-lt_of_le l);
        })

-- greedy -----------------------------------------------------------------------

-- no slot given yet is a cut
pub zero-cut : (rates : List ℕ) → Positive rates → Cut rates (replicate (length rates) 0)
zero-cut rates pos =
    record {
      sized = length-replicate (length rates) 0;
      cut = λ i j hi hj. rw (get_or-replicate {A = ℕ} (length rates) i 0 0 hi)
          (let r : 0 < suc (at (replicate (length rates) 0) j) * at rates i = mul-pos (omega arith) (pos i hi) in
          record { no_heavier = omega (arith, zero-mul (at rates j)); lighter_from = λ l. omega (arith, zero-mul (at rates j)) });
    }

-- a step of the greedy rule, with at least one host
pub step_keeps_cut : {rates held : List ℕ} → 0 < length rates → Positive rates → Cut rates held →
    (least rates held (length rates) < length rates) × Cut rates (grant held (least rates held (length rates)))
step_keeps_cut {rates} {held} some pos c = go (length rates) refl some
  where
    go : (n : ℕ) → n ≡ length rates → 0 < n → (least rates held n < length rates) × Cut rates (grant held (least rates held n))
    go zero e l = absurd (not-suc-le-zero l)
    go (suc n) e l =
        let low : least rates held (suc n) ≤ n = least-within rates held n in
        let w : Least rates held (suc n) (least rates held (suc n)) = least_is_least rates held pos n (omega arith) in
        let hp : least rates held (suc n) < length rates = omega arith in
        (hp, grant_keeps_cut (least rates held (suc n)) hp pos c (subst (λ m. Least rates held m (least rates held (suc n))) e w))

pub greedy-cut : (rates : List ℕ) → 0 < length rates → Positive rates → (S : ℕ) → Cut rates (greedy rates S)
unfolding greedy
greedy-cut rates some pos zero = zero-cut rates pos
greedy-cut rates some pos (suc S) = (step_keeps_cut some pos (greedy-cut rates some pos S)).1

pub greedy-total : (rates : List ℕ) → 0 < length rates → Positive rates → (S : ℕ) → total (greedy rates S) ≡ S
unfolding greedy
greedy-total rates some pos zero = total_zeros (length rates)
greedy-total rates some pos (suc S) =
    let c = greedy-cut rates some pos S in
    total-grant (greedy rates S) _ (rw c.sized (step_keeps_cut some pos c).0) ∙ ap suc (greedy-total rates some pos S)

-- one turn of the loop that gives slots out
pub record Turned (rates held : List ℕ) (p : ℕ) : Type 0 where
  pub within : p < length held
  pub kept : Cut rates (set held p (at held p + 1))
  pub more : total (set held p (at held p + 1)) ≡ total held + 1
  pub holds-few : at held p ≤ total held

pub turn : (rates held : List ℕ) (p : ℕ) → 0 < length rates → Positive rates → Cut rates held → p ≡ least rates held (length rates) → Turned rates held p
turn rates held p some pos c e =
    let r = step_keeps_cut some pos c in
    let low : p < length held = rw (c.sized, e) r.0 in
    record {
      within = low;
      kept = rw (add-one (at held p), e) r.1;
      more = rw (add-one (at held p), add-one (total held)) (total-grant held p low);
      holds-few = sum-at (length held) (at held) p low;
    }
