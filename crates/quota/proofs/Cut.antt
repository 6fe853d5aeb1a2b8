-- A cut: a division in which every granted claim comes before every ungranted one. There is one only, and it is the quotas.
-- Assumes nothing.
use mathlib.Core.Path.{◌≡◌, sym, ◌∙◌}
use mathlib.Core.Bool.{true}
use mathlib.Core.Logic.{by_cases}
use mathlib.Core.List.{List}
use Prim.Native.Nat.{ℕ, suc, ◌*◌, ◌≤◌, ◌<◌}
use native.Mathlib.Nat.{lt_of_mul-lt-mul_right, mul-le-mul_right}
use native.Mathlib.Omega.{arith, by_contra}
use native.Mathlib.Decide.{dec_lt}
use lib.Dec.{ltb, eqb}
use lib.ListN.{length}
use borrow.Author.Tests.{lt-ltb, le-ltb, ltb-true, ltb-false, eqb-true, eq-eqb}
use Rattle.base.specs.Tables.{count, at, total}
use Rattle.base.proofs.Sums.{sum_gap, sum_le, sum-at, count_le, count_ext, count_below}
use Rattle.base.proofs.Entries.{is_table}
use Rattle.base.proofs.Tests.{by_test, and_left, and_right}
use Rattle.quota.specs.Quota.{before, rank, granted, quotas}
use Rattle.quota.specs.Cut.{Before, Cut}

pub before_facts : {rates : List ℕ} {i k j l : ℕ} → before rates i k j l ≡ true → Before rates i k j l
before_facts {rates} {i} {k} {j} {l} h =
    by_test (ltb a b)
    (λ t. let w : a < b = ltb-true a b t in record { no_heavier = omega arith; lighter_from = λ _. w })
    (λ f. let e = rw f at h in
    let same : a ≡ b = eqb-true a b (and_left (eqb a b) (ltb i j) e) in
    let low : i < j = ltb-true i j (and_right (eqb a b) (ltb i j) e) in
    record { no_heavier = omega arith; lighter_from = λ w. absurd (omega arith) })
  where
    a : ℕ
    a = k * at rates j

    b : ℕ
    b = l * at rates i

pub facts_before : {rates : List ℕ} {i k j l : ℕ} → Before rates i k j l → before rates i k j l ≡ true
facts_before {rates} {i} {k} {j} {l} w =
    by_test (ltb a b)
    (λ t. rw t)
    (λ f. let same : a ≡ b = let v : b ≤ a = ltb-false a b f in omega arith in
    let low : i < j = by_contra _ _ λ v. let s : a < b = w.lighter_from (omega arith) in omega arith in
    rw (f, eq-eqb a b same, lt-ltb i j low))
  where
    a : ℕ
    a = k * at rates j

    b : ℕ
    b = l * at rates i

module _ {rates held : List ℕ} (c : Cut rates held) where
  -- a claim that comes before a granted one is granted
  granted-before : (i k j l : ℕ) → i < length rates → j < length rates → k < at held i → before rates j (suc l) i (suc k) ≡ true → l < at held j
  granted-before i k j l hi hj low h =
      by_contra _ _ λ w.
      let b : Before rates j (suc l) i (suc k) = before_facts h in
      let d : Before rates i (at held i) j (suc (at held j)) = c.cut i j hi hj in
      let up : suc k * at rates j ≤ at held i * at rates j = mul-le-mul_right (at rates j) low in
      let down : suc (at held j) * at rates i ≤ suc l * at rates i = mul-le-mul_right (at rates i) w in
      by_cases (dec_lt i j)
      (λ v. let s : suc l * at rates i < suc k * at rates j = b.lighter_from (omega arith) in omega (arith, d.no_heavier))
      (λ v. let u : j ≤ i = by_contra _ _ v in let s : at held i * at rates j < suc (at held j) * at rates i = d.lighter_from u in omega (arith, b.no_heavier))

  -- a granted claim comes before one that is not
  before_ungranted : (i k j l : ℕ) → i < length rates → j < length rates → at held i ≤ k → l < at held j → before rates j (suc l) i (suc k) ≡ true
  before_ungranted i k j l hi hj high low =
      let d : Before rates j (at held j) i (suc (at held i)) = c.cut j i hj hi in
      let up : suc l * at rates i ≤ at held j * at rates i = mul-le-mul_right (at rates i) low in
      let down : suc (at held i) * at rates j ≤ suc k * at rates j = mul-le-mul_right (at rates j) (let v : suc (at held i) ≤ suc k = omega arith in v) in
      let b : Before rates j (suc l) i (suc k) = record {
        no_heavier = omega (arith, d.no_heavier);
        lighter_from = λ w. let s : at held j * at rates i < suc (at held i) * at rates j = d.lighter_from w in omega arith;
      } in
      facts_before b

  -- the claims that come before a granted one are fewer than the slots held
  rank-granted : (most i k : ℕ) → i < length rates → k < at held i → rank rates most i (suc k) < total held
  unfolding rank
  rank-granted most i k hi low =
      let each : (j : ℕ) → j < length rates → count most (λ l. before rates j (suc l) i (suc k)) ≤ at held j = λ j hj.
      let v : count most (λ l. before rates j (suc l) i (suc k)) ≤ count most (λ l. ltb l (at held j)) = count_le most _ _ (λ l m h. lt-ltb l (at held j) (granted-before i k j l hi hj low h)) in
      omega (arith, count_below most (at held j)) in
      let own : count most (λ l. before rates i (suc l) i (suc k)) ≤ k =
      let v : count most (λ l. before rates i (suc l) i (suc k)) ≤ count most (λ l. ltb l k) = count_le most _ _ (λ l m h. lt-ltb l k (own_before l h)) in
      omega (arith, count_below most k) in
      rw c.sized (omega (arith, sum_gap (length rates) (λ j. count most (λ l. before rates j (suc l) i (suc k))) (at held) i 1 each hi (omega arith)))
    where
      own_before : (l : ℕ) → before rates i (suc l) i (suc k) ≡ true → l < k
      own_before l h =
          let b : Before rates i (suc l) i (suc k) = before_facts h in
          let w : suc l < suc k = lt_of_mul-lt-mul_right (at rates i) (b.lighter_from (omega arith)) in
          omega arith

  -- and those that come before an ungranted one are at least as many
  rank_ungranted : (most i k : ℕ) → total held ≤ most → i < length rates → at held i ≤ k → total held ≤ rank rates most i (suc k)
  unfolding rank
  rank_ungranted most i k room hi high =
      let each : (j : ℕ) → j < length rates → at held j ≤ count most (λ l. before rates j (suc l) i (suc k)) = λ j hj.
      let v : count most (λ l. ltb l (at held j)) ≤ count most (λ l. before rates j (suc l) i (suc k)) = count_le most _ _ (λ l m h. before_ungranted i k j l hi hj high (ltb-true l (at held j) h)) in
      let w : at held j ≤ total held = sum-at (length held) (at held) j (omega (arith, c.sized)) in
      omega (arith, count_below most (at held j)) in
      rw c.sized (sum_le (length rates) (at held) (λ j. count most (λ l. before rates j (suc l) i (suc k))) each)

  -- so exactly the claims that are held are among the first
  pub granted_of_cut : (most S i : ℕ) → total held ≡ S → S ≤ most → i < length rates → granted rates most S i ≡ at held i
  unfolding granted
  granted_of_cut most S i e room hi =
      let agree : (k : ℕ) → k < most → ltb (rank rates most i (suc k)) S ≡ ltb k (at held i) = λ k l.
      by_cases (dec_lt k (at held i))
      (λ low. let v : rank rates most i (suc k) < S = omega (arith, rank-granted most i k hi low) in lt-ltb _ _ v ∙ sym (lt-ltb k (at held i) low))
      (λ w. let high : at held i ≤ k = by_contra _ _ w in
      let v : S ≤ rank rates most i (suc k) = omega (arith, rank_ungranted most i k (omega arith) hi high) in le-ltb _ _ v ∙ sym (le-ltb k (at held i) high)) in
      let n : count most (λ k. ltb (rank rates most i (suc k)) S) ≡ count most (λ k. ltb k (at held i)) = count_ext most _ _ agree in
      let w : at held i ≤ total held = sum-at (length held) (at held) i (omega (arith, c.sized)) in
      omega (arith, count_below most (at held i))

  -- a cut of S slots is the quotas
  pub cut_is_quotas : (S : ℕ) → total held ≡ S → held ≡ quotas rates S
  cut_is_quotas S e = is_table held (length rates) (granted rates S S) c.sized (λ i l. sym (granted_of_cut S S i e (omega arith) l))
