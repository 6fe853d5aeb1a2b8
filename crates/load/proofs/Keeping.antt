-- The rule of keeping up, read as facts: with fewer slots, with less load, and the most slots of a host. Whoever changes the rule changes this file.
-- Assumes nothing.
use mathlib.Core.Path.{◌≡◌, sym, ◌∙◌}
use mathlib.Core.Bool.{true}
use Prim.Native.Nat.{ℕ, zero, suc, ◌*◌, ◌/◌, ◌≤◌, ◌<◌, min, zero-le}
use native.Mathlib.Nat.{mul-le-mul_left, mul-le-mul_right, le_trans, le-div_iff_mul-le, mul-pos, le_of_mul-le-mul_right}
use native.Mathlib.Omega.{arith}
use lib.Dec.{leb, ltb}
use borrow.Author.Tests.{le-leb, leb-true, lt-ltb, ltb-true}
use Rattle.base.proofs.Tests.{same_test}
use Rattle.base.proofs.Sums.{count_ext, count_below, count_prefix, count_fits_lem}
use Rattle.load.specs.Load.{keeps_up, most_kept}

module _ (load slots all rate : ℕ) where
  -- no slots are kept up with
  pub keeps_none : keeps_up load slots all rate 0 ≡ true
  unfolding keeps_up
  keeps_none = le-leb (load * 0 * all) (1000 * rate * slots) (let z : load * 0 * all ≡ 0 = omega arith in omega arith)

  -- and fewer slots where more are
  pub keeps_fewer : (fewer held : ℕ) → fewer ≤ held → keeps_up load slots all rate held ≡ true → keeps_up load slots all rate fewer ≡ true
  unfolding keeps_up
  keeps_fewer fewer held h t = le-leb _ _ (le_trans (mul-le-mul_right all (mul-le-mul_left load h)) (leb-true _ _ t))

  -- and the same slots at a smaller load
  pub keeps_less : (less held : ℕ) → less ≤ load → keeps_up load slots all rate held ≡ true → keeps_up less slots all rate held ≡ true
  unfolding keeps_up
  keeps_less less held h t = le-leb _ _ (le_trans (mul-le-mul_right all (mul-le-mul_right held h)) (leb-true _ _ t))

  -- the most of the slots, by division
  pub most_is : 0 < load → 0 < all → most_kept load slots all rate ≡ min slots (1000 * rate * slots / (load * all))
  unfolding most_kept keeps_up
  most_is l a =
      let p : 0 < load * all = mul-pos l a in
      count_ext slots _ (λ s. ltb s (1000 * rate * slots / (load * all))) (λ s _. same_test (leb (load * suc s * all) (1000 * rate * slots)) _
      (λ t. let h : load * suc s * all ≤ 1000 * rate * slots = leb-true _ _ t in
      let g : suc s * (load * all) ≤ 1000 * rate * slots = omega arith in
      lt-ltb _ _ ((le-div_iff_mul-le p).1 g))
      (λ t. let g : suc s * (load * all) ≤ 1000 * rate * slots = (le-div_iff_mul-le p).0 (ltb-true _ _ t) in
      let h : load * suc s * all ≤ 1000 * rate * slots = omega arith in
      le-leb _ _ h))
      ∙ count_below slots _

  -- the slot counts up to all that a host keeps up with are those up to the most
  prefix : (s : ℕ) → s < slots → keeps_up load slots all rate (suc s) ≡ ltb s (most_kept load slots all rate)
  unfolding most_kept
  prefix = count_prefix slots (λ s. keeps_up load slots all rate (suc s)) (λ i j l h. keeps_fewer (suc i) (suc j) (omega arith))

  pub most_fits : most_kept load slots all rate ≤ slots
  unfolding most_kept
  most_fits = count_fits_lem slots (λ s. keeps_up load slots all rate (suc s))

  pub within_most : (held : ℕ) → held ≤ slots → keeps_up load slots all rate held ≡ true → held ≤ most_kept load slots all rate
  within_most zero h t = zero-le
  within_most (suc s) h t = ltb-true _ _ (sym (prefix s h) ∙ t)

  pub most_keeps : (held : ℕ) → held ≤ most_kept load slots all rate → keeps_up load slots all rate held ≡ true
  most_keeps zero h = keeps_none
  most_keeps (suc s) h = prefix s (le_trans h most_fits) ∙ lt-ltb _ _ h

-- a host keeps up as well as another that has no smaller share of its rate
pub keeps_as : (load slots all rate held rate' held' : ℕ) → 0 < rate' → held * rate' ≤ held' * rate →
    keeps_up load slots all rate' held' ≡ true → keeps_up load slots all rate held ≡ true
unfolding keeps_up
keeps_as load slots all rate held rate' held' some ratio t =
    let other : load * held' * all ≤ 1000 * rate' * slots = leb-true _ _ t in
    let up : load * all * (held * rate') ≤ load * all * (held' * rate) = mul-le-mul_left (load * all) ratio in
    let times : load * held' * all * rate ≤ 1000 * rate' * slots * rate = mul-le-mul_right rate other in
    let own : load * held * all * rate' ≤ 1000 * rate * slots * rate' = omega arith in
    le-leb _ _ (le_of_mul-le-mul_right own some)
