-- Each host as often as a list says: how long that is, and how often each host stands in it.
-- Assumes nothing.
use mathlib.Core.Path.{◌≡◌, refl, sym, ap, ◌∙◌}
use mathlib.Core.List.{List, [], ◌∷◌, ◌++◌}
use Prim.Native.Nat.{ℕ, zero, suc, ◌+◌, ◌<◌}
use native.Mathlib.Nat.{not-suc-le-zero, le_of_suc-le-suc, zero-add, suc_inj, zero-lt-suc, ne_of_lt}
use native.Mathlib.Omega.{arith}
use lib.Dec.{eqb}
use lib.ListN.{length, replicate, length-append, length-replicate}
use borrow.Author.Tests.{eq-eqb, ne_eqb}
use Rattle.base.specs.Tables.{sum, one_if, at, total}
use Rattle.base.proofs.Sums.{sum-at, sum_front}
use Rattle.roster.specs.Roster.{Rises}
use Rattle.mover.specs.Mover.{held, runs}
use Rattle.mover.proofs.Passes.{held_cons}

pub total_cons : (x : ℕ) (l : List ℕ) → total (x ∷ l) ≡ x + total l
total_cons x l = sum_front (length l) (at (x ∷ l))

-- what stands in a list is held there
pub held_at : (l : List ℕ) (i : ℕ) → i < length l → 0 < held l (at l i)
held_at l i h = let v = sum-at (length l) (λ j. one_if (eqb (at l j) (at l i))) i h in let e : one_if (eqb (at l i) (at l i)) ≡ 1 = ap one_if (eq-eqb (at l i) (at l i) refl) in omega arith

held-append : (a b : List ℕ) (k : ℕ) → held (a ++ b) k ≡ held a k + held b k
unfolding sum
held-append [] b k = sym (zero-add (held b k))
held-append (x ∷ a) b k = let r = held-append a b k in let c = held_cons x (a ++ b) k in let d = held_cons x a k in c ∙ (let e : one_if (eqb x k) + held (a ++ b) k ≡ one_if (eqb x k) + held a k + held b k = omega arith in e ∙ ap (λ n. n + held b k) (sym d))

held_same : (n h k : ℕ) → h ≡ k → held (replicate n h) k ≡ n
unfolding sum
held_same zero h k e = refl
held_same (suc n) h k e = held_cons h (replicate n h) k ∙ (let one : one_if (eqb h k) ≡ 1 = ap one_if (eq-eqb h k e) in let r = held_same n h k e in omega arith)

held_other : (n h k : ℕ) → (h ≡ k → ⊥) → held (replicate n h) k ≡ 0
unfolding sum
held_other zero h k ne = refl
held_other (suc n) h k ne = held_cons h (replicate n h) k ∙ (let none : one_if (eqb h k) ≡ 0 = ap one_if (ne_eqb h k ne) in let r = held_other n h k ne in omega arith)

pub runs-length : (hosts times : List ℕ) → length times ≡ length hosts → length (runs hosts times) ≡ total times
unfolding runs sum
runs-length [] [] e = refl
runs-length [] (n ∷ times) e = absurd (omega arith)
runs-length (h ∷ hosts) [] e = absurd (omega arith)
runs-length (h ∷ hosts) (n ∷ times) e =
    length-append (replicate n h) (runs hosts times) ∙ (let r = runs-length hosts times (suc_inj e) in let a = length-replicate n h in let t = total_cons n times in omega arith)

-- none that is not among the hosts
pub runs_off : (hosts times : List ℕ) (k : ℕ) → ((j : ℕ) → j < length hosts → at hosts j ≡ k → ⊥) → held (runs hosts times) k ≡ 0
unfolding runs sum
runs_off [] times k off = refl
runs_off (h ∷ hosts) [] k off = refl
runs_off (h ∷ hosts) (n ∷ times) k off =
    held-append (replicate n h) (runs hosts times) k
    ∙ (let a = held_other n h k (off 0 (zero-lt-suc (length hosts))) in let r = runs_off hosts times k (λ j l. off (suc j) (omega arith)) in omega arith)

-- and each host as often as it is said
pub runs-held : (hosts times : List ℕ) → Rises hosts → length times ≡ length hosts → (j : ℕ) → j < length hosts → held (runs hosts times) (at hosts j) ≡ at times j
unfolding runs
runs-held [] times rises e j l = absurd (not-suc-le-zero l)
runs-held (h ∷ hosts) [] rises e j l = absurd (omega arith)
runs-held (h ∷ hosts) (n ∷ times) rises e zero l =
    held-append (replicate n h) (runs hosts times) h
    ∙ (let a = held_same n h h refl in
    let r = runs_off hosts times h (λ j k w. ne_of_lt (rises 0 (suc j) (zero-lt-suc j) (omega arith)) (sym w)) in
    omega arith)
runs-held (h ∷ hosts) (n ∷ times) rises e (suc j) l =
    held-append (replicate n h) (runs hosts times) (at hosts j)
    ∙ (let a = held_other n h (at hosts j) (ne_of_lt (rises 0 (suc j) (zero-lt-suc j) l)) in
    let r = runs-held hosts times (λ x y lt k. rises (suc x) (suc y) (omega arith) (omega arith)) (suc_inj e) j (le_of_suc-le-suc l) in
    omega arith)
