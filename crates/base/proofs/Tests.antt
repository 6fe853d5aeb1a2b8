-- Tests read back as facts: both of two, each of 0 .. n-1, and two tests that agree.
-- Assumes nothing.
use mathlib.Core.Path.{◌≡◌, refl, sym, ap, ◌∙◌}
use mathlib.Core.Bool.{Bool, true, false, ◌&&◌, ◌||◌, not, or-true, true≢false}
use mathlib.Core.Logic.{◌⊎◌, inl, inr, ⊎_elim}
use Prim.Native.Nat.{ℕ, zero, suc, ◌+◌, ◌<◌}
use native.Mathlib.Nat.{not-suc-le-zero, eq-or-lt_of_le, le_of_suc-le-suc, zero-lt-suc}
use native.Mathlib.Numerals.{add-one}
use native.Mathlib.Omega.{arith}
use borrow.Author.Tests.{not-true, not-false}
use Rattle.base.specs.Tables.{all, any, first}

-- A step of an induction over the places below suc n: those below n, and n itself.
pub below_suc : {i n : ℕ} → i < suc n → (i < n) ⊎ (i ≡ n)
below_suc {i} {n} h = ⊎_elim (λ e. inr e) (λ l. inl l) (eq-or-lt_of_le (le_of_suc-le-suc h))

pub never : {A : Type 0} (b : Bool) → b ≡ true → b ≡ false → A
never b t f = absurd (true≢false (cc))

pub by_test : {C : Type 0} (b : Bool) → (b ≡ true → C) → (b ≡ false → C) → C
by_test true f g = f refl
by_test false f g = g refl

-- what a call that answers a test tells, where the code goes on by its negation
pub refused : {answer test : Bool} → answer ≡ test → not answer ≡ true → test ≡ false
refused {answer} e t = sym e ∙ not-true answer t

pub passed : {answer test : Bool} → answer ≡ test → not answer ≡ false → test ≡ true
passed {answer} e f = sym e ∙ not-false answer f

-- both -----------------------------------------------------------------------

pub and_left : (a b : Bool) → (a && b) ≡ true → a ≡ true
and_left true b h = refl
and_left false b h = h

pub and_right : (a b : Bool) → (a && b) ≡ true → b ≡ true
and_right true b h = h
and_right false b h = absurd (true≢false (sym h))

pub and_both : (a b : Bool) → a ≡ true → b ≡ true → (a && b) ≡ true
and_both a b h k = rw (h, k)

-- neither of two, where not even one of them passes
pub or_left : (a b : Bool) → (a || b) ≡ false → a ≡ false
or_left true b h = h
or_left false b h = refl

pub or_right : (a b : Bool) → (a || b) ≡ false → b ≡ false
or_right true b h = never true refl h
or_right false b h = h

-- two tests that pass in the same cases are the same
pub same_test : (a b : Bool) → (a ≡ true → b ≡ true) → (b ≡ true → a ≡ true) → a ≡ b
same_test true b f g = sym (f refl)
same_test false true f g = g refl
same_test false false f g = refl

-- all ------------------------------------------------------------------------

pub all-at : (n : ℕ) (p : ℕ → Bool) → all n p ≡ true → (i : ℕ) → i < n → p i ≡ true
unfolding all
all-at zero p h i l = absurd (not-suc-le-zero l)
all-at (suc n) p h i l =
    ⊎_elim
    (λ k. all-at n p (and_left (all n p) (p n) h) i k)
    (λ e. rw e (and_right (all n p) (p n) h))
    (below_suc l)

pub all_of : (n : ℕ) (p : ℕ → Bool) → ((i : ℕ) → i < n → p i ≡ true) → all n p ≡ true
unfolding all
all_of zero p h = refl
all_of (suc n) p h = and_both (all n p) (p n) (all_of n p (λ i l. h i (omega arith))) (h n (omega arith))

-- a loop that tests one place after the other
pub all-next : (i : ℕ) (p : ℕ → Bool) → all i p ≡ true → p i ≡ true → all (i + 1) p ≡ true
unfolding all
all-next i p before here = rw (add-one i) (and_both (all i p) (p i) before here)

pub all_fails : (n : ℕ) (p : ℕ → Bool) (i : ℕ) → i < n → p i ≡ false → all n p ≡ false
all_fails n p i l w = same_test (all n p) false (λ h. never (p i) (all-at n p h i l) w) (λ e. never false e refl)

-- any ------------------------------------------------------------------------

pub any_at : (n : ℕ) (p : ℕ → Bool) (i : ℕ) → i < n → p i ≡ true → any n p ≡ true
unfolding any
any_at zero p i l t = absurd (not-suc-le-zero l)
any_at (suc n) p i l t =
    ⊎_elim
    (λ k. rw (any_at n p i k t))
    (λ e. rw (rw e at t) (or-true (any n p)))
    (below_suc l)

pub any_none : (n : ℕ) (p : ℕ → Bool) → ((i : ℕ) → i < n → p i ≡ false) → any n p ≡ false
unfolding any
any_none zero p h = refl
any_none (suc n) p h = rw (any_none n p (λ i l. h i (omega arith)), h n (omega arith))

-- first ----------------------------------------------------------------------

pub first_is : (n : ℕ) (p : ℕ → Bool) (i : ℕ) → i < n → p i ≡ true → ((k : ℕ) → k < i → p k ≡ false) → first n p ≡ i
unfolding first
first_is zero p i l t below = absurd (not-suc-le-zero l)
first_is (suc n) p zero l t below = rw t
first_is (suc n) p (suc i) l t below =
    rw (below 0 (zero-lt-suc i)) (ap suc (first_is n (λ k. p (suc k)) i (le_of_suc-le-suc l) t (λ k h. below (suc k) (omega arith))))

pub first-none : (n : ℕ) (p : ℕ → Bool) → ((k : ℕ) → k < n → p k ≡ false) → first n p ≡ n
unfolding first
first-none zero p below = refl
first-none (suc n) p below = rw (below 0 (zero-lt-suc n)) (ap suc (first-none n (λ k. p (suc k)) (λ k h. below (suc k) (omega arith))))
