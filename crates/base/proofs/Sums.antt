-- Laws of sums and counts over 0 .. n-1.
-- Assumes nothing.
use mathlib.Core.Path.{◌≡◌, refl, sym, ap, ◌∙◌}
use mathlib.Core.Bool.{Bool, true, false, true≢false}
use mathlib.Core.Logic.{◌⊎◌, inl, inr, ◌≢◌, ⊎_elim, by_cases}
use Prim.Native.Nat.{ℕ, zero, suc, ◌+◌, ◌*◌, ◌≤◌, ◌<◌, min, zero-le}
use native.Mathlib.Nat.{not-suc-le-zero, zero-mul, zero-min, add-mul, add-zero, mul-zero, mul-one, min-eq_left, le_of_eq, le_trans, le_refl, zero-add, lt_of_le_of_lt, mul-le-mul_right, mul-lt-mul_of_pos_left}
use native.Mathlib.Omega.{arith, by_contra}
use native.Mathlib.Decide.{dec_lt, le_ind}
use lib.Dec.{ltb}
use borrow.Author.Tests.{lt-ltb, le-ltb}
use Rattle.base.specs.Tables.{sum, one_if, count}
use Rattle.base.proofs.Tests.{below_suc, by_test}

-- sum ------------------------------------------------------------------------

pub sum_ext : (n : ℕ) (f g : ℕ → ℕ) → ((i : ℕ) → i < n → f i ≡ g i) → sum n f ≡ sum n g
unfolding sum
sum_ext zero f g h = refl
sum_ext (suc n) f g h =
    let before : sum n f ≡ sum n g = sum_ext n f g (λ i l. h i (omega arith)) in
    let here : f n ≡ g n = h n (omega arith) in
    omega arith

pub sum_le : (n : ℕ) (f g : ℕ → ℕ) → ((i : ℕ) → i < n → f i ≤ g i) → sum n f ≤ sum n g
unfolding sum
sum_le zero f g h = le_refl 0
sum_le (suc n) f g h =
    let before : sum n f ≤ sum n g = sum_le n f g (λ i l. h i (omega arith)) in
    let here : f n ≤ g n = h n (omega arith) in
    omega arith

-- the first place apart
pub sum_front : (n : ℕ) (f : ℕ → ℕ) → sum (suc n) f ≡ f 0 + sum n (λ i. f (suc i))
unfolding sum
sum_front zero f = omega arith
sum_front (suc n) f = let r : sum n f + f n ≡ f 0 + sum n (λ i. f (suc i)) = sum_front n f in omega arith

-- c more at one place, and nowhere less, is c more in all
pub sum_gap : (n : ℕ) (f g : ℕ → ℕ) (p c : ℕ) → ((i : ℕ) → i < n → f i ≤ g i) → p < n → f p + c ≤ g p → sum n f + c ≤ sum n g
unfolding sum
sum_gap zero f g p c h l w = absurd (not-suc-le-zero l)
sum_gap (suc n) f g p c h l w =
    let low : (i : ℕ) → i < n → f i ≤ g i = λ i k. h i (omega arith) in
    let here : f n ≤ g n = h n (omega arith) in
    ⊎_elim
    (λ (k : p < n). let r : sum n f + c ≤ sum n g = sum_gap n f g p c low k w in omega arith)
    (λ (e : p ≡ n). let v : f n + c ≤ g n = rw e at w in let r : sum n f ≤ sum n g = sum_le n f g low in omega arith)
    (below_suc l)

-- one place holds no more than the whole
pub sum-at : (n : ℕ) (f : ℕ → ℕ) (p : ℕ) → p < n → f p ≤ sum n f
sum-at n f p l = omega (arith, sum_gap n (λ i. 0) f p (f p) (λ i k. zero-le) l (le_of_eq (zero-add (f p))))

-- nowhere more, and as much in all, is the same at every place
pub sum_same : (n : ℕ) (f g : ℕ → ℕ) → ((i : ℕ) → i < n → f i ≤ g i) → sum n f ≡ sum n g → (i : ℕ) → i < n → f i ≡ g i
sum_same n f g h e i l =
    let below : f i ≤ g i = h i l in
    let above : g i ≤ f i = by_contra _ _ λ w. let r : sum n f + 1 ≤ sum n g = sum_gap n f g i 1 h l (omega arith) in omega arith in
    omega arith

-- two that agree but at one place differ in all by what they differ there
pub sum_change : (n : ℕ) (f g : ℕ → ℕ) (p : ℕ) → p < n → ((i : ℕ) → i < n → i ≢ p → f i ≡ g i) → sum n f + g p ≡ sum n g + f p
unfolding sum
sum_change zero f g p l h = absurd (not-suc-le-zero l)
sum_change (suc n) f g p l h =
    ⊎_elim
    (λ (k : p < n). let r : sum n f + g p ≡ sum n g + f p = sum_change n f g p k (λ i w v. h i (omega arith) v) in
    let here : f n ≡ g n = h n (omega arith) (λ e. omega arith) in
    omega arith)
    (λ (e : p ≡ n). let r : sum n f ≡ sum n g = sum_ext n f g (λ i w. h i (omega arith) (λ v. omega arith)) in rw e (omega arith))
    (below_suc l)

-- somewhere more, or nowhere
pub somewhere_more : (n : ℕ) (f g : ℕ → ℕ) → ((i : ℕ) × (i < n) × (g i < f i)) ⊎ ((i : ℕ) → i < n → f i ≤ g i)
somewhere_more zero f g = inr (λ i l. absurd (not-suc-le-zero l))
somewhere_more (suc n) f g =
    by_cases (dec_lt (g n) (f n))
    (λ w. inl (n, omega arith, w))
    (λ w. ⊎_elim
    (λ r. inl (r.0, omega (arith, r.1), r.2))
    (λ low. inr (λ i l. ⊎_elim (low i) (λ e. rw e (by_contra _ _ w)) (below_suc l)))
    (somewhere_more n f g))

pub sum-mul : (n : ℕ) (f : ℕ → ℕ) (c : ℕ) → sum n (λ i. f i * c) ≡ sum n f * c
unfolding sum
sum-mul zero f c = sym (zero-mul c)
sum-mul (suc n) f c = let r : sum n (λ i. f i * c) ≡ sum n f * c = sum-mul n f c in omega (arith, add-mul (sum n f) (f n) c)

pub sum_const : (n c : ℕ) → sum n (λ i. c) ≡ n * c
unfolding sum
sum_const zero c = sym (zero-mul c)
sum_const (suc n) c = let r : sum n (λ i. c) ≡ n * c = sum_const n c in omega arith

pub sum-add : (n : ℕ) (f g : ℕ → ℕ) → sum n (λ i. f i + g i) ≡ sum n f + sum n g
unfolding sum
sum-add zero f g = refl
sum-add (suc n) f g = let r : sum n (λ i. f i + g i) ≡ sum n f + sum n g = sum-add n f g in omega arith

pub sum_more : (n m : ℕ) (f : ℕ → ℕ) → n ≤ m → sum n f ≤ sum m f
unfolding sum
sum_more n m f h = le_ind (λ k. sum n f ≤ sum k f) (le_refl (sum n f)) (λ k l r. omega arith) m h

-- places picked in rising order, each once: what stands there is no more than the whole
pub sum_picked : (n m : ℕ) (f σ : ℕ → ℕ) → ((i j : ℕ) → i < j → j < n → σ i < σ j) → ((i : ℕ) → i < n → σ i < m) → sum n (λ i. f (σ i)) ≤ sum m f
unfolding sum
sum_picked zero m f σ rises within = zero-le
sum_picked (suc n) m f σ rises within =
    let before : sum n (λ i. f (σ i)) ≤ sum (σ n) f = sum_picked n (σ n) f σ (λ i j l k. rises i j l (omega arith)) (λ i l. rises i n l (omega arith)) in
    le_trans (next before) (sum_more (suc (σ n)) m f (within n (omega arith)))
  where
    next : sum n (λ i. f (σ i)) ≤ sum (σ n) f → sum n (λ i. f (σ i)) + f (σ n) ≤ sum (suc (σ n)) f
    next h = omega arith

-- count ----------------------------------------------------------------------

-- of 0 .. n-1, as many are below m as n and m allow
pub count_below : (n m : ℕ) → count n (λ k. ltb k m) ≡ min n m
unfolding sum
count_below zero m = sym (zero-min m)
count_below (suc n) m =
    let before : count n (λ k. ltb k m) ≡ min n m = count_below n m in
    by_cases (dec_lt n m)
    (λ l. rw (lt-ltb n m l) (omega arith))
    (λ w. let h : m ≤ n = by_contra _ _ w in rw (le-ltb n m h) (omega arith))

-- a test that passes wherever another does counts as many or more
pub count_le : (n : ℕ) (p q : ℕ → Bool) → ((i : ℕ) → i < n → p i ≡ true → q i ≡ true) → count n p ≤ count n q
count_le n p q h = sum_le n (λ i. one_if (p i)) (λ i. one_if (q i)) (λ i l. one (p i) (q i) (h i l))
  where
    one : (a b : Bool) → (a ≡ true → b ≡ true) → one_if a ≤ one_if b
    one false b w = zero-le
    one true true w = le_refl 1
    one true false w = absurd (true≢false (sym (w refl)))

-- two tests that agree count alike
pub count_ext : (n : ℕ) (p q : ℕ → Bool) → ((i : ℕ) → i < n → p i ≡ q i) → count n p ≡ count n q
count_ext n p q h = sum_ext n (λ i. one_if (p i)) (λ i. one_if (q i)) (λ i l. ap one_if (h i l))

pub count_fits_lem : (n : ℕ) (p : ℕ → Bool) → count n p ≤ n
unfolding sum
count_fits_lem zero p = le_refl 0
count_fits_lem (suc n) p = let r : count n p ≤ n = count_fits_lem n p in let here = one_fits (p n) in omega arith
  where
    one_fits : (b : Bool) → one_if b ≤ 1
    one_fits true = le_refl 1
    one_fits false = zero-le

pub count_none : (n : ℕ) (p : ℕ → Bool) → ((i : ℕ) → i < n → p i ≡ false) → count n p ≡ 0
count_none n p h = sum_ext n (λ i. one_if (p i)) (λ i. 0) (λ i l. ap one_if (h i l)) ∙ sum_const n 0 ∙ mul-zero n

pub count-all : (n : ℕ) (p : ℕ → Bool) → ((i : ℕ) → i < n → p i ≡ true) → count n p ≡ n
count-all n p h = sum_ext n (λ i. one_if (p i)) (λ i. 1) (λ i l. ap one_if (h i l)) ∙ sum_const n 1 ∙ mul-one n

-- a place that passes is one more than those below it
pub count_strict : (n : ℕ) (p : ℕ → Bool) (i : ℕ) → i < n → p i ≡ true → count i p < count n p
unfolding sum
count_strict n p i l t =
    let more : count (suc i) p ≤ count n p = sum_more (suc i) n (λ k. one_if (p k)) l in
    let one : one_if (p i) ≡ 1 = ap one_if t in
    omega arith

-- where a test passes below every place at which it passes, it passes below its count
pub count_prefix : (n : ℕ) (p : ℕ → Bool) → ((i j : ℕ) → i < j → j < n → p j ≡ true → p i ≡ true) → (i : ℕ) → i < n → p i ≡ ltb i (count n p)
unfolding sum
count_prefix zero p down i l = absurd (not-suc-le-zero l)
count_prefix (suc n) p down i l =
    let fits : count n p ≤ n = count_fits_lem n p in
    by_test (p n)
    (λ t. rw t (rw (full t) (low t ∙ sym (lt-ltb i (n + 1) (omega arith)))))
    (λ f. rw f (rw (add-zero (count n p)) (⊎_elim
    (λ k. count_prefix n p (λ x y a b. down x y a (omega arith)) i k)
    (λ (e : i ≡ n). ap p e ∙ f ∙ sym (le-ltb i (count n p) (omega arith)))
    (below_suc l))))
  where
    full : p n ≡ true → count n p ≡ n
    full t = count_ext n p (λ k. ltb k n) (λ k h. down k n h (omega arith) t ∙ sym (lt-ltb k n h)) ∙ count_below n n ∙ min-eq_left (le_refl n)

    low : p n ≡ true → p i ≡ true
    low t = ⊎_elim (λ k. down i n k (omega arith) t) (λ e. ap p e ∙ t) (below_suc l)

-- products -------------------------------------------------------------------
