-- Sums, counts and tests over the numbers 0 .. n-1, and the list of a function's values there.
-- Assumes nothing.
use Rattle.std.specs.Prelude.{Bool, true, false, ◌&&◌, ◌||◌, cond, List, [], ◌∷◌, ℕ, zero, suc, ◌+◌, length, get_or}

-- f 0 + f 1 + .. + f (n-1)
unfoldable pub sum : ℕ → (ℕ → ℕ) → ℕ
sum zero f = 0
sum (suc n) f = sum n f + f n

-- 1 where a test passes, 0 where it does not
abbrev pub one_if : Bool → ℕ
one_if true = 1
one_if false = 0

-- how many of 0 .. n-1 pass the test p
abbrev pub count : ℕ → (ℕ → Bool) → ℕ
count n p = sum n (λ i. one_if (p i))

-- each of 0 .. n-1 passes the test p
unfoldable pub all : ℕ → (ℕ → Bool) → Bool
all zero p = true
all (suc n) p = all n p && p n

-- some of 0 .. n-1 passes the test p
unfoldable pub any : ℕ → (ℕ → Bool) → Bool
any zero p = false
any (suc n) p = any n p || p n

-- the first of 0 .. n-1 that passes the test p, n where none does
unfoldable pub first : ℕ → (ℕ → Bool) → ℕ
first zero p = 0
first (suc n) p = cond (p 0) 0 (suc (first n (λ i. p (suc i))))

-- the list of f 0, f 1, .., f (n-1)
unfoldable pub table : ℕ → (ℕ → ℕ) → List ℕ
table zero f = []
table (suc n) f = f 0 ∷ table n (λ i. f (suc i))

-- what stands at a place of a list, 0 past its end
abbrev pub at : List ℕ → ℕ → ℕ
at l i = get_or l i 0

-- the sum of a list
abbrev pub total : List ℕ → ℕ
total l = sum (length l) (at l)
