-- Refusals as one table of rows: a number, and whether its reason holds.
-- Assumes nothing.
use Rattle.std.specs.Prelude.{◌≡◌, Bool, true, false, ◌&&◌, ◌||◌, cond, ◌↔◌, List, [], ◌∷◌, ℕ, ◌<◌, eqb, ltb}

-- document 01, Numbers answered: a number, and the test of when it is given
pub record Row : Type 0 where
  pub number : ℕ
  pub holds : Bool

-- document 01, Numbers answered, first sentence: of the rows that hold, listed in rising number, the lowest; 0 where none holds
unfoldable pub lowest : List Row → ℕ
lowest [] = 0
lowest (r ∷ rows) = cond r.holds r.number (lowest rows)

-- the table has a row n, whether or not it holds
unfoldable pub listed : List Row → ℕ → Bool
listed [] n = false
listed (r ∷ rows) n = eqb r.number n || listed rows n

-- row n is in the table and holds
unfoldable pub given : List Row → ℕ → Bool
given [] n = false
given (r ∷ rows) n = (eqb r.number n && r.holds) || given rows n

-- the numbers of the rows rise, each above m
unfoldable pub rises_from : ℕ → List Row → Bool
rises_from m [] = true
rises_from m (r ∷ rows) = ltb m r.number && rises_from r.number rows

-- in a table of rising numbers the answer is n exactly when row n holds and no lower row does
abbrev pub LowestIsFirst : Type 0
LowestIsFirst =
    (rows : List Row) → rises_from 0 rows ≡ true → (n : ℕ) → 0 < n →
    (lowest rows ≡ n) ↔ ((given rows n ≡ true) × ((m : ℕ) → m < n → given rows m ≡ false))

-- and it is 0 exactly when no row holds
abbrev pub LowestIsNone : Type 0
LowestIsNone = (rows : List Row) → rises_from 0 rows ≡ true → (lowest rows ≡ 0) ↔ ((m : ℕ) → given rows m ≡ false)
