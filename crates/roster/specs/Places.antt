-- Helper notions of the proofs, no rule of the document: a roster tested one place after the other, and the place of a change that may be made.
-- Assumes nothing.
use Rattle.std.specs.Prelude.{◌≡◌, Bool, true, false, ◌&&◌, Option, MatchOption, cond, List, ℕ, zero, suc, ltb, eqb}
use Rattle.base.specs.Tables.{at}
use Rattle.base.specs.Sizes.{rate_fits}

-- the number before place i, 0 before the first
unfoldable pub last_before : List ℕ → ℕ → ℕ
last_before hosts zero = 0
last_before hosts (suc i) = at hosts i

-- a used place holds a number above the last and a rate in range, any other holds zeros
abbrev pub place_right : Bool → ℕ → ℕ → ℕ → Bool
place_right used last host rate = cond used (ltb last host && rate_fits rate) (eqb host 0 && eqb rate 0)

-- place i of a roster of n hosts is right
abbrev pub right_at : List ℕ → List ℕ → ℕ → ℕ → Bool
right_at hosts rates n i = place_right (ltb i n) (last_before hosts i) (at hosts i) (at rates i)

-- a place is answered exactly where the change may be made, and is the one asked for
abbrev pub Places : Bool → ℕ → Option ℕ → Type 0
Places may place answer = MatchOption answer (may ≡ false) (λ p. (may ≡ true) × (p ≡ place))
