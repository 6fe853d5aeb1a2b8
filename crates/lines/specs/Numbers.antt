-- Numbers as text (document 01, The program's lines, sentence 7): which texts are numbers, and what each says.
-- Assumes nothing.
use Rattle.std.specs.Prelude.{Bool, true, ◌&&◌, ◌||◌, not, cond, Option, Some, None, List, [], ◌∷◌, ℕ, ◌+◌, ◌-◌, ◌*◌, eqb, length}
use Rattle.base.specs.Tables.{at}
use Rattle.base.specs.Sizes.{between}

-- `0` to `9`
abbrev pub is_digit : ℕ → Bool
is_digit byte = between 48 57 byte

unfoldable pub all_digits : List ℕ → Bool
all_digits [] = true
all_digits (byte ∷ text) = is_digit byte && all_digits text

-- 1 to 9 bytes, and no zero first, except in 0 itself
unfoldable pub well_sized : List ℕ → Bool
well_sized text = between 1 9 (length text) && (eqb (length text) 1 || not (eqb (at text 0) 48))

-- a text is a number
unfoldable pub is_number : List ℕ → Bool
is_number text = well_sized text && all_digits text

-- a number with one digit more at its end
abbrev pub with_digit : ℕ → ℕ → ℕ
with_digit value byte = value * 10 + (byte - 48)

-- the number that digits say, from the front
unfoldable pub value_from : ℕ → List ℕ → ℕ
value_from value [] = value
value_from value (byte ∷ text) = value_from (with_digit value byte) text

-- what a text says
unfoldable pub number_of : List ℕ → Option ℕ
number_of text = cond (is_number text) (Some (value_from 0 text)) None

-- the paper's number and the value of each case: 0 with the number, 13 with none
abbrev pub answer_of : Option ℕ → ℕ
answer_of (Some value) = 0
answer_of None = 13

abbrev pub value_of : Option ℕ → ℕ
value_of (Some value) = value
value_of None = 0
