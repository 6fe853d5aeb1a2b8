-- Short inputs whose meaning the checker computes: each way in which an input may end, and a comment out of place.
-- Assumes nothing.
use Rattle.std.specs.Prelude.{◌≡◌, [], ◌∷◌}
use Rattle.stream.specs.Meaning.{printed}

-- empty input: line 1 is missing
abbrev pub Empty : Type 0
Empty = printed ([]) ≡ 97 ∷ 110 ∷ 115 ∷ 119 ∷ 101 ∷ 114 ∷ 61 ∷ 49 ∷ 51 ∷ 10 ∷ 108 ∷ 105 ∷ 110 ∷ 101 ∷ 61 ∷ 49 ∷ 10 ∷ []

-- input that ends behind the slot count
abbrev pub CountOnly : Type 0
CountOnly = printed (115 ∷ 108 ∷ 111 ∷ 116 ∷ 115 ∷ 61 ∷ 56 ∷ 10 ∷ []) ≡ []

-- `slots=08`
abbrev pub LeadingZero : Type 0
LeadingZero = printed (115 ∷ 108 ∷ 111 ∷ 116 ∷ 115 ∷ 61 ∷ 48 ∷ 56 ∷ 10 ∷ []) ≡ 97 ∷ 110 ∷ 115 ∷ 119 ∷ 101 ∷ 114 ∷ 61 ∷ 49 ∷ 51 ∷ 10 ∷ 108 ∷ 105 ∷ 110 ∷ 101 ∷ 61 ∷ 49 ∷ 10 ∷ []

-- `slots=0`, and nothing behind it is read
abbrev pub NoSlots : Type 0
NoSlots = printed (115 ∷ 108 ∷ 111 ∷ 116 ∷ 115 ∷ 61 ∷ 48 ∷ 10 ∷ 111 ∷ 112 ∷ 61 ∷ 97 ∷ 100 ∷ 100 ∷ 10 ∷ []) ≡ 97 ∷ 110 ∷ 115 ∷ 119 ∷ 101 ∷ 114 ∷ 61 ∷ 49 ∷ 10 ∷ 109 ∷ 111 ∷ 118 ∷ 101 ∷ 100 ∷ 61 ∷ 48 ∷ 10 ∷ []

-- `slots=8`, `op=add`: line 3 is missing
abbrev pub MissingHost : Type 0
MissingHost = printed (115 ∷ 108 ∷ 111 ∷ 116 ∷ 115 ∷ 61 ∷ 56 ∷ 10 ∷ 111 ∷ 112 ∷ 61 ∷ 97 ∷ 100 ∷ 100 ∷ 10 ∷ []) ≡ 97 ∷ 110 ∷ 115 ∷ 119 ∷ 101 ∷ 114 ∷ 61 ∷ 49 ∷ 51 ∷ 10 ∷ 108 ∷ 105 ∷ 110 ∷ 101 ∷ 61 ∷ 51 ∷ 10 ∷ []

-- `slots=8`, `#x`, `op=find`, and `#` without byte 10
abbrev pub LastWithout10 : Type 0
LastWithout10 = printed (115 ∷ 108 ∷ 111 ∷ 116 ∷ 115 ∷ 61 ∷ 56 ∷ 10 ∷ 35 ∷ 120 ∷ 10 ∷ 111 ∷ 112 ∷ 61 ∷ 102 ∷ 105 ∷ 110 ∷ 100 ∷ 10 ∷ 35 ∷ []) ≡ 97 ∷ 110 ∷ 115 ∷ 119 ∷ 101 ∷ 114 ∷ 61 ∷ 49 ∷ 51 ∷ 10 ∷ 108 ∷ 105 ∷ 110 ∷ 101 ∷ 61 ∷ 52 ∷ 10 ∷ []

-- `slots=8`, `op=drop`, `#`: a comment inside a record
abbrev pub CommentInRecord : Type 0
CommentInRecord = printed (115 ∷ 108 ∷ 111 ∷ 116 ∷ 115 ∷ 61 ∷ 56 ∷ 10 ∷ 111 ∷ 112 ∷ 61 ∷ 100 ∷ 114 ∷ 111 ∷ 112 ∷ 10 ∷ 35 ∷ 10 ∷ []) ≡ 97 ∷ 110 ∷ 115 ∷ 119 ∷ 101 ∷ 114 ∷ 61 ∷ 49 ∷ 51 ∷ 10 ∷ 108 ∷ 105 ∷ 110 ∷ 101 ∷ 61 ∷ 51 ∷ 10 ∷ []
