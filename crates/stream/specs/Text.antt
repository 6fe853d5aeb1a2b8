-- The text that is printed (document 01, The program's lines, sentences 9 to 12): numbers in decimal, and the lines of each reply.
-- Assumes nothing.
use Rattle.std.specs.Prelude.{cond, List, [], ◌∷◌, ◌++◌, ℕ, zero, suc, ◌+◌, ◌/◌, ◌%◌, ltb}
use Rattle.stream.specs.declared.Said.{Said}
use Rattle.stream.specs.declared.Said.TheVariants.{Nothing, Moved, Owner, Wrong}

-- a number in decimal, of at most k + 1 digits, the first one not 0 except in 0 itself
unfoldable pub decimal_within : ℕ → ℕ → List ℕ
decimal_within zero n = (48 + n % 10) ∷ []
decimal_within (suc k) n = cond (ltb n 10) ((48 + n) ∷ []) (decimal_within k (n / 10) ++ (48 + n % 10) ∷ [])

-- a word has at most 20 digits
abbrev pub decimal : ℕ → List ℕ
decimal n = decimal_within 19 n

-- answer=
abbrev pub answer_name : List ℕ
answer_name = 97 ∷ 110 ∷ 115 ∷ 119 ∷ 101 ∷ 114 ∷ 61 ∷ []

-- moved=
abbrev pub moved_name : List ℕ
moved_name = 109 ∷ 111 ∷ 118 ∷ 101 ∷ 100 ∷ 61 ∷ []

-- slot=
abbrev pub slot_name : List ℕ
slot_name = 115 ∷ 108 ∷ 111 ∷ 116 ∷ 61 ∷ []

-- host=
abbrev pub host_name : List ℕ
host_name = 104 ∷ 111 ∷ 115 ∷ 116 ∷ 61 ∷ []

-- line=
abbrev pub line_name : List ℕ
line_name = 108 ∷ 105 ∷ 110 ∷ 101 ∷ 61 ∷ []

-- sentence 12: a printed line holds a decimal number after the equals sign, and ends with byte 10
unfoldable pub printed_line : List ℕ → ℕ → List ℕ
printed_line name value = name ++ decimal value ++ 10 ∷ []

-- sentences 9 and 11: the lines of each reply
abbrev pub text_of : Said → List ℕ
text_of Nothing = []
text_of (Moved answer moved) = printed_line answer_name answer ++ printed_line moved_name moved
text_of (Owner answer slot host) = printed_line answer_name answer ++ printed_line slot_name slot ++ printed_line host_name host
text_of (Wrong line) = printed_line answer_name 13 ++ printed_line line_name line

-- the paper's number of each case: 13 for a malformed line, and what a change or a find answered
abbrev pub answer_of : Said → ℕ
answer_of Nothing = 0
answer_of (Moved answer moved) = answer
answer_of (Owner answer slot host) = answer
answer_of (Wrong line) = 13
