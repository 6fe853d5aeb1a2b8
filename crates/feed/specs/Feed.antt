-- The next line of a buffer: where it ends, and what taking it leaves.
-- Assumes nothing.
use Rattle.std.specs.Prelude.{Bool, ◌||◌, cond, Option, Some, None, List, [], ◌∷◌, ℕ, suc, ◌+◌, min, eqb, ltb, length, take, drop}
use Rattle.stream.specs.declared.State.{State}
use Rattle.stream.specs.declared.Said.TheVariants.{Nothing}
use Rattle.stream.specs.Steps.{takes, owners_after}
use Rattle.feed.specs.declared.Fed.{Fed}

-- how many bytes stand before the first byte 10, all where there is none
unfoldable pub before_ten : List ℕ → ℕ
before_ten [] = 0
before_ten (byte ∷ bytes) = cond (eqb byte 10) 0 (suc (before_ten bytes))

-- where the first byte 10 stands
abbrev pub line_end : List ℕ → Option ℕ
line_end bytes = cond (ltb (before_ten bytes) (length bytes)) (Some (before_ten bytes)) None

-- a line to take begins at a place: a whole one, or one already above 8,192 bytes, which is malformed wherever it ends
abbrev pub has_line : List ℕ → ℕ → Bool
has_line input from = ltb (before_ten (drop from input)) (length (drop from input)) || ltb 8192 (length (drop from input))

-- that line, without its byte 10
abbrev pub line_at : List ℕ → ℕ → List ℕ
line_at input from = take (before_ten (drop from input)) (drop from input)

-- the place behind it and its byte 10, where it has one
abbrev pub behind : List ℕ → ℕ → ℕ
behind input from = min (from + before_ten (drop from input) + 1) (length input)

-- nothing taken
abbrev pub nothing : State → ℕ → Fed
nothing s from = record { state = s; said = Nothing; next = from }

-- the next line taken; nothing where only a piece of one is left
unfoldable pub fed : State → List ℕ → List ℕ → ℕ → Fed
fed s owners input from =
    cond (has_line input from)
    record {
      state = (takes s owners (line_at input from)).state;
      said = (takes s owners (line_at input from)).said;
      next = behind input from;
    }
    (nothing s from)

-- what the call answers: what the next line leaves, where there is one
abbrev pub fed_next : State → List ℕ → List ℕ → ℕ → Option Fed
fed_next s owners input from = cond (has_line input from) (Some (fed s owners input from)) None

unfoldable pub owners_fed : State → List ℕ → List ℕ → ℕ → List ℕ
owners_fed s owners input from = cond (has_line input from) (owners_after s owners (line_at input from)) owners
