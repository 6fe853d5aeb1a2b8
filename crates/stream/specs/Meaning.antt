-- The meaning of a whole input (document 01, The program's lines): from the bytes read to the bytes printed, line by line.
-- Assumes nothing.
use Rattle.std.specs.Prelude.{Bool, true, false, ◌&&◌, cond, List, [], ◌∷◌, ◌++◌, ℕ, eqb, length, replicate}
use Rattle.lines.specs.declared.Due.{Due}
use Rattle.lines.specs.declared.Due.TheVariants.{Slots, Opening, HostAdded, RateAdded, HostDropped, HostRerated, NewRate, Key}
use Rattle.stream.specs.declared.State.{State}
use Rattle.stream.specs.declared.Said.{Said}
use Rattle.stream.specs.declared.Said.TheVariants.{Nothing, Wrong}
use Rattle.stream.specs.Steps.{start, next_number, takes, owners_after}
use Rattle.stream.specs.Text.{text_of}

-- a record may begin where no line of one is due
abbrev pub may_begin : Due → Bool
may_begin Slots = false
may_begin Opening = true
may_begin HostAdded = false
may_begin (RateAdded host) = false
may_begin HostDropped = false
may_begin HostRerated = false
may_begin (NewRate host) = false
may_begin Key = false

-- sentences 9 and 13: input may end only where a record may begin. A missing line, or a last line without byte 10, is malformed
-- and has the number that comes next
unfoldable pub at_end : State → List ℕ → Said
at_end s piece = cond s.stopped Nothing (cond (may_begin s.due && eqb (length piece) 0) Nothing (Wrong (next_number s.lines)))

-- sentence 1: lines are ended by byte 10. What is printed from a state on, with a piece of a line already read
unfoldable pub meaning : State → List ℕ → List ℕ → List ℕ → List ℕ
meaning s owners piece [] = text_of (at_end s piece)
meaning s owners piece (byte ∷ bytes) =
    cond (eqb byte 10)
    (text_of (takes s owners piece).said ++ meaning (takes s owners piece).state (owners_after s owners piece) [] bytes)
    (meaning s owners (piece ++ byte ∷ []) bytes)

-- what the program prints for an input, with owners lent for as many slots as a table can have
abbrev pub printed : List ℕ → List ℕ
printed input = meaning start (replicate 16384 0) [] input
