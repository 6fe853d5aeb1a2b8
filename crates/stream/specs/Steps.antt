-- What one whole line does and says (document 01, The program's lines): the state after it, the owners after it, and what is printed.
-- Assumes nothing.
use Rattle.std.specs.Prelude.{Bool, true, false, ◌&&◌, cond, Result, Ok, Err, List, ◌++◌, ℕ, ◌+◌, ltb, leb, length, take, drop, replicate}
use Rattle.base.specs.Sizes.{slots_fit}
use Rattle.roster.specs.Changes.{none}
use Rattle.events.specs.Events.{Reply, reply_of, table_after}
use Rattle.find.specs.Reply.{Found, found}
use Rattle.lines.specs.declared.Due.{Due}
use Rattle.lines.specs.declared.Due.TheVariants.{Slots, Opening}
use Rattle.lines.specs.declared.Record.{Record}
use Rattle.lines.specs.declared.Record.TheVariants.{Change, Find, Comment}
use Rattle.lines.specs.declared.Read.{Read}
use Rattle.lines.specs.declared.Read.TheVariants.{Count, Part, Whole}
use Rattle.lines.specs.declared.Malformed.{Malformed}
use Rattle.lines.specs.Lines.{key_of, read_line}
use Rattle.stream.specs.declared.State.{State}
use Rattle.stream.specs.declared.Said.{Said}
use Rattle.stream.specs.declared.Said.TheVariants.{Nothing, Moved, Owner, Wrong}
use Rattle.stream.specs.declared.Taken.{Taken}

-- sentence 2: first the slot count is due
abbrev pub start : State
start = record { due = Slots; slots = 0; roster = none; lines = 0; stopped = false }

-- sentence 9: lines are counted from 1 (in a word, which no machine lives to fill)
unfoldable pub next_number : ℕ → ℕ
next_number lines = cond (ltb lines 18446744073709551615) (lines + 1) lines

-- sentence 10: a slot count outside its range; the lent owners, too, must be as many as it says
abbrev pub count_fits : ℕ → ℕ → Bool
count_fits slots lent = slots_fit slots && leb slots lent

-- the state that goes on with a line due
abbrev pub goes_on : State → Due → State
goes_on s due = record { due = due; slots = s.slots; roster = s.roster; lines = next_number s.lines; stopped = false }

-- the state that has stopped
abbrev pub halted : State → State
halted s = record { due = s.due; slots = s.slots; roster = s.roster; lines = next_number s.lines; stopped = true }

-- sentences 2 and 10: the slot count begins the records with no hosts, or prints 1 with nothing moved and stops
abbrev pub begins : State → List ℕ → ℕ → Taken
begins s owners slots =
    cond (count_fits slots (length owners))
    record { state = record { due = Opening; slots = slots; roster = none; lines = next_number s.lines; stopped = false }; said = Nothing }
    record { state = halted s; said = Moved 1 0 }

-- and every slot is nobody's
abbrev pub owners_begun : List ℕ → ℕ → List ℕ
owners_begun owners slots = cond (count_fits slots (length owners)) (replicate slots 0 ++ drop slots owners) owners

-- sentence 11: a change prints its answer and how many slots moved
abbrev pub changes : State → Reply → Taken
changes s reply = record {
  state = record { due = Opening; slots = s.slots; roster = reply.roster; lines = next_number s.lines; stopped = false };
  said = Moved reply.answer reply.moved;
}

-- sentence 11: a find prints its answer, the slot and the host
abbrev pub found_says : Found → Said
found_says f = Owner f.answer f.slot f.host

abbrev pub finds : State → Found → Taken
finds s f = record { state = goes_on s Opening; said = found_says f }

-- a record that is no change: a find, or a comment, which prints nothing
abbrev pub asked : State → List ℕ → List ℕ → Record → Taken
asked s owners line (Change event) = record { state = goes_on s Opening; said = Nothing }
asked s owners line Find = finds s (found (take s.slots owners) s.slots (key_of line))
asked s owners line Comment = record { state = goes_on s Opening; said = Nothing }

-- sentences 3 and 6: what a record does
abbrev pub answered : State → List ℕ → List ℕ → Record → Taken
answered s owners line (Change event) = changes s (reply_of s.roster s.slots event (take s.slots owners))
answered s owners line Find = asked s owners line Find
answered s owners line Comment = asked s owners line Comment

abbrev pub owners_answered : State → List ℕ → Record → List ℕ
owners_answered s owners (Change event) = table_after s.roster s.slots event (take s.slots owners) ++ drop s.slots owners
owners_answered s owners Find = owners
owners_answered s owners Comment = owners

-- what a line brings, done; sentence 9: a malformed line prints 13 with its number, and stops
abbrev pub does : State → List ℕ → List ℕ → Result Read Malformed → Taken
does s owners line (Ok (Count slots)) = begins s owners slots
does s owners line (Ok (Part due)) = record { state = goes_on s due; said = Nothing }
does s owners line (Ok (Whole whole)) = answered s owners line whole
does s owners line (Err at_line) = record { state = halted s; said = Wrong at_line.line }

abbrev pub owners_done : State → List ℕ → Result Read Malformed → List ℕ
owners_done s owners (Ok (Count slots)) = owners_begun owners slots
owners_done s owners (Ok (Part due)) = owners
owners_done s owners (Ok (Whole whole)) = owners_answered s owners whole
owners_done s owners (Err at_line) = owners

-- a whole line: once the stream has stopped nothing more is read
unfoldable pub takes : State → List ℕ → List ℕ → Taken
takes s owners line = cond s.stopped record { state = s; said = Nothing } (does s owners line (read_line s.due (next_number s.lines) line))

unfoldable pub owners_after : State → List ℕ → List ℕ → List ℕ
owners_after s owners line = cond s.stopped owners (owners_done s owners (read_line s.due (next_number s.lines) line))
