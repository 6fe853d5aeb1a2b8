-- Every line that a buffer holds, one after the other: what is taken, and what is printed as far as the lent output has room.
-- Assumes nothing.
use Rattle.std.specs.Prelude.{Bool, ◌&&◌, not, cond, List, [], ◌++◌, ℕ, zero, suc, length}
use Rattle.stream.specs.declared.State.{State}
use Rattle.stream.specs.Text.{text_of}
use Rattle.feed.specs.declared.Fed.{Fed}
use Rattle.feed.specs.Feed.{has_line, fed, owners_fed}
use Rattle.printing.specs.Wrote.{room_for}
use Rattle.buffer.specs.declared.Ran.{Ran}

-- how far a buffer is taken: the state, the owners, the text printed, and the place of the next line
pub record Turn : Type 0 where
  pub state : State
  pub owners : List ℕ
  pub text : List ℕ
  pub next : ℕ

-- a line more may be taken: the stream has not stopped, and the output has room for the longest text
abbrev pub may_go_on : Bool → ℕ → ℕ → Bool
may_go_on stopped size printed = not stopped && room_for size printed

-- and is, where one begins
abbrev pub goes_on : List ℕ → ℕ → Turn → Bool
goes_on input size t = may_go_on t.state.stopped size (length t.text) && has_line input t.next

-- the next line taken, and its text behind the text before
abbrev pub with_line : List ℕ → Turn → Fed → Turn
with_line input t f = record { state = f.state; owners = owners_fed t.state t.owners input t.next; text = t.text ++ text_of f.said; next = f.next }

abbrev pub one_more : List ℕ → Turn → Turn
one_more input t = with_line input t (fed t.state t.owners input t.next)

-- at most so many lines more
unfoldable pub up_to : ℕ → List ℕ → ℕ → Turn → Turn
up_to zero input size t = t
up_to (suc most) input size t = cond (goes_on input size t) (up_to most input size (one_more input t)) t

-- nothing taken yet
abbrev pub begun : State → List ℕ → Turn
begun s owners = record { state = s; owners = owners; text = []; next = 0 }

-- all lines of a buffer; each takes a byte or more, so there are no more lines than bytes
abbrev pub run : State → List ℕ → List ℕ → ℕ → Turn
run s owners input size = up_to (length input) input size (begun s owners)

-- what the call answers: the state, the place of the next line, and how long the text is
abbrev pub ran : Turn → Ran
ran t = record { state = t.state; next = t.next; printed = length t.text }
