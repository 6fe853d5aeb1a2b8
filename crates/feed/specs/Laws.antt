-- What feeding a stream promises, as statements; the function `promises` holds them all.
-- Assumes nothing.
use Rattle.std.specs.Prelude.{◌≡◌, true, false, Option, Some, List, [], ◌++◌, ℕ, ◌<◌, ◌≤◌, length, drop}
use Rattle.stream.specs.declared.State.{State}
use Rattle.stream.specs.declared.Said.{Said}
use Rattle.stream.specs.declared.Said.TheVariants.{Wrong}
use Rattle.stream.specs.Steps.{next_number, goes_on}
use Rattle.lines.specs.declared.Due.{Due}
use Rattle.stream.specs.Text.{text_of}
use Rattle.stream.specs.Meaning.{at_end, meaning}
use Rattle.feed.specs.declared.Fed.{Fed}
use Rattle.feed.specs.declared.Passing.{Passing}
use Rattle.feed.specs.Passing.{passes_by}
use Rattle.feed.specs.Feed.{before_ten, has_line, fed, fed_next, owners_fed}

-- whatever comes behind the buffer, the meaning is what the next line prints and then the meaning from the state after it
abbrev pub NextGoes : Type 0
NextGoes =
    (s : State) (owners input : List ℕ) (from : ℕ) (rest : List ℕ) →
    meaning s owners [] (drop from input ++ rest)
    ≡ text_of (fed s owners input from).said ++ meaning (fed s owners input from).state (owners_fed s owners input from) [] (drop (fed s owners input from).next input ++ rest)

-- a line is taken wherever there is one: nothing is left over but a piece without byte 10, of at most 8,192 bytes
abbrev pub NothingLeft : Type 0
NothingLeft = (s : State) (owners input : List ℕ) (from : ℕ) → has_line input from ≡ true → (from < (fed s owners input from).next) × ((fed s owners input from).next ≤ length input)

abbrev pub PieceLeft : Type 0
PieceLeft = (input : List ℕ) (from : ℕ) → has_line input from ≡ false → (before_ten (drop from input) ≡ length (drop from input)) × (length (drop from input) ≤ 8192)

-- an unfinished line above 8,192 bytes is malformed at once, whatever comes behind it
abbrev pub LongPiece : Type 0
LongPiece =
    (s : State) (owners piece rest : List ℕ) → s.stopped ≡ false → before_ten piece ≡ length piece → 8192 < length piece →
    meaning s owners [] (piece ++ rest) ≡ text_of (Wrong (next_number s.lines))

-- at the end of the input the piece left over decides
abbrev pub EndPrints : Type 0
EndPrints = (s : State) (owners piece : List ℕ) → before_ten piece ≡ length piece → meaning s owners [] piece ≡ text_of (at_end s piece)

-- two replies that meet a contract are equal, and so are the owners they leave
abbrev pub FedFixed : Type 0
FedFixed =
    (s : State) (owners input : List ℕ) (from : ℕ) (x y : Option Fed) (t u : List ℕ) → x ≡ fed_next s owners input from → y ≡ fed_next s owners input from →
    t ≡ owners_fed s owners input from → u ≡ owners_fed s owners input from → (x ≡ y) × (t ≡ u)

abbrev pub EndFixed : Type 0
EndFixed = (s : State) (piece : List ℕ) (x y : Said) → x ≡ at_end s piece → y ≡ at_end s piece → x ≡ y

-- a next line taken with no roster at hand leaves what feeding it leaves, and the owners as they were
abbrev pub PassedFed : Type 0
PassedFed =
    (s : State) (owners input : List ℕ) (from : ℕ) (p : Passing) → passes_by s.due (next_number s.lines) s.slots owners input from ≡ Some p → s.stopped ≡ false →
    (fed_next s owners input from ≡ Some (record { state = goes_on s p.due; said = p.said; next = p.next })) × (owners_fed s owners input from ≡ owners)

abbrev pub PassingFixed : Type 0
PassingFixed =
    (due : Due) (number slots : ℕ) (owners input : List ℕ) (from : ℕ) (x y : Option Passing) → x ≡ passes_by due number slots owners input from → y ≡ passes_by due number slots owners input from → x ≡ y
