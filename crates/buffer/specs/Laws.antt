-- What running a buffer promises, as statements; the function `promises` holds them all.
-- Assumes nothing.
use Rattle.std.specs.Prelude.{◌≡◌, true, false, List, [], ◌++◌, ◌⊎◌, ℕ, ◌≤◌, length, drop}
use Rattle.stream.specs.declared.State.{State}
use Rattle.stream.specs.Text.{text_of}
use Rattle.stream.specs.Meaning.{at_end, meaning, printed}
use Rattle.feed.specs.Feed.{has_line}
use Rattle.printing.specs.Wrote.{wrote}
use Rattle.buffer.specs.declared.Ran.{Ran}
use Rattle.buffer.specs.Run.{goes_on, run, ran}
use Rattle.buffer.specs.Reads.{unserved, after_reads, all_read}

-- whatever comes behind the buffer, the meaning is the text printed and then the meaning from where the run ended
abbrev pub RunGoes : Type 0
RunGoes =
    (s : State) (owners input : List ℕ) (size : ℕ) (rest : List ℕ) →
    meaning s owners [] (input ++ rest)
    ≡ (run s owners input size).text ++ meaning (run s owners input size).state (run s owners input size).owners [] (drop (run s owners input size).next input ++ rest)

-- a run ends only where no line more can be taken: the stream has stopped, the output is full, or a piece of a line is left
abbrev pub RunEnds : Type 0
RunEnds = (s : State) (owners input : List ℕ) (size : ℕ) → goes_on input size (run s owners input size) ≡ false

-- and within the buffer and the output
abbrev pub RunWithin : Type 0
RunWithin = (s : State) (owners input : List ℕ) (size : ℕ) → ((run s owners input size).next ≤ length input) × (length (run s owners input size).text ≤ size)

-- however an input is cut into reads, and however large the output is at each: what was printed so far, and the meaning of what is left, are the meaning of the input
abbrev pub AnyReads : Type 0
AnyReads =
    (reads : List (List ℕ × ℕ)) (rest : List ℕ) →
    printed (all_read reads ++ rest)
    ≡ (after_reads unserved reads).text ++ meaning (after_reads unserved reads).state (after_reads unserved reads).owners [] ((after_reads unserved reads).left ++ rest)

-- so once the stream has stopped, or no line is left at the end of the input, what was printed and what the end prints are what the program prints
abbrev pub AllPrinted : Type 0
AllPrinted =
    (reads : List (List ℕ × ℕ)) → ((after_reads unserved reads).state.stopped ≡ true) ⊎ (has_line (after_reads unserved reads).left 0 ≡ false) →
    (after_reads unserved reads).text ++ text_of (at_end (after_reads unserved reads).state (after_reads unserved reads).left) ≡ printed (all_read reads)

-- two replies that meet the contract of a run are equal, and so are the owners and the outputs they leave
abbrev pub RanFixed : Type 0
RanFixed =
    (s : State) (owners input out : List ℕ) (x y : Ran) (t u p q : List ℕ) → x ≡ ran (run s owners input (length out)) → y ≡ ran (run s owners input (length out)) →
    t ≡ (run s owners input (length out)).owners → u ≡ (run s owners input (length out)).owners →
    p ≡ wrote out 0 (run s owners input (length out)).text → q ≡ wrote out 0 (run s owners input (length out)).text → (x ≡ y) × (t ≡ u) × (p ≡ q)
