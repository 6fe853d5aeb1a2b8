-- What a stream promises, as statements; the function `promises` holds them all.
-- Assumes nothing.
use Rattle.std.specs.Prelude.{◌≡◌, true, false, ◌≢◌, Option, Some, List, [], ◌++◌, ℕ, ◌<◌}
use Rattle.lines.specs.declared.Due.{Due}
use Rattle.lines.specs.Numbers.{number_of}
use Rattle.stream.specs.declared.State.{State}
use Rattle.stream.specs.declared.Said.{Said}
use Rattle.stream.specs.declared.Said.TheVariants.{Nothing}
use Rattle.stream.specs.declared.Taken.{Taken}
use Rattle.stream.specs.declared.Passed.{Passed}
use Rattle.stream.specs.Steps.{next_number, goes_on, takes, owners_after}
use Rattle.stream.specs.Passing.{passes}
use Rattle.stream.specs.Text.{decimal, answer_name, printed_line, text_of, answer_of}
use Rattle.stream.specs.Meaning.{meaning}

-- whatever is printed begins with the line of its answer
abbrev pub AnswerFirst : Type 0
AnswerFirst = (said : Said) → said ≢ Nothing → (rest : List ℕ) × (text_of said ≡ printed_line answer_name (answer_of said) ++ rest)

-- a number of at most 9 digits, printed, is read back as itself
abbrev pub DecimalReads : Type 0
DecimalReads = (n : ℕ) → n < 1000000000 → number_of (decimal n) ≡ Some n

-- once a stream has stopped nothing more is printed, whatever comes
abbrev pub StoppedSilent : Type 0
StoppedSilent = (s : State) (owners piece bytes : List ℕ) → s.stopped ≡ true → meaning s owners piece bytes ≡ []

-- two replies that meet the contract of a line taken are equal, and so are the owners they leave
abbrev pub TakenFixed : Type 0
TakenFixed =
    (s : State) (owners line : List ℕ) (x y : Taken) (t u : List ℕ) → x ≡ takes s owners line → y ≡ takes s owners line →
    t ≡ owners_after s owners line → u ≡ owners_after s owners line → (x ≡ y) × (t ≡ u)

-- a line taken with no roster at hand leaves what the line taken leaves, and the owners as they were
abbrev pub PassedTakes : Type 0
PassedTakes =
    (s : State) (owners line : List ℕ) (p : Passed) → s.stopped ≡ false → passes s.due (next_number s.lines) s.slots owners line ≡ Some p →
    (takes s owners line ≡ record { state = goes_on s p.due; said = p.said }) × (owners_after s owners line ≡ owners)

abbrev pub PassedFixed : Type 0
PassedFixed =
    (due : Due) (number slots : ℕ) (owners line : List ℕ) (x y : Option Passed) → x ≡ passes due number slots owners line → y ≡ passes due number slots owners line → x ≡ y
