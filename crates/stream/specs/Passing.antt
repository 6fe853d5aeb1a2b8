-- What a line leaves that is taken with no roster at hand, for speed. Where it is taken, `PassedTakes` says that it is what `takes` leaves.
-- Assumes nothing.
use Rattle.std.specs.Prelude.{Option, Some, None, Result, Ok, Err, List, ℕ, take}
use Rattle.find.specs.Reply.{Found, found}
use Rattle.lines.specs.declared.Due.{Due}
use Rattle.lines.specs.declared.Due.TheVariants.{Opening}
use Rattle.lines.specs.declared.Record.{Record}
use Rattle.lines.specs.declared.Record.TheVariants.{Change, Find, Comment}
use Rattle.lines.specs.declared.Read.{Read}
use Rattle.lines.specs.declared.Read.TheVariants.{Count, Part, Whole}
use Rattle.lines.specs.declared.Malformed.{Malformed}
use Rattle.lines.specs.Lines.{key_of, read_line}
use Rattle.stream.specs.declared.Said.TheVariants.{Nothing}
use Rattle.stream.specs.declared.Passed.{Passed}
use Rattle.stream.specs.Steps.{found_says}

-- what a find says
abbrev pub found_for : Found → Passed
found_for f = record { due = Opening; said = found_says f }

-- of the records only a find; any other may need the roster
abbrev pub passed_find : ℕ → List ℕ → List ℕ → Record → Option Passed
passed_find slots owners line (Change event) = None
passed_find slots owners line Find = Some (found_for (found (take slots owners) slots (key_of line)))
passed_find slots owners line Comment = None

-- a part of a record, or a find
abbrev pub passed : ℕ → List ℕ → List ℕ → Result Read Malformed → Option Passed
passed slots owners line (Ok (Count count)) = None
passed slots owners line (Ok (Part next)) = Some (record { due = next; said = Nothing })
passed slots owners line (Ok (Whole whole)) = passed_find slots owners line whole
passed slots owners line (Err at_line) = None

unfoldable pub passes : Due → ℕ → ℕ → List ℕ → List ℕ → Option Passed
passes due number slots owners line = passed slots owners line (read_line due number line)
