-- The next line of a buffer taken with no roster at hand, where it needs none. `PassedFed` says that it leaves what `fed` leaves.
-- Assumes nothing.
use Rattle.std.specs.Prelude.{cond, Option, None, List, ℕ}
use Rattle.std.specs.Option.{option_map}
use Rattle.lines.specs.declared.Due.{Due}
use Rattle.stream.specs.declared.Passed.{Passed}
use Rattle.stream.specs.Passing.{passes}
use Rattle.feed.specs.declared.Passing.{Passing}
use Rattle.feed.specs.Feed.{has_line, line_at, behind}

-- what a line passed leaves, with the place behind it
abbrev pub with_place : List ℕ → ℕ → Passed → Passing
with_place input from p = record { due = p.due; said = p.said; next = behind input from }

-- the next line, where there is one and it needs no roster
unfoldable pub passes_by : Due → ℕ → ℕ → List ℕ → List ℕ → ℕ → Option Passing
passes_by due number slots owners input from =
    cond (has_line input from) (option_map (with_place input from) (passes due number slots owners (line_at input from))) None
