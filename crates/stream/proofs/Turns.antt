-- Laws of one line taken: it does what it brings.
-- Assumes nothing.
use mathlib.Core.Path.{◌≡◌}
use mathlib.Core.Bool.{false}
use mathlib.Core.List.{List}
use Prim.Native.Nat.{ℕ}
use Rattle.std.specs.Prelude.{Result}
use Rattle.lines.specs.declared.Read.{Read}
use Rattle.lines.specs.declared.Malformed.{Malformed}
use Rattle.lines.specs.Lines.{read_line}
use Rattle.stream.specs.declared.State.{State}
use Rattle.stream.specs.Steps.{next_number, does, owners_done, takes, owners_after}

module _ (s : State) (owners line : List ℕ) where
  -- a line taken is what it brings, done
  pub turn_says : (r : Result Read Malformed) → s.stopped ≡ false → read_line s.due (next_number s.lines) line ≡ r → takes s owners line ≡ does s owners line r
  unfolding takes
  turn_says r on e = rw (on, e)

  pub turn_owners : (r : Result Read Malformed) → s.stopped ≡ false → read_line s.due (next_number s.lines) line ≡ r → owners_after s owners line ≡ owners_done s owners r
  unfolding owners_after
  turn_owners r on e = rw (on, e)
