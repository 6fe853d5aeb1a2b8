-- Laws of a line taken with no roster at hand: what it leaves is what taking it leaves.
-- Assumes nothing.
use mathlib.Core.Path.{◌≡◌, refl, sym, ◌∙◌}
use mathlib.Core.List.{List}
use Prim.Native.Nat.{ℕ}
use Rattle.std.specs.Prelude.{Some, Result, Ok, Err}
use Rattle.lines.specs.declared.Record.TheVariants.{Change, Find, Comment}
use Rattle.lines.specs.declared.Read.{Read}
use Rattle.lines.specs.declared.Read.TheVariants.{Count, Part, Whole}
use Rattle.lines.specs.declared.Malformed.{Malformed}
use Rattle.lines.specs.Lines.{read_line}
use Rattle.stream.specs.declared.State.{State}
use Rattle.stream.specs.declared.Passed.{Passed}
use Rattle.stream.specs.Steps.{next_number, goes_on, does, owners_done}
use Rattle.stream.specs.Passing.{passed, passes}
use Rattle.stream.specs.Laws.{PassedTakes, PassedFixed}
use Rattle.stream.proofs.Turns.{turn_says, turn_owners}

module _ (s : State) (owners line : List ℕ) (p : Passed) where
  does-passed : (r : Result Read Malformed) → passed s.slots owners line r ≡ Some p →
      (does s owners line r ≡ record { state = goes_on s p.due; said = p.said }) × (owners_done s owners r ≡ owners)
  does-passed (Ok (Count count)) e = cc
  does-passed (Ok (Part next)) e = (cc, refl)
  does-passed (Ok (Whole (Change event))) e = cc
  does-passed (Ok (Whole Find)) e = (cc, refl)
  does-passed (Ok (Whole Comment)) e = cc
  does-passed (Err at_line) e = cc

-- a line passed is a line taken: the state goes on, and the owners stay
pub passed-takes : PassedTakes
unfolding passes
passed-takes s owners line p on e =
    let read = read_line s.due (next_number s.lines) line in
    let done = does-passed s owners line p read e in
    (turn_says s owners line read on refl ∙ done.0, turn_owners s owners line read on refl ∙ done.1)

pub passed_fixed : PassedFixed
passed_fixed due number slots owners line x y p q = p ∙ sym q
