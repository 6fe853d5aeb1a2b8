-- What the calls on a table answer and leave (document 01, Numbers answered), as one table of rows each.
-- Assumes nothing.
use Rattle.std.specs.Prelude.{◌&&◌, not, cond, List, [], ◌∷◌, ◌++◌, ℕ, eqb, length}
use Rattle.base.specs.Rows.{Row, lowest}
use Rattle.base.specs.Sizes.{slots_fit}
use Rattle.roster.specs.declared.Roster.{Roster}
use Rattle.roster.specs.Roster.{valid}
use Rattle.mover.specs.Mover.{changes}
use Rattle.table.specs.Table.{belongs, stranger, fresh, rearranged}

-- what the check of a table tells: the number, and the slot that goes with 3
pub record Checked : Type 0 where
  pub answer : ℕ
  pub slot : ℕ

-- what a move tells: the number, and how many slots changed owner
pub record Moved : Type 0 where
  pub answer : ℕ
  pub count : ℕ

-- 1: the slot count is outside 1 to 16,384, or the table's length is not the slot count; 2: the roster breaks a rule
abbrev pub size_rows : Roster → ℕ → ℕ → List Row
size_rows r S n =
    record { number = 1; holds = not (slots_fit S && eqb n S) } ∷ record { number = 2; holds = not (valid r) } ∷ []

-- 3: the table does not belong to the roster
abbrev pub table_rows : Roster → ℕ → List ℕ → List Row
table_rows r S slots = record { number = 3; holds = not (belongs r S slots) } ∷ []

-- the check: its answer, and the slot that goes with 3
unfoldable pub check_answer : Roster → ℕ → List ℕ → ℕ
check_answer r S slots = lowest (size_rows r S (length slots) ++ table_rows r S slots)

abbrev pub checked : Roster → ℕ → List ℕ → Checked
checked r S slots = record { answer = check_answer r S slots; slot = cond (eqb (check_answer r S slots) 3) (stranger r slots) 0 }

-- the fresh layout: its answer, and the table at exit
unfoldable pub layout_answer : Roster → ℕ → List ℕ → ℕ
layout_answer r S slots = lowest (size_rows r S (length slots))

unfoldable pub laid_out : Roster → ℕ → List ℕ → List ℕ
laid_out r S slots = cond (eqb (layout_answer r S slots) 0) (fresh r S) slots

-- the move: its answer, the table at exit, and how many slots changed owner
unfoldable pub move_answer : Roster → ℕ → List ℕ → ℕ
move_answer r S slots = lowest (size_rows r S (length slots))

unfoldable pub moved_to : Roster → ℕ → List ℕ → List ℕ
moved_to r S slots = cond (eqb (move_answer r S slots) 0) (rearranged r S slots) slots

abbrev pub move_reply : Roster → ℕ → List ℕ → Moved
move_reply r S slots = record { answer = move_answer r S slots; count = changes slots (moved_to r S slots) }
