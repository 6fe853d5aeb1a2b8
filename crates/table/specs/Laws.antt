-- What the calls on a table promise, as statements; the function `promises` holds them all.
-- Assumes nothing.
use Rattle.std.specs.Prelude.{◌≡◌, true, List, ◌++◌, ℕ, ◌≤◌, Result, length, replicate}
use Rattle.base.specs.declared.Refusal.{Refusal}
use Rattle.base.specs.Refusals.{answer_of}
use Rattle.base.specs.Rows.{rises_from}
use Rattle.base.specs.Sizes.{slots_fit}
use Rattle.roster.specs.declared.Roster.{Roster}
use Rattle.roster.specs.Roster.{valid}
use Rattle.mover.specs.Mover.{changes}
use Rattle.table.specs.Table.{no_hosts, belongs, fresh, rearranged, freed_slots, lacked_slots}
use Rattle.table.specs.declared.misfit.Misfit.{Misfit}
use Rattle.table.specs.Told.{told_check, told_move, WithSlot}
use Rattle.table.specs.Answers.{Checked, Moved, size_rows, table_rows, checked, layout_answer, laid_out, moved_to, move_reply}

-- a valid roster, a slot count in range, and a table of that length
pub record Sized (r : Roster) (S : ℕ) (slots : List ℕ) : Type 0 where
  pub valid_roster : valid r ≡ true
  pub count_fits : slots_fit S ≡ true
  pub that_long : length slots ≡ S

-- the fresh layout has the slot count's length and belongs
abbrev pub FreshBelongs : Type 0
FreshBelongs =
    (r : Roster) (S : ℕ) (slots : List ℕ) → Sized r S slots → (length (fresh r S) ≡ S) × (belongs r S (fresh r S) ≡ true)

-- the moved table has the same length and belongs
abbrev pub RearrangedBelongs : Type 0
RearrangedBelongs =
    (r : Roster) (S : ℕ) (slots : List ℕ) → Sized r S slots → (length (rearranged r S slots) ≡ S) × (belongs r S (rearranged r S slots) ≡ true)

-- with no hosts every slot becomes 0
abbrev pub NoHostsZero : Type 0
NoHostsZero = (r : Roster) (S : ℕ) (slots : List ℕ) → Sized r S slots → no_hosts r ≡ true → rearranged r S slots ≡ replicate S 0

-- as many slots change owner as are freed, and no table that belongs changes fewer
abbrev pub FewestMoves : Type 0
FewestMoves =
    (r : Roster) (S : ℕ) (slots : List ℕ) → Sized r S slots →
    (changes slots (rearranged r S slots) ≡ freed_slots r S slots)
    × ((other : List ℕ) → length other ≡ S → belongs r S other ≡ true → changes slots (rearranged r S slots) ≤ changes slots other)

-- a table that belongs does not move
abbrev pub BelongingStays : Type 0
BelongingStays = (r : Roster) (S : ℕ) (slots : List ℕ) → Sized r S slots → belongs r S slots ≡ true → rearranged r S slots ≡ slots

-- document 02, request 11: after the checks of the count, the length and the roster the freed slots are always as many as the hosts lack
abbrev pub FreedIsLacked : Type 0
FreedIsLacked = (r : Roster) (S : ℕ) (slots : List ℕ) → Sized r S slots → freed_slots r S slots ≡ lacked_slots r S slots

-- the rows rise in number, so that each answer is the lowest row that holds (`LowestIsFirst` of base)
abbrev pub RowsRise : Type 0
RowsRise =
    (r : Roster) (S : ℕ) (slots : List ℕ) →
    (rises_from 0 (size_rows r S (length slots) ++ table_rows r S slots) ≡ true) × (rises_from 0 (size_rows r S (length slots)) ≡ true)

-- two replies that meet a contract are equal, and so are the tables they leave
abbrev pub CheckFixed : Type 0
CheckFixed = (r : Roster) (S : ℕ) (slots : List ℕ) (x y : Checked) → x ≡ checked r S slots → y ≡ checked r S slots → x ≡ y

abbrev pub LayoutFixed : Type 0
LayoutFixed =
    (r : Roster) (S : ℕ) (slots : List ℕ) (a b : ℕ) (t u : List ℕ) → a ≡ layout_answer r S slots → b ≡ layout_answer r S slots →
    t ≡ laid_out r S slots → u ≡ laid_out r S slots → (a ≡ b) × (t ≡ u)

abbrev pub MoveFixed : Type 0
MoveFixed =
    (r : Roster) (S : ℕ) (slots : List ℕ) (x y : Moved) (t u : List ℕ) → x ≡ move_reply r S slots → y ≡ move_reply r S slots →
    t ≡ moved_to r S slots → u ≡ moved_to r S slots → (x ≡ y) × (t ≡ u)

-- and results that tell the same reply are the same
abbrev pub CheckTold : Type 0
CheckTold = (x y : Result (Unit {0}) Misfit) → WithSlot x → WithSlot y → told_check x ≡ told_check y → x ≡ y

abbrev pub LayoutTold : Type 0
LayoutTold = (x y : Result (Unit {0}) Refusal) → answer_of x ≡ answer_of y → x ≡ y

abbrev pub MoveTold : Type 0
MoveTold = (x y : Result ℕ Refusal) → told_move x ≡ told_move y → x ≡ y
