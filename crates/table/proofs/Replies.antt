-- What the calls on a table answer, case by case.
-- Assumes nothing.
use mathlib.Core.Path.{◌≡◌, refl, sym, ap, ap₂, ◌∙◌, subst, fun_ext}
use mathlib.Core.Bool.{true, false, ◌&&◌, not, cond}
use mathlib.Core.Logic.{⊎_elim}
use mathlib.Core.List.{List}
use Prim.Native.Nat.{ℕ, ◌≤◌, ◌<◌}
use native.Mathlib.Nat.{pos_of_ne-zero, eq-zero-or-pos}
use native.Mathlib.Omega.{arith}
use lib.Dec.{leb, eqb}
use lib.ListN.{length}
use borrow.Author.Tests.{eq-eqb, ne_eqb, eqb-true, leb-true}
use Rattle.std.specs.Prelude.{Result, Ok, Err}
use Rattle.base.specs.declared.Refusal.{Refusal}
use Rattle.base.specs.Refusals.{number_of, answer_of}
use Rattle.base.specs.Rows.{lowest, rises_from}
use Rattle.base.specs.Sizes.{slots_fit}
use Rattle.base.specs.Tables.{first, at}
use Rattle.base.proofs.Answers.{lowest_stop, lowest_go}
use Rattle.base.proofs.Refusals.{told_once, number_not_zero, same_reason}
use Rattle.base.proofs.Sums.{count_none}
use Rattle.base.proofs.Tests.{by_test, and_left, and_right, first-none}
use Rattle.roster.specs.declared.Roster.{Roster}
use Rattle.roster.specs.declared.valid_roster.ValidRoster.{ValidRoster}
use Rattle.roster.specs.Roster.{valid, is_on}
use Rattle.roster.specs.Valid.{ChecksRoster}
use Rattle.mover.specs.Mover.{changes}
use Rattle.table.specs.Table.{belongs, stranger, owners, fresh, rearranged, freed_slots}
use Rattle.table.specs.Answers.{Checked, Moved, size_rows, table_rows, check_answer, checked, layout_answer, laid_out, move_answer, moved_to, move_reply}
use Rattle.table.specs.declared.misfit.Misfit.{Misfit}
use Rattle.table.specs.declared.misfit.Misfit.TheVariants.{Refused, WrongTable}
use Rattle.table.specs.Told.{reason_of, slot_of, WithSlot, told_move}
use Rattle.table.specs.Laws.{Sized, RowsRise, CheckFixed, LayoutFixed, MoveFixed, CheckTold, LayoutTold, MoveTold}
use Rattle.table.proofs.Owners.{known_owner, belongs_exact}
use Rattle.table.proofs.Moves.{belongs-none-freed, none-freed-belongs, fewest_moves}

-- the rows of sizes -------------------------------------------------------------------------

pub sizes_rise : (r : Roster) (S n : ℕ) → rises_from 0 (size_rows r S n) ≡ true
unfolding rises_from
sizes_rise r S n = refl

-- no size is wrong: the facts that go with it
pub sizes_sized : (r : Roster) (S : ℕ) (slots : List ℕ) → lowest (size_rows r S (length slots)) ≡ 0 → Sized r S slots
unfolding lowest
sizes_sized r S slots z =
    by_test (slots_fit S && eqb (length slots) S)
    (λ t. by_test (valid r)
    (λ v. record { valid_roster = v; count_fits = and_left (slots_fit S) _ t; that_long = eqb-true _ _ (and_right (slots_fit S) _ t) })
    (λ w. absurd (let e : 2 ≡ 0 = rw (t, w) at z in omega arith)))
    (λ w. absurd (let e : 1 ≡ 0 = rw w at z in omega arith))

pub slots-few : {r : Roster} {S : ℕ} {slots : List ℕ} → Sized r S slots → length slots ≤ 16384
slots-few {r} {S} {slots} z = let v : S ≤ 16384 = leb-true S 16384 (and_right (leb 1 S) _ z.count_fits) in omega (arith, z.that_long)

-- and the other way
pub sized_sizes : (r : Roster) (S : ℕ) (slots : List ℕ) → Sized r S slots → lowest (size_rows r S (length slots)) ≡ 0
unfolding lowest
sized_sizes r S slots z = rw (z.count_fits, eq-eqb _ _ z.that_long, z.valid_roster)

-- 1 or 2 where one is
pub sizes_low : (r : Roster) (S n : ℕ) → lowest (size_rows r S n) ≤ 2
unfolding lowest
sizes_low r S n =
    by_test (slots_fit S && eqb n S)
    (λ t. by_test (valid r) (λ v. rw (t, v) (omega arith)) (λ w. rw (t, w) (omega arith)))
    (λ w. rw w (omega arith))

-- what the call that checks the sizes answers, past the tests of the slot count
pub sizes_told : (r : Roster) (S n : ℕ) (checked : Result ValidRoster Refusal) → slots_fit S ≡ true → n ≡ S → ChecksRoster r checked → answer_of checked ≡ lowest (size_rows r S n)
unfolding lowest
sizes_told r S n (Ok v) fits e same = let right : valid r ≡ true = subst (λ x. valid x ≡ true) same v.valid in rw (fits, eq-eqb _ _ e, right)
sizes_told r S n (Err reason) fits e wrong = ap number_of wrong.0 ∙ rw (fits, eq-eqb _ _ e, wrong.1)

-- the check ---------------------------------------------------------------------------------

abbrev says : ℕ → ℕ → Checked
says a i = record { answer = a; slot = i }

-- the reply, by its answer
check_says : (r : Roster) (S : ℕ) (slots : List ℕ) (a i : ℕ) → check_answer r S slots ≡ a → cond (eqb a 3) (stranger r slots) 0 ≡ i → checked r S slots ≡ says a i
check_says r S slots a i e f = ap₂ says e (ap (λ n. cond (eqb n 3) (stranger r slots) 0) e ∙ f)

pub check_sizes : (r : Roster) (S : ℕ) (slots : List ℕ) (a : ℕ) → a ≡ lowest (size_rows r S (length slots)) → (a ≡ 0 → ⊥) → checked r S slots ≡ says a 0
unfolding check_answer
check_sizes r S slots a e ne =
    let low = sizes_low r S (length slots) in
    check_says r S slots a 0 (lowest_stop (size_rows r S (length slots)) (table_rows r S slots) a (pos_of_ne-zero ne) (sym e))
    (ap (λ b. cond b (stranger r slots) 0) (ne_eqb a 3 (λ v. omega arith)))

module _ (r : Roster) (S : ℕ) (slots : List ℕ) (z : Sized r S slots) where
  table_decides : check_answer r S slots ≡ lowest (table_rows r S slots)
  unfolding check_answer
  table_decides = lowest_go 0 (size_rows r S (length slots)) (table_rows r S slots) (sizes_rise r S (length slots)) (sized_sizes r S slots z)

  check_fails : belongs r S slots ≡ false → checked r S slots ≡ says 3 (stranger r slots)
  unfolding lowest
  check_fails f = check_says r S slots 3 (stranger r slots) (table_decides ∙ rw f refl) refl

  check_passes : belongs r S slots ≡ true → checked r S slots ≡ says 0 0
  unfolding lowest
  check_passes t = check_says r S slots 0 0 (table_decides ∙ rw t refl) refl

  -- the search for a stranger is that of the definition
  pub stranger_is : first (length slots) (λ i. not (is_on (owners r) (at slots i))) ≡ stranger r slots
  unfolding stranger
  stranger_is = ap (first (length slots)) (fun_ext (λ i. ap not (sym (known_owner r z.valid_roster (at slots i)))))

  -- in a table that belongs there is none
  belonging_known : belongs r S slots ≡ true → stranger r slots ≡ length slots
  belonging_known t =
      sym stranger_is ∙ first-none (length slots) _ (λ i l. ap not ((belongs_exact r z.valid_roster S slots z.that_long t).known i l))

  -- a stranger: 3 with its slot
  pub check_stranger : (i : ℕ) → i ≡ stranger r slots → i < length slots → checked r S slots ≡ says 3 i
  check_stranger i e l =
      by_test (belongs r S slots)
      (λ t. absurd (let v = belonging_known t in omega arith))
      (λ f. check_fails f ∙ ap (says 3) (sym e))

  -- all known and some slot freed: 3 with the slot count
  pub check_count : (i : ℕ) → i ≡ stranger r slots → (freed_slots r S slots ≡ 0 → ⊥) → checked r S slots ≡ says 3 i
  check_count i e ne =
      by_test (belongs r S slots)
      (λ t. absurd (ne (belongs-none-freed r S slots z t)))
      (λ f. check_fails f ∙ ap (says 3) (sym e))

  -- none freed: 0
  pub check_belongs : freed_slots r S slots ≡ 0 → checked r S slots ≡ says 0 0
  check_belongs e = check_passes (none-freed-belongs r S slots z e)

-- what a check that answers 0 tells
pub check_zero : (r : Roster) (S : ℕ) (slots : List ℕ) → check_answer r S slots ≡ 0 → Sized r S slots × (belongs r S slots ≡ true)
unfolding lowest
check_zero r S slots e =
    let z : Sized r S slots = ⊎_elim
    (λ v. sizes_sized r S slots v)
    (λ v. absurd (let w = ap (λ c. c.answer) (check_sizes r S slots (lowest (size_rows r S (length slots))) refl (λ u. omega arith)) in omega arith))
    (eq-zero-or-pos (lowest (size_rows r S (length slots)))) in
    (z, by_test (belongs r S slots) (λ t. t) (λ f. absurd (let w : 3 ≡ 0 = rw f at (sym (table_decides r S slots z) ∙ e) in omega arith)))

-- the move ----------------------------------------------------------------------------------

abbrev pub moves : ℕ → ℕ → Moved
moves a n = record { answer = a; count = n }

pub no_change : (slots : List ℕ) → changes slots slots ≡ 0
no_change slots = count_none (length slots) _ (λ i l. ap not (eq-eqb (at slots i) (at slots i) refl))

-- a refusal leaves the table, so nothing has changed
move_refused : (r : Roster) (S : ℕ) (slots : List ℕ) (a : ℕ) → move_answer r S slots ≡ a → (a ≡ 0 → ⊥) → moved_to r S slots ≡ slots
unfolding moved_to
move_refused r S slots a e ne = rw e (rw (ne_eqb a 0 ne) refl)

pub move_sizes : (r : Roster) (S : ℕ) (slots : List ℕ) (a : ℕ) → a ≡ lowest (size_rows r S (length slots)) → (a ≡ 0 → ⊥) →
    (move_reply r S slots ≡ moves a 0) × (moved_to r S slots ≡ slots)
unfolding move_answer
move_sizes r S slots a e ne =
    let same = move_refused r S slots a (sym e) ne in
    (ap₂ moves (sym e) (ap (changes slots) same ∙ no_change slots), same)

module _ (r : Roster) (S : ℕ) (slots : List ℕ) (z : Sized r S slots) where
  pub move_accepted : move_answer r S slots ≡ 0
  unfolding move_answer
  move_accepted = sized_sizes r S slots z

  pub moved-to : moved_to r S slots ≡ rearranged r S slots
  unfolding moved_to
  moved-to = rw move_accepted

  pub move_done : (n : ℕ) → n ≡ freed_slots r S slots → move_reply r S slots ≡ moves 0 n
  move_done n e =
      ap₂ moves move_accepted (ap (changes slots) moved-to ∙ (fewest_moves r S slots z).0 ∙ sym e)

-- the layout ----------------------------------------------------------------------------------

pub layout_refused : (r : Roster) (S : ℕ) (slots : List ℕ) (a : ℕ) → a ≡ lowest (size_rows r S (length slots)) → (a ≡ 0 → ⊥) → (layout_answer r S slots ≡ a) × (laid_out r S slots ≡ slots)
unfolding layout_answer laid_out
layout_refused r S slots a e ne = (sym e, rw (← e) (rw (ne_eqb a 0 ne) refl))

pub layout_done : (r : Roster) (S : ℕ) (slots : List ℕ) → Sized r S slots → (layout_answer r S slots ≡ 0) × (laid_out r S slots ≡ fresh r S)
unfolding layout_answer laid_out
layout_done r S slots z = let e = sized_sizes r S slots z in (e, rw e refl)

-- one reply ------------------------------------------------------------------------------------

pub rows-rise : RowsRise
unfolding rises_from
rows-rise r S slots = (refl, refl)

pub check_fixed : CheckFixed
check_fixed r S slots x y p q = p ∙ sym q

pub layout_fixed : LayoutFixed
layout_fixed r S slots a b t u p q v w = (p ∙ sym q, v ∙ sym w)

pub move_fixed : MoveFixed
move_fixed r S slots x y t u p q v w = (p ∙ sym q, v ∙ sym w)

-- a reason and a slot are told by the number and the slot
same_misfit : (d e : Misfit) → WithSlot (Err d) → WithSlot (Err e) → reason_of d ≡ reason_of e → slot_of d ≡ slot_of e → d ≡ e
same_misfit (Refused d) (Refused e) s t h k = ap Refused h
same_misfit (Refused d) (WrongTable j) s t h k = absurd (s (ap (λ r. Err (Refused r)) h))
same_misfit (WrongTable i) (Refused e) s t h k = absurd (t (ap (λ r. Err (Refused r)) (sym h)))
same_misfit (WrongTable i) (WrongTable j) s t h k = ap (λ n. WrongTable n) k

pub check_told : CheckTold
check_told (Ok x) (Ok y) s t h = refl
check_told (Ok x) (Err e) s t h = absurd (number_not_zero (reason_of e) (sym (ap (λ c. c.answer) h)))
check_told (Err d) (Ok y) s t h = absurd (number_not_zero (reason_of d) (ap (λ c. c.answer) h))
check_told (Err d) (Err e) s t h = ap Err (same_misfit d e s t (same_reason (reason_of d) (reason_of e) (ap (λ c. c.answer) h)) (ap (λ c. c.slot) h))

pub layout_told : LayoutTold
layout_told = told_once answer_of (λ n. n) (λ done. refl) (λ reason. refl) (λ a b h. refl)

pub move_told : MoveTold
move_told = told_once told_move (λ m. m.answer) (λ count. refl) (λ reason. refl) (λ a b h. ap (λ m. m.count) h)
