-- What an event answers and leaves, case by case.
-- Assumes nothing.
use mathlib.Core.Path.{◌≡◌, refl, sym, ap, ap₂, ◌∙◌}
use mathlib.Core.Bool.{Bool, true, false, ◌||◌, not}
use mathlib.Core.Logic.{⊎_elim}
use mathlib.Core.List.{List, ◌∷◌, ◌++◌}
use Prim.Native.Nat.{ℕ, ◌<◌}
use native.Mathlib.Nat.{pos_of_ne-zero, eq-zero-or-pos}
use native.Mathlib.Omega.{arith}
use lib.IntN.{ℤ, pos, ◌-ℤ◌}
use lib.ListN.{length}
use borrow.Author.Tests.{ne_eqb, not-false}
use Rattle.base.specs.Rows.{Row, lowest}
use Rattle.base.specs.Sizes.{host_fits, slots_fit}
use Rattle.base.proofs.Answers.{lowest_stop, lowest_go}
use Rattle.base.proofs.Tests.{by_test, or_left, or_right}
use Rattle.roster.specs.declared.Roster.{Roster}
use Rattle.roster.specs.Roster.{valid}
use Rattle.roster.proofs.Changes.{added-valid, dropped-valid, rerated-valid}
use Rattle.mover.specs.Mover.{changes}
use Rattle.table.specs.Table.{rearranged}
use Rattle.std.specs.Prelude.{Result, Ok, Err, IsOk}
use borrow.Author.Rules.{rules}
use Rattle.base.specs.declared.Refusal.{Refusal}
use Rattle.base.proofs.Refusals.{number_not_zero, same_reason, told_once}
use Rattle.table.specs.Answers.{size_rows, table_rows, check_answer, move_answer, move_reply}
use Rattle.table.specs.Told.{told_move}
use Rattle.table.specs.Laws.{Sized}
use Rattle.table.proofs.Moves.{freed_is_lacked}
use Rattle.table.proofs.Replies.{check_zero, sized_sizes}
use Rattle.events.specs.declared.Event.{Event}
use Rattle.events.specs.declared.Event.TheVariants.{Add, Drop, Rate}
use Rattle.events.specs.Events.{Reply}
use Rattle.events.specs.Forecasts.{Foreseen}
use Rattle.events.specs.Forecasts.{host_quota, forecast_answer, change_of, forecast_of}
use Rattle.events.specs.Events.{named, bad_host, event_rows, change_rows, changed, answer_of, roster_after, table_after, moved_by, reply_of}
use Rattle.events.specs.Laws.{ChecksSuffice}
use Rattle.events.specs.declared.Change.{Change}
use Rattle.events.specs.declared.Refused.{Refused}
use Rattle.events.specs.Told.{told, foretold}
use Rattle.events.proofs.Rows.{checks_rise}

-- a valid roster stays so, whatever the event
pub changed-valid : (r : Roster) (e : Event) → valid r ≡ true → valid (changed r e) ≡ true
changed-valid r (Add host rate) v = added-valid r host rate v
changed-valid r (Drop host) v = dropped-valid r host v
changed-valid r (Rate host rate) v = rerated-valid r host rate v

-- a table with no answer has no row that holds
pub row_passed : (n : ℕ) (b : Bool) (rows : List Row) → 0 < n → lowest (record { number = n; holds = b } ∷ rows) ≡ 0 → (b ≡ false) × (lowest rows ≡ 0)
unfolding lowest
row_passed n b rows some e = by_test b (λ t. absurd (let z : n ≡ 0 = rw t at e in omega arith)) (λ f. (f, rw f at e))

-- so the host number of an event that passes is in range
pub named-fits : (r : Roster) (e : Event) → lowest (event_rows r e) ≡ 0 → host_fits (named e) ≡ true
named-fits r e z = not-false (host_fits (named e)) (row_passed 4 (bad_host e) (change_rows r e) (omega arith) z).0

-- a number that cannot be other than 0 is 0
by_contra_zero : (n : ℕ) → ((n ≡ 0 → ⊥) → ⊥) → n ≡ 0
by_contra_zero n f = ⊎_elim (λ z. z) (λ p. absurd (f (λ z. omega arith))) (eq-zero-or-pos n)

-- the answer, group by group -------------------------------------------------------------

module _ (r : Roster) (S : ℕ) (e : Event) (slots : List ℕ) where
  abbrev checks : List Row
  checks = size_rows r S (length slots) ++ table_rows r S slots

  pub stopped_by_check : (a : ℕ) → a ≡ check_answer r S slots → (a ≡ 0 → ⊥) → answer_of r S e slots ≡ a
  unfolding answer_of check_answer
  stopped_by_check a h ne = lowest_stop checks (event_rows r e) a (pos_of_ne-zero ne) (sym h)

  -- past the check the event's own rows decide
  pub event_decides : check_answer r S slots ≡ 0 → answer_of r S e slots ≡ lowest (event_rows r e)
  unfolding answer_of check_answer
  event_decides z = lowest_go 0 checks (event_rows r e) (checks_rise r S slots) z

  -- the changed roster is as well sized
  pub changed-sized : check_answer r S slots ≡ 0 → Sized (changed r e) S slots
  changed-sized z =
      let s = (check_zero r S slots z).0 in
      record { valid_roster = changed-valid r e s.valid_roster; count_fits = s.count_fits; that_long = s.that_long }

  -- an answer of 0 has passed both groups
  pub accepted_check : answer_of r S e slots ≡ 0 → check_answer r S slots ≡ 0
  accepted_check z = by_contra_zero (check_answer r S slots) (λ ne. ne (sym (stopped_by_check (check_answer r S slots) refl ne) ∙ z))

  pub accepted_event : answer_of r S e slots ≡ 0 → lowest (event_rows r e) ≡ 0
  accepted_event z = sym (event_decides (accepted_check z)) ∙ z

  -- what is left -----------------------------------------------------------------------------

  abbrev says : ℕ → Roster → ℕ → Reply
  says a s n = record { answer = a; roster = s; moved = n }

  pub kept_roster : (answer_of r S e slots ≡ 0 → ⊥) → roster_after r S e slots ≡ r
  unfolding roster_after
  kept_roster ne = rw (ne_eqb (answer_of r S e slots) 0 ne)

  pub kept_table : (answer_of r S e slots ≡ 0 → ⊥) → table_after r S e slots ≡ slots
  unfolding table_after
  kept_table ne = rw (ne_eqb (answer_of r S e slots) 0 ne)

  pub none-moved : (answer_of r S e slots ≡ 0 → ⊥) → moved_by r S e slots ≡ 0
  unfolding moved_by
  none-moved ne = rw (ne_eqb (answer_of r S e slots) 0 ne)

  pub new_roster : answer_of r S e slots ≡ 0 → roster_after r S e slots ≡ changed r e
  unfolding roster_after
  new_roster z = rw z

  pub new_table : answer_of r S e slots ≡ 0 → table_after r S e slots ≡ rearranged (changed r e) S slots
  unfolding table_after
  new_table z = rw z

  pub new_moved : answer_of r S e slots ≡ 0 → moved_by r S e slots ≡ changes slots (rearranged (changed r e) S slots)
  unfolding moved_by
  new_moved z = rw z

  reply_is : (a : ℕ) (s : Roster) (n : ℕ) → answer_of r S e slots ≡ a → roster_after r S e slots ≡ s → moved_by r S e slots ≡ n → reply_of r S e slots ≡ says a s n
  reply_is a s n p q m = λ i. record { answer = p i; roster = q i; moved = m i }

  pub refused_reply : (a : ℕ) → answer_of r S e slots ≡ a → (a ≡ 0 → ⊥) → (reply_of r S e slots ≡ says a r 0) × (table_after r S e slots ≡ slots)
  refused_reply a h ne =
      let no : answer_of r S e slots ≡ 0 → ⊥ = λ z. ne (sym h ∙ z) in
      (reply_is a r 0 h (kept_roster no) (none-moved no), kept_table no)

  pub accepted_reply : answer_of r S e slots ≡ 0 → (s : Roster) (n : ℕ) → s ≡ changed r e → n ≡ changes slots (rearranged (changed r e) S slots) → reply_of r S e slots ≡ says 0 s n
  accepted_reply z s n p q = reply_is 0 s n z (new_roster z ∙ sym p) (new_moved z ∙ sym q)

-- so the move of a roster that is as well sized is not refused
pub move_is_ok : (r : Roster) (S : ℕ) (slots : List ℕ) → Sized r S slots → (s : Roster) → s ≡ r → (x : Result ℕ Refusal) → told_move x ≡ move_reply s S slots → IsOk x
unfolding move_answer
move_is_ok r S slots z s e (Ok count) told = search rules
move_is_ok r S slots z s e (Err reason) told =
    absurd (number_not_zero reason (ap (λ m. m.answer) told ∙ ap (λ k. lowest (size_rows k S (length slots))) e ∙ sized_sizes r S slots z))

-- what a call gives is fixed by what it tells
pub told_fixes : (x y : Result Change Refused) → told x ≡ told y → x ≡ y
told_fixes (Ok x) (Ok y) h = ap (λ reply. Ok (record { roster = reply.roster; moved = reply.moved })) h
told_fixes (Ok x) (Err e) h = absurd (number_not_zero e.reason (sym (ap (λ reply. reply.answer) h)))
told_fixes (Err d) (Ok y) h = absurd (number_not_zero d.reason (ap (λ reply. reply.answer) h))
told_fixes (Err d) (Err e) h = ap₂ (λ reason roster. Err (record { reason = reason; roster = roster })) (same_reason _ _ (ap (λ reply. reply.answer) h)) (ap (λ reply. reply.roster) h)

pub foretold_fixes : (x y : Result ℤ Refusal) → foretold x ≡ foretold y → x ≡ y
foretold_fixes = told_once foretold (λ seen. seen.answer) (λ change. refl) (λ reason. refl) (λ a b h. ap (λ seen. seen.change) h)

-- what is freed and what is lacked after an event's checks
pub checks_suffice : ChecksSuffice
checks_suffice S r slots e z = freed_is_lacked (changed r e) S slots (changed-sized r S e slots (accepted_check r S e slots z))

-- forecasts ------------------------------------------------------------------------------------

-- what a forecast that answers 0 has passed
pub record Passed (r : Roster) (S : ℕ) (e : Event) (asked : ℕ) : Type 0 where
  pub count_fits : slots_fit S ≡ true
  pub valid_roster : valid r ≡ true
  pub named_well : host_fits (named e) ≡ true
  pub asked_well : host_fits asked ≡ true

module _ (r : Roster) (S : ℕ) (e : Event) (asked : ℕ) where
  pub forecast-passed : forecast_answer r S e asked ≡ 0 → Passed r S e asked
  unfolding forecast_answer
  forecast-passed z =
      let one = row_passed 1 (not (slots_fit S)) _ (omega arith) z in
      let two = row_passed 2 (not (valid r)) _ (omega arith) one.1 in
      let four = row_passed 4 (bad_host e || not (host_fits asked)) _ (omega arith) two.1 in
      record {
        count_fits = not-false _ one.0;
        valid_roster = not-false _ two.0;
        named_well = not-false _ (or_left (bad_host e) (not (host_fits asked)) four.0);
        asked_well = not-false _ (or_right (bad_host e) (not (host_fits asked)) four.0);
      }

  abbrev foretells : ℕ → ℤ → Foreseen
  foretells a d = record { answer = a; change = d }

  pub forecast_refused : (a : ℕ) → a ≡ forecast_answer r S e asked → (a ≡ 0 → ⊥) → forecast_of r S e asked ≡ foretells a (pos 0)
  unfolding change_of
  forecast_refused a h ne = λ i. record { answer = sym h i; change = change i }
    where
      change : change_of r S e asked ≡ pos 0
      change = rw (← h, ne_eqb a 0 ne)

  pub forecast_made : forecast_answer r S e asked ≡ 0 → change_of r S e asked ≡ pos (host_quota (changed r e) S asked) -ℤ pos (host_quota r S asked)
  unfolding change_of
  forecast_made z = rw z

  pub forecast-done : forecast_answer r S e asked ≡ 0 → (d : ℤ) → d ≡ pos (host_quota (changed r e) S asked) -ℤ pos (host_quota r S asked) → forecast_of r S e asked ≡ foretells 0 d
  forecast-done z d h = λ i. record { answer = z i; change = (forecast_made z ∙ sym h) i }
