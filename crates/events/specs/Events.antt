-- Events (document 01, Layout and events, sentences 7 to 12): their rows, and the roster, the table and the count that an event leaves.
-- Assumes nothing.
use Rattle.std.specs.Prelude.{Bool, false, not, cond, List, [], ◌∷◌, ◌++◌, ℕ, eqb, length}
use Rattle.base.specs.Rows.{Row, lowest}
use Rattle.base.specs.Sizes.{host_fits, rate_fits}
use Rattle.roster.specs.declared.Roster.{Roster}
use Rattle.roster.specs.Roster.{hosts_of, is_on}
use Rattle.roster.specs.Changes.{added, dropped, rerated}
use Rattle.mover.specs.Mover.{changes}
use Rattle.table.specs.Table.{rearranged}
use Rattle.table.specs.Answers.{size_rows, table_rows}
use Rattle.events.specs.declared.Event.{Event}
use Rattle.events.specs.declared.Event.TheVariants.{Add, Drop, Rate}

-- what an event answers: the number, the roster after it, and how many slots changed owner
pub record Reply : Type 0 where
  pub answer : ℕ
  pub roster : Roster
  pub moved : ℕ

-- the host that an event names
abbrev pub named : Event → ℕ
named (Add host rate) = host
named (Drop host) = host
named (Rate host rate) = host

-- 4: its number is outside the range
abbrev pub bad_host : Event → Bool
bad_host e = not (host_fits (named e))

-- 5: the rate is outside the range (add, new rate)
abbrev pub bad_rate : Event → Bool
bad_rate (Add host rate) = not (rate_fits rate)
bad_rate (Drop host) = false
bad_rate (Rate host rate) = not (rate_fits rate)

-- 6: the host is not on the roster (drop, new rate)
abbrev pub absent : Roster → Event → Bool
absent r (Add host rate) = false
absent r (Drop host) = not (is_on (hosts_of r) host)
absent r (Rate host rate) = not (is_on (hosts_of r) host)

-- 7: the host is on it already (add)
abbrev pub present : Roster → Event → Bool
present r (Add host rate) = is_on (hosts_of r) host
present r (Drop host) = false
present r (Rate host rate) = false

-- 8: the roster has 256 hosts already (add)
abbrev pub full : Roster → Event → Bool
full r (Add host rate) = eqb r.count 256
full r (Drop host) = false
full r (Rate host rate) = false

-- rows 5 to 8, and with row 4 before them those of an event
abbrev pub change_rows : Roster → Event → List Row
change_rows r e =
    record { number = 5; holds = bad_rate e }
    ∷ record { number = 6; holds = absent r e }
    ∷ record { number = 7; holds = present r e }
    ∷ record { number = 8; holds = full r e }
    ∷ []

abbrev pub event_rows : Roster → Event → List Row
event_rows r e = record { number = 4; holds = bad_host e } ∷ change_rows r e

-- sentence 8: the roster with that change and no other
abbrev pub changed : Roster → Event → Roster
changed r (Add host rate) = added r host rate
changed r (Drop host) = dropped r host
changed r (Rate host rate) = rerated r host rate

-- the rows of an event: 1, 2, 3, then 4 to 8
abbrev pub apply_rows : Roster → ℕ → Event → List ℕ → List Row
apply_rows r S e slots = (size_rows r S (length slots) ++ table_rows r S slots) ++ event_rows r e

-- the answer: the lowest row that holds
unfoldable pub answer_of : Roster → ℕ → Event → List ℕ → ℕ
answer_of r S e slots = lowest (apply_rows r S e slots)

-- what an accepted event leaves; a refused one leaves what it was given, and reports nothing moved
unfoldable pub roster_after : Roster → ℕ → Event → List ℕ → Roster
roster_after r S e slots = cond (eqb (answer_of r S e slots) 0) (changed r e) r

unfoldable pub table_after : Roster → ℕ → Event → List ℕ → List ℕ
table_after r S e slots = cond (eqb (answer_of r S e slots) 0) (rearranged (changed r e) S slots) slots

unfoldable pub moved_by : Roster → ℕ → Event → List ℕ → ℕ
moved_by r S e slots = cond (eqb (answer_of r S e slots) 0) (changes slots (rearranged (changed r e) S slots)) 0

abbrev pub reply_of : Roster → ℕ → Event → List ℕ → Reply
reply_of r S e slots = record { answer = answer_of r S e slots; roster = roster_after r S e slots; moved = moved_by r S e slots }
