-- What events promise beside demand 3, of every input: document 02, request 11.
use Rattle.std.specs.Prelude.{◌≡◌, false, ◌≢◌, List, ℕ}
use Rattle.base.specs.Rows.{listed}
use Rattle.roster.specs.declared.Roster.{Roster}
use Rattle.table.specs.Table.{freed_slots, lacked_slots}
use Rattle.events.specs.declared.Event.{Event}
use Rattle.events.specs.Events.{changed, apply_rows, answer_of}

-- after an event's checks the freed slots are as many as the hosts of the new roster lack
abbrev pub ChecksSuffice : Type 0
ChecksSuffice =
    (S : ℕ) (r : Roster) (slots : List ℕ) (e : Event) → answer_of r S e slots ≡ 0 →
    freed_slots (changed r e) S slots ≡ lacked_slots (changed r e) S slots

-- no row of an event has the number 14, and no event answers it
abbrev pub NeverFourteen : Type 0
NeverFourteen =
    (S : ℕ) (r : Roster) (slots : List ℕ) (e : Event) → (listed (apply_rows r S e slots) 14 ≡ false) × (answer_of r S e slots ≢ 14)
