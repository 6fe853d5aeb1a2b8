-- What the replies of the calls on a table tell, in document 01's numbers.
-- Assumes nothing.
use Rattle.std.specs.Prelude.{◌≢◌, ℕ, Result, Ok, Err}
use Rattle.base.specs.declared.Refusal.{Refusal}
use Rattle.base.specs.declared.Refusal.TheVariants as refusal
use Rattle.base.specs.Refusals.{number_of}
use Rattle.table.specs.declared.misfit.Misfit.{Misfit}
use Rattle.table.specs.declared.misfit.Misfit.TheVariants.{Refused, WrongTable}
use Rattle.table.specs.Answers.{Checked, Moved}

-- why a table does not belong, and the slot that goes with it
abbrev pub reason_of : Misfit → Refusal
reason_of (Refused reason) = reason
reason_of (WrongTable slot) = refusal.WrongTable

abbrev pub slot_of : Misfit → ℕ
slot_of (Refused reason) = 0
slot_of (WrongTable slot) = slot

-- the check
abbrev pub told_check : Result (Unit {0}) Misfit → Checked
told_check (Ok reply) = record { answer = 0; slot = 0 }
told_check (Err misfit) = record { answer = number_of (reason_of misfit); slot = slot_of misfit }

-- a wrong table comes with its slot, never as a bare reason
abbrev pub WithSlot : Result (Unit {0}) Misfit → Type 0
WithSlot result = result ≢ Err (Refused refusal.WrongTable)

-- the move: how many slots changed owner, none where it is refused
abbrev pub told_move : Result ℕ Refusal → Moved
told_move (Ok count) = record { answer = 0; count = count }
told_move (Err reason) = record { answer = number_of reason; count = 0 }
