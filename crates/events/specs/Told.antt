-- The paper's number and values for what the calls give: an event's change or its refusal, and a forecast's number or its refusal.
-- Assumes nothing.
use Rattle.std.specs.Prelude.{Result, Ok, Err, ℤ, pos}
use Rattle.base.specs.declared.Refusal.{Refusal}
use Rattle.base.specs.Refusals.{number_of}
use Rattle.events.specs.declared.Change.{Change}
use Rattle.events.specs.declared.Refused.{Refused}
use Rattle.events.specs.Events.{Reply}
use Rattle.events.specs.Forecasts.{Foreseen}

-- 0 with the new roster and the count; a refusal is its number, the roster handed in, and nothing moved
abbrev pub told : Result Change Refused → Reply
told (Ok change) = record { answer = 0; roster = change.roster; moved = change.moved }
told (Err refused) = record { answer = number_of refused.reason; roster = refused.roster; moved = 0 }

-- 0 with the change of the quota; a refusal is its number, and no change
abbrev pub foretold : Result ℤ Refusal → Foreseen
foretold (Ok change) = record { answer = 0; change = change }
foretold (Err reason) = record { answer = number_of reason; change = pos 0 }
