-- What the load question replies (document 01, Numbers answered): its rows, its answer, and yes or no.
-- Assumes nothing.
use Rattle.std.specs.Prelude.{Bool, false, ◌&&◌, not, List, [], ◌∷◌, ℕ, Result, Ok, Err, eqb}
use Rattle.base.specs.Sizes.{between, slots_fit}
use Rattle.base.specs.Rows.{Row, lowest}
use Rattle.base.specs.Refusals.{number_of}
use Rattle.base.specs.declared.Refusal.{Refusal}
use Rattle.roster.specs.declared.Roster.{Roster}
use Rattle.roster.specs.Roster.{rates_of, valid}
use Rattle.load.specs.Load.{carries_all}

-- Sizes, last sentence: the load asked about is 1 to 1,000 thousandths
abbrev pub load_fits : ℕ → Bool
load_fits load = between 1 1000 load

-- Numbers answered, rows 1, 2, 10 and 11, of which the load question can meet no other
abbrev pub rows : Roster → ℕ → ℕ → List Row
rows r slots load =
    record { number = 1; holds = not (slots_fit slots) }
    ∷ record { number = 2; holds = not (valid r) }
    ∷ record { number = 10; holds = eqb r.count 0 }
    ∷ record { number = 11; holds = not (load_fits load) }
    ∷ []

-- the lowest row that holds
unfoldable pub answer_of : Roster → ℕ → ℕ → ℕ
answer_of r slots load = lowest (rows r slots load)

-- the reply: the answer, and with 0 whether the load is carried
pub record Carried : Type 0 where
  pub answer : ℕ
  pub carries : Bool

-- the whole reply: a refusal says no
unfoldable pub carried : Roster → ℕ → ℕ → Carried
carried r slots load =
    let answer = answer_of r slots load in
    record { answer = answer; carries = eqb answer 0 && carries_all load slots (rates_of r) }

-- a refusal by number
abbrev pub refusal : ℕ → Carried
refusal number = record { answer = number; carries = false }

-- the reply that a result tells: yes or no with 0, or the reason's number with no
abbrev pub told : Result Bool Refusal → Carried
told (Ok carries) = record { answer = 0; carries = carries }
told (Err reason) = refusal (number_of reason)
