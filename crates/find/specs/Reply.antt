-- What a find replies (document 01, Finding a host, last sentence, and Numbers answered): its rows, its answer, the slot and the host.
-- Assumes nothing.
use Rattle.std.specs.Prelude.{Bool, ◌&&◌, not, cond, List, [], ◌∷◌, ℕ, Result, Ok, Err, ltb, eqb, length}
use Rattle.std.specs.Borrow.{Bor}
use Rattle.base.specs.Tables.{at}
use Rattle.base.specs.Sizes.{slots_fit}
use Rattle.base.specs.Rows.{Row, lowest}
use Rattle.base.specs.Refusals.{number_of}
use Rattle.base.specs.declared.Refusal.{Refusal}
use Rattle.find.specs.declared.Owner.{Owner}
use Rattle.find.specs.declared.View.{View}
use Rattle.find.specs.Hash.{slot_of}

-- Sizes, sentence 1: a stated length is a slot count, and the length of the table that is lent
abbrev pub length_fits : ℕ → ℕ → Bool
length_fits stated own = slots_fit stated && eqb own stated

-- Sizes, sentence 6: keys are 0 to 4,096 bytes
abbrev pub too_long : List ℕ → Bool
too_long key = ltb 4096 (length key)

-- Numbers answered, rows 1, 9 and 10, of which a find can meet no other
abbrev pub rows : List ℕ → ℕ → List ℕ → List Row
rows table slots key =
    record { number = 1; holds = not (length_fits slots (length table)) }
    ∷ record { number = 9; holds = too_long key }
    ∷ record { number = 10; holds = eqb (at table (slot_of key slots)) 0 }
    ∷ []

-- the lowest row that holds
unfoldable pub answer_of : List ℕ → ℕ → List ℕ → ℕ
answer_of table slots key = lowest (rows table slots key)

-- what is given with the answer: nothing, 0, with a refusal
abbrev pub given : ℕ → ℕ → ℕ
given answer value = cond (eqb answer 0) value 0

-- a find's reply: the answer, and with 0 the slot and its owner
pub record Found : Type 0 where
  pub answer : ℕ
  pub slot : ℕ
  pub host : ℕ

-- the whole reply
unfoldable pub found : List ℕ → ℕ → List ℕ → Found
found table slots key =
    let answer = answer_of table slots key in
    record { answer = answer; slot = given answer (slot_of key slots); host = given answer (at table (slot_of key slots)) }

-- a refusal by number: slot 0 and host 0
abbrev pub refusal : ℕ → Found
refusal number = record { answer = number; slot = 0; host = 0 }

-- the reply that a result tells: the owner with 0, or the reason's number with nothing
abbrev pub told : Result Owner Refusal → Found
told (Ok owner) = record { answer = 0; slot = owner.slot; host = owner.host }
told (Err reason) = refusal (number_of reason)

-- sentence 4: the reading view holds the lent table and its length
abbrev pub view_of : Bor (List ℕ) → ℕ → View
view_of owners stated = record { owners = owners; length = stated }

-- a find through a view replies what a find in its table replies
abbrev pub found_in : View → List ℕ → Found
found_in view key = found view.owners.now view.length key
