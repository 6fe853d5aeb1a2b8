-- The proved set of document 01, Farms to try: the cases marked P, each said of the definitions.
-- Assumes nothing.
use Rattle.std.specs.Prelude.{◌≡◌, Bool, true, false, ◌&&◌, not, cond, List, [], ◌∷◌, ℕ, eqb, ℤ, pos, negsuc, set}
use Rattle.quota.specs.Quota.{quotas}
use Rattle.roster.specs.declared.Roster.{Roster}
use Rattle.roster.specs.Changes.{roster_of}
use Rattle.table.specs.Table.{fresh}
use Rattle.events.specs.declared.Event.{Event}
use Rattle.events.specs.declared.Event.TheVariants.{Add, Drop, Rate}
use Rattle.events.specs.Events.{answer_of, roster_after, table_after}
use Rattle.events.specs.Forecasts.{forecast_answer, change_of}
use Rattle.find.specs.Hash.{slot_of}
use Rattle.load.specs.Reply.{carried}

-- two lists of numbers are the same
unfoldable pub same : List ℕ → List ℕ → Bool
same [] [] = true
same [] (y ∷ ys) = false
same (x ∷ xs) [] = false
same (x ∷ xs) (y ∷ ys) = eqb x y && same xs ys

-- two signed numbers are the same; -6 is written `negsuc 5`
unfoldable pub same_change : ℤ → ℤ → Bool
same_change (pos m) (pos n) = eqb m n
same_change (pos m) (negsuc n) = false
same_change (negsuc m) (pos n) = false
same_change (negsuc m) (negsuc n) = eqb m n

-- slots that go to a host
pub record Gets : Type 0 where
  pub slots : List ℕ
  pub host : ℕ

-- a table with each of these slots gone to the host
unfoldable pub given : List ℕ → ℕ → List ℕ → List ℕ
given [] host table = table
given (slot ∷ slots) host table = given slots host (set table slot host)

-- a table with all of these changes and no other
unfoldable pub after : List Gets → List ℕ → List ℕ
after [] table = table
after (g ∷ gets) table = after gets (given g.slots g.host table)

-- what is said in a case
pub data Case : Type 0 where
  -- hosts of these rates and a slot count have these quotas
  Quotas : List ℕ → ℕ → List ℕ → Case
  -- a roster, its table of a slot count and an event, which is accepted: the slots that change owner, and no others do
  Moves : Roster → ℕ → List ℕ → Event → List Gets → Case
  -- a roster, a slot count and an event: the forecast of a host
  Foretold : Roster → ℕ → Event → ℕ → ℤ → Case
  -- two tables are not the same
  Differ : List ℕ → List ℕ → Case
  -- a key in so many slots has this slot
  Slot : List ℕ → ℕ → ℕ → Case
  -- a roster, a slot count and a load: yes or no, and no refusal
  Load : Roster → ℕ → ℕ → Bool → Case

unfoldable pub holds : Case → Bool
holds (Quotas rates S those) = same (quotas rates S) those
holds (Moves r S slots e gets) = eqb (answer_of r S e slots) 0 && same (table_after r S e slots) (after gets slots)
holds (Foretold r S e asked change) = eqb (forecast_answer r S e asked) 0 && same_change (change_of r S e asked) change
holds (Differ one other) = not (same one other)
holds (Slot key S slot) = eqb (slot_of key S) slot
holds (Load r S load says) = eqb (carried r S load).answer 0 && cond says (carried r S load).carries (not (carried r S load).carries)

-- farm F: hosts 1 to 4 with rates 15, 23, 31, 31
abbrev pub rates : List ℕ
rates = 15 ∷ 23 ∷ 31 ∷ 31 ∷ []

abbrev pub farm : Roster
farm = roster_of (1 ∷ 2 ∷ 3 ∷ 4 ∷ []) rates

-- F at 20 slots, fresh; and what dropping host 1 leaves of both
abbrev pub table20 : List ℕ
table20 = fresh farm 20

abbrev pub without1 : Roster
without1 = roster_after farm 20 (Drop 1) table20

abbrev pub table20without1 : List ℕ
table20without1 = table_after farm 20 (Drop 1) table20

abbrev to : ℕ → List ℕ → Gets
to host slots = record { slots = slots; host = host }

-- the cases marked P, in the document's order
unfoldable pub cases : List Case
cases =
    Quotas rates 20 (3 ∷ 5 ∷ 6 ∷ 6 ∷ [])
    ∷ Quotas rates 10 (1 ∷ 2 ∷ 4 ∷ 3 ∷ [])
    ∷ Quotas rates 6 (1 ∷ 1 ∷ 2 ∷ 2 ∷ [])
    ∷ Quotas (1 ∷ 1 ∷ []) 3 (2 ∷ 1 ∷ [])
    ∷ Quotas (1 ∷ 2 ∷ []) 2 (1 ∷ 1 ∷ [])
    ∷ Quotas (1 ∷ 3 ∷ []) 1 (0 ∷ 1 ∷ [])
    ∷ Moves farm 20 table20 (Drop 4) (to 1 (14 ∷ []) ∷ to 2 (15 ∷ 16 ∷ []) ∷ to 3 (17 ∷ 18 ∷ 19 ∷ []) ∷ [])
    ∷ Foretold farm 20 (Drop 4) 1 (pos 1)
    ∷ Foretold farm 20 (Drop 4) 2 (pos 2)
    ∷ Foretold farm 20 (Drop 4) 3 (pos 3)
    ∷ Foretold farm 20 (Drop 4) 4 (negsuc 5)
    ∷ Moves farm 20 table20 (Drop 1) (to 3 (0 ∷ 1 ∷ []) ∷ to 4 (2 ∷ []) ∷ [])
    ∷ Moves without1 20 table20without1 (Add 1 15) (to 1 (12 ∷ 13 ∷ 19 ∷ []) ∷ [])
    ∷ Differ (table_after without1 20 (Add 1 15) table20without1) table20
    ∷ Moves farm 20 table20 (Rate 1 46) (to 1 (6 ∷ 7 ∷ 13 ∷ 19 ∷ []) ∷ [])
    ∷ Slot [] 20 1
    ∷ Load farm 5 800 false
    ∷ Load farm 6 800 true
    ∷ Load farm 10 800 false
    ∷ Load farm 20 800 true
    ∷ Load (roster_of (1 ∷ 2 ∷ []) (1 ∷ 1 ∷ [])) 1 500 true
    ∷ []

-- each of a list of cases holds
unfoldable pub all_hold : List Case → Bool
all_hold [] = true
all_hold (c ∷ list) = holds c && all_hold list

abbrev pub AllHold : Type 0
AllHold = all_hold cases ≡ true
