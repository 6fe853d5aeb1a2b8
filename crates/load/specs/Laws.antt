-- What the load question promises, as statements; the function `promises` holds them all.
-- Assumes nothing.
use Rattle.std.specs.Prelude.{◌≡◌, Bool, Result, true, false, ◌↔◌, ◌≢◌, List, ℕ, ◌≤◌, ◌<◌}
use Rattle.base.specs.Rows.{rises_from}
use Rattle.base.specs.declared.Refusal.{Refusal}
use Rattle.quota.specs.Quota.{quotas}
use Rattle.quota.specs.Laws.{Division}
use Rattle.roster.specs.declared.Roster.{Roster}
use Rattle.roster.specs.Roster.{rates_of}
use Rattle.load.specs.Load.{AllKeepUp, Carries, carries_all}
use Rattle.load.specs.Reply.{rows, carried, told}

-- the test says yes exactly when some division of the slots lets every host keep up
abbrev pub CarriesIsDivision : Type 0
CarriesIsDivision = (load slots : ℕ) (rates : List ℕ) → (carries_all load slots rates ≡ true) ↔ Carries load slots rates

-- the rows rise in number, so that the answer is the lowest row that holds (`LowestIsFirst` of base)
abbrev pub RowsRise : Type 0
RowsRise = (r : Roster) (slots load : ℕ) → rises_from 0 (rows r slots load) ≡ true

-- where the question is answered with 0, yes or no is that of the division; a refusal says no
abbrev pub AnsweredIsDivision : Type 0
AnsweredIsDivision = (r : Roster) (slots load : ℕ) → (carried r slots load).answer ≡ 0 → ((carried r slots load).carries ≡ true) ↔ Carries load slots (rates_of r)

abbrev pub RefusedIsNo : Type 0
RefusedIsNo = (r : Roster) (slots load : ℕ) → (carried r slots load).answer ≢ 0 → (carried r slots load).carries ≡ false

-- yes at a load is yes at every smaller one
abbrev pub LessIsCarried : Type 0
LessIsCarried =
    (r : Roster) (slots load less : ℕ) → 0 < less → less ≤ load →
    (carried r slots load).carries ≡ true → (carried r slots less).carries ≡ true

-- where it says yes, the quotas themselves keep up: M3 is as stable as any division
abbrev pub QuotasKeepUp : Type 0
QuotasKeepUp =
    (r : Roster) (slots load : ℕ) → (carried r slots load).carries ≡ true →
    Division (rates_of r) slots (quotas (rates_of r) slots) × AllKeepUp load slots (rates_of r) (quotas (rates_of r) slots)

-- two results that meet the contract are equal
abbrev pub LoadFixed : Type 0
LoadFixed = (r : Roster) (slots load : ℕ) (x y : Result Bool Refusal) → told x ≡ carried r slots load → told y ≡ carried r slots load → x ≡ y
