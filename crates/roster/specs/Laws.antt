-- What the changes of a roster promise, as statements; the function `promises` holds them all.
-- Assumes nothing.
use Rattle.std.specs.Prelude.{◌≡◌, true, false, ℕ, ◌<◌, set}
use Rattle.base.specs.Tables.{at}
use Rattle.base.specs.Lists.{insert_at, remove_at}
use Rattle.roster.specs.declared.Roster.{Roster}
use Rattle.roster.specs.Roster.{hosts_of, rates_of, valid, is_on}
use Rattle.roster.specs.Changes.{none, may_add, may_drop, may_rerate, place_in, added, dropped, rerated}

-- the empty roster is valid
abbrev pub NoneValid : Type 0
NoneValid = valid none ≡ true

-- from a valid roster each change gives a valid one
abbrev pub AddedValid : Type 0
AddedValid = (r : Roster) (host rate : ℕ) → valid r ≡ true → valid (added r host rate) ≡ true

abbrev pub DroppedValid : Type 0
DroppedValid = (r : Roster) (host : ℕ) → valid r ≡ true → valid (dropped r host) ≡ true

abbrev pub ReratedValid : Type 0
ReratedValid = (r : Roster) (host rate : ℕ) → valid r ≡ true → valid (rerated r host rate) ≡ true

-- an allowed change is that change and no other
abbrev pub AddedOnly : Type 0
AddedOnly =
    (r : Roster) (host rate : ℕ) → may_add r host rate ≡ true →
    (hosts_of (added r host rate) ≡ insert_at (place_in r host) host (hosts_of r)) × (rates_of (added r host rate) ≡ insert_at (place_in r host) rate (rates_of r))

abbrev pub DroppedOnly : Type 0
DroppedOnly =
    (r : Roster) (host : ℕ) → may_drop r host ≡ true →
    (hosts_of (dropped r host) ≡ remove_at (place_in r host) (hosts_of r)) × (rates_of (dropped r host) ≡ remove_at (place_in r host) (rates_of r))

abbrev pub ReratedOnly : Type 0
ReratedOnly =
    (r : Roster) (host rate : ℕ) → may_rerate r host rate ≡ true →
    (hosts_of (rerated r host rate) ≡ hosts_of r) × (rates_of (rerated r host rate) ≡ set (rates_of r) (place_in r host) rate)

-- a host may be given the rate it has, and that changes nothing
abbrev pub SameRate : Type 0
SameRate =
    (r : Roster) → valid r ≡ true → (i : ℕ) → i < r.count →
    (may_rerate r (at (hosts_of r) i) (at (rates_of r) i) ≡ true) × (rerated r (at (hosts_of r) i) (at (rates_of r) i) ≡ r)

-- a host that is there is not added, and one that is not is neither dropped nor given a rate
abbrev pub NoSecondAdd : Type 0
NoSecondAdd = (r : Roster) (host rate : ℕ) → is_on (hosts_of r) host ≡ true → (may_add r host rate ≡ false) × (added r host rate ≡ r)

abbrev pub NoAbsentDrop : Type 0
NoAbsentDrop = (r : Roster) (host : ℕ) → is_on (hosts_of r) host ≡ false → (may_drop r host ≡ false) × (dropped r host ≡ r)

abbrev pub NoAbsentRate : Type 0
NoAbsentRate = (r : Roster) (host rate : ℕ) → is_on (hosts_of r) host ≡ false → (may_rerate r host rate ≡ false) × (rerated r host rate ≡ r)
