-- What the quotas promise, as statements; `proofs/` proves each, and the function `promises` holds them all.
-- Assumes nothing.
use Rattle.std.specs.Prelude.{◌≡◌, ◌≢◌, true, List, ℕ, ◌+◌, ◌-◌, ◌*◌, ◌≤◌, ◌<◌, length, set}
use Rattle.base.specs.Tables.{at, total}
use Rattle.base.specs.Lists.{insert_at, remove_at, skip}
use Rattle.quota.specs.Quota.{granted, quota, quotas}
use Rattle.quota.specs.Greedy.{greedy, is_cut}

-- every rate is at least 1
abbrev pub Positive : List ℕ → Type 0
Positive rates = (i : ℕ) → i < length rates → 0 < at rates i

-- a division of S slots among the hosts
pub record Division (rates : List ℕ) (S : ℕ) (slots : List ℕ) : Type 0 where
  pub a_host_each : length slots ≡ length rates
  pub all-given : total slots ≡ S

-- ranking more claims than S of each host changes no quota
abbrev pub MoreClaims : Type 0
MoreClaims = (rates : List ℕ) → Positive rates → (S most : ℕ) → S ≤ most → (i : ℕ) → i < length rates → granted rates most S i ≡ quota rates S i

-- a. with at least one host the quotas sum to the slot count
abbrev pub SumIsSlots : Type 0
SumIsSlots = (rates : List ℕ) → Positive rates → 0 < length rates → (S : ℕ) → total (quotas rates S) ≡ S

-- b. no division has a smaller greatest ratio of slots to rate: each ratio under the quotas is met or passed by some ratio of the division
abbrev pub LeastGreatestRatio : Type 0
LeastGreatestRatio =
    (rates : List ℕ) → Positive rates → (S : ℕ) (slots : List ℕ) → Division rates S slots →
    (i : ℕ) → i < length rates → (j : ℕ) × (j < length rates) × (quota rates S i * at rates j ≤ at slots j * at rates i)

-- c. slots × sum of rates ≤ rate × (S + hosts − 1)
abbrev pub Bounded : Type 0
Bounded =
    (rates : List ℕ) → Positive rates → (S i : ℕ) → i < length rates →
    quota rates S i * total rates ≤ at rates i * (S + length rates - 1)

-- d. hosts keep their order, some may join, and no rate falls: then a host whose own rate is the same gains no slot
abbrev pub OneWay : Type 0
OneWay =
    (rates rates' : List ℕ) → Positive rates → Positive rates' →
    (place : ℕ → ℕ) →
    ((i j : ℕ) → i < j → j < length rates → place i < place j) →
    ((i : ℕ) → i < length rates → place i < length rates') →
    ((i : ℕ) → i < length rates → at rates i ≤ at rates' (place i)) →
    (S i : ℕ) → i < length rates → at rates' (place i) ≡ at rates i → quota rates' S (place i) ≤ quota rates S i

-- a rate is added at place p: no other host gains
abbrev pub AddTakes : Type 0
AddTakes =
    (rates : List ℕ) → Positive rates → (p r : ℕ) → p ≤ length rates → 0 < r →
    (S i : ℕ) → i < length rates → quota (insert_at p r rates) S (skip p i) ≤ quota rates S i

-- the rate at place p is taken away: no other host loses
abbrev pub DropGives : Type 0
DropGives =
    (rates : List ℕ) → Positive rates → (p : ℕ) → p < length rates →
    (S i : ℕ) → i < length (remove_at p rates) → quota rates S (skip p i) ≤ quota (remove_at p rates) S i

-- the rate at place p rises: no other host gains
abbrev pub RiseTakes : Type 0
RiseTakes =
    (rates : List ℕ) → Positive rates → (p r : ℕ) → p < length rates → at rates p ≤ r →
    (S i : ℕ) → i < length rates → i ≢ p → quota (set rates p r) S i ≤ quota rates S i

-- the rate at place p falls: no other host loses
abbrev pub FallGives : Type 0
FallGives =
    (rates : List ℕ) → Positive rates → (p r : ℕ) → p < length rates → 0 < r → r ≤ at rates p →
    (S i : ℕ) → i < length rates → i ≢ p → quota rates S i ≤ quota (set rates p r) S i

-- e. of two hosts of equal rate the lower place has as many slots as the higher, or one more
abbrev pub EqualRates : Type 0
EqualRates =
    (rates : List ℕ) → Positive rates → (S i j : ℕ) → i < j → j < length rates → at rates i ≡ at rates j →
    (quota rates S j ≤ quota rates S i) × (quota rates S i ≤ quota rates S j + 1)

-- f. the greedy step, S times, gives the quotas
abbrev pub GreedyGives : Type 0
GreedyGives = (rates : List ℕ) → Positive rates → (S : ℕ) → greedy rates S ≡ quotas rates S

-- g. a vector that passes the test of a cut is the quotas
abbrev pub CutIsQuotas : Type 0
CutIsQuotas = (rates held : List ℕ) (S : ℕ) → is_cut rates held S ≡ true → held ≡ quotas rates S
