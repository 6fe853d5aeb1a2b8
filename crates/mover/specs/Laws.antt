-- What a move promises, as statements; the function `promises` holds them all.
-- Assumes nothing.
use Rattle.std.specs.Prelude.{◌≡◌, true, not, List, ℕ, ◌≤◌, ◌<◌, eqb, length}
use Rattle.base.specs.Tables.{at, total}
use Rattle.roster.specs.Roster.{is_on, Rises}
use Rattle.mover.specs.Mover.{held, freed, freed_below, quota_of, lacks, new_owner, moved, changes}

-- hosts in rising number, a quota for each, and as many slots as the quotas sum to
pub record Fitting (hosts quotas slots : List ℕ) : Type 0 where
  pub rise : Rises hosts
  pub a_quota_each : length quotas ≡ length hosts
  pub as_many : total quotas ≡ length slots

-- every owner is among the hosts, and each host holds exactly its quota
pub record Exact (hosts quotas slots : List ℕ) : Type 0 where
  pub known : (i : ℕ) → i < length slots → is_on hosts (at slots i) ≡ true
  pub full : (j : ℕ) → j < length hosts → held slots (at hosts j) ≡ at quotas j

-- as many slots are given up as the hosts lack
abbrev pub FreedIsLacking : Type 0
FreedIsLacking =
    (hosts quotas slots : List ℕ) → Fitting hosts quotas slots →
    freed_below hosts quotas slots (length slots) ≡ total (lacks hosts quotas slots)

-- the result is as long, and gives each host exactly its quota
abbrev pub MovedIsExact : Type 0
MovedIsExact =
    (hosts quotas slots : List ℕ) → Fitting hosts quotas slots →
    (length (moved hosts quotas slots) ≡ length slots) × Exact hosts quotas (moved hosts quotas slots)

-- the slots that change owner are the freed ones, and the changes are as many
abbrev pub ChangedIsFreed : Type 0
ChangedIsFreed =
    (hosts quotas slots : List ℕ) → Fitting hosts quotas slots →
    ((i : ℕ) → i < length slots → not (eqb (at slots i) (new_owner hosts quotas slots i)) ≡ freed hosts quotas slots i)
    × (changes slots (moved hosts quotas slots) ≡ freed_below hosts quotas slots (length slots))

-- no table that gives each host its quota differs in fewer slots
abbrev pub FewestChanges : Type 0
FewestChanges =
    (hosts quotas slots other : List ℕ) → Fitting hosts quotas slots → length other ≡ length slots → Exact hosts quotas other →
    changes slots (moved hosts quotas slots) ≤ changes slots other

-- a slot of an owner that is not above its quota stays
abbrev pub OthersStay : Type 0
OthersStay =
    (hosts quotas slots : List ℕ) (i : ℕ) → i < length slots → held slots (at slots i) ≤ quota_of hosts quotas (at slots i) →
    new_owner hosts quotas slots i ≡ at slots i

-- a slot that changes owner leaves one above its quota and joins one below it
abbrev pub FromAboveToBelow : Type 0
FromAboveToBelow =
    (hosts quotas slots : List ℕ) → Fitting hosts quotas slots → (i : ℕ) → i < length slots → freed hosts quotas slots i ≡ true →
    (quota_of hosts quotas (at slots i) < held slots (at slots i))
    × (held slots (new_owner hosts quotas slots i) < quota_of hosts quotas (new_owner hosts quotas slots i))
    × (is_on hosts (new_owner hosts quotas slots i) ≡ true)
