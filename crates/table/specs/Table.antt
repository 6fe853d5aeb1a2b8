-- The table of slots (document 01, Layout and events): when it belongs to a roster, who is the first stranger in it, the fresh layout, and the move.
-- Assumes nothing.
use Rattle.std.specs.Prelude.{Bool, ◌&&◌, not, cond, List, [], ◌∷◌, ℕ, eqb, length}
use Rattle.base.specs.Tables.{all, first, at, total}
use Rattle.quota.specs.Quota.{quota, quotas}
use Rattle.roster.specs.declared.Roster.{Roster}
use Rattle.roster.specs.Roster.{hosts_of, rates_of, is_on}
use Rattle.mover.specs.Mover.{held, freed_below, lacks, runs, moved}

-- the roster has no hosts
abbrev pub no_hosts : Roster → Bool
no_hosts r = eqb r.count 0

-- sentence 3: a table belongs if there are no hosts and every slot is 0, or if every owner is on the roster and each host holds exactly its quota
unfoldable pub belongs : Roster → ℕ → List ℕ → Bool
belongs r S slots =
    cond (no_hosts r)
    (all (length slots) (λ i. eqb (at slots i) 0))
    (all (length slots) (λ i. is_on (hosts_of r) (at slots i))
    && all r.count (λ j. eqb (held slots (at (hosts_of r) j)) (quota (rates_of r) S j)))

-- sentence 4: an owner is known if it is on the roster; with no hosts, if it is 0
unfoldable pub known : Roster → ℕ → Bool
known r owner = cond (no_hosts r) (eqb owner 0) (is_on (hosts_of r) owner)

-- sentence 4: the first slot whose owner is not known, the slot count where there is none
unfoldable pub stranger : Roster → List ℕ → ℕ
stranger r slots = first (length slots) (λ i. not (known r (at slots i)))

-- who holds slots: the hosts; with no hosts nobody, owner 0
unfoldable pub owners : Roster → List ℕ
owners r = cond (no_hosts r) (0 ∷ []) (hosts_of r)

-- how many each: the hosts' quotas; with no hosts nobody has them all
unfoldable pub shares : Roster → ℕ → List ℕ
shares r S = cond (no_hosts r) (S ∷ []) (quotas (rates_of r) S)

-- sentences 1 and 2: each owner its share of consecutive slots, in rising number from slot 0; with no hosts every slot is 0
abbrev pub fresh : Roster → ℕ → List ℕ
fresh r S = runs (owners r) (shares r S)

-- sentences 9 to 12: the table moved to the shares of a roster
abbrev pub rearranged : Roster → ℕ → List ℕ → List ℕ
rearranged r S slots = moved (owners r) (shares r S) slots

-- how many slots are freed, and how many the owners lack
abbrev pub freed_slots : Roster → ℕ → List ℕ → ℕ
freed_slots r S slots = freed_below (owners r) (shares r S) slots (length slots)

abbrev pub lacked_slots : Roster → ℕ → List ℕ → ℕ
lacked_slots r S slots = total (lacks (owners r) (shares r S) slots)
