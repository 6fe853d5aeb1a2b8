-- What events and finds promise together.
-- Assumes nothing.
use Rattle.std.specs.Prelude.{◌≡◌, true, List, ℕ, ◌≤◌, ◌<◌, length}
use Rattle.roster.specs.Roster.{hosts_of, is_on}
use Rattle.events.specs.Demand3.{Always}
use Rattle.find.specs.Reply.{found}

-- in every reached state with a host present, every key of at most 4,096 bytes finds a host that is on the roster
abbrev pub EveryKeyServed : Type 0
EveryKeyServed =
    Always (λ S r slots. 0 < r.count → (key : List ℕ) → length key ≤ 4096 →
    ((found slots S key).answer ≡ 0) × (is_on (hosts_of r) (found slots S key).host ≡ true))
