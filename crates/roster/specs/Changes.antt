-- The changes of a roster that events make (document 01, section Layout and events): a host added, dropped, or given a new rate.
-- Assumes nothing.
use Rattle.std.specs.Prelude.{Bool, ◌&&◌, not, cond, List, [], ℕ, ltb, length, set}
use Rattle.base.specs.Lists.{insert_at, remove_at, padded}
use Rattle.base.specs.Sizes.{host_fits, rate_fits}
use Rattle.roster.specs.declared.Roster.{Roster}
use Rattle.roster.specs.Roster.{hosts_of, rates_of, valid, is_on, place}

-- the roster of these hosts and rates, with zeros behind them
abbrev pub roster_of : List ℕ → List ℕ → Roster
roster_of hosts rates = record { hosts = padded 256 hosts; rates = padded 256 rates; count = length hosts }

-- no hosts
abbrev pub none : Roster
none = roster_of [] []

-- a host may be added: number and rate in range, not on the roster yet, and a place left
unfoldable pub may_add : Roster → ℕ → ℕ → Bool
may_add r host rate = valid r && host_fits host && rate_fits rate && not (is_on (hosts_of r) host) && ltb r.count 256

-- a host may be dropped: it is on the roster
unfoldable pub may_drop : Roster → ℕ → Bool
may_drop r host = valid r && is_on (hosts_of r) host

-- a host may have a new rate: the rate is in range, and the host on the roster
unfoldable pub may_rerate : Roster → ℕ → ℕ → Bool
may_rerate r host rate = valid r && rate_fits rate && is_on (hosts_of r) host

-- where a host stands or would stand
abbrev pub place_in : Roster → ℕ → ℕ
place_in r host = place (hosts_of r) host

-- the roster with the host at its place; unchanged where it may not be added
unfoldable pub added : Roster → ℕ → ℕ → Roster
added r host rate =
    cond (may_add r host rate)
    (roster_of (insert_at (place_in r host) host (hosts_of r)) (insert_at (place_in r host) rate (rates_of r)))
    r

-- the roster without the host; unchanged where it may not be dropped
unfoldable pub dropped : Roster → ℕ → Roster
dropped r host =
    cond (may_drop r host)
    (roster_of (remove_at (place_in r host) (hosts_of r)) (remove_at (place_in r host) (rates_of r)))
    r

-- the roster with the host's new rate; unchanged where it may not have it
unfoldable pub rerated : Roster → ℕ → ℕ → Roster
rerated r host rate =
    cond (may_rerate r host rate)
    (roster_of (hosts_of r) (set (rates_of r) (place_in r host) rate))
    r
