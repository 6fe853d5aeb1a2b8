-- The roster of document 01, section Sizes: its hosts and rates as lists, its rules, and where a host number stands.
-- Assumes nothing.
use Rattle.std.specs.Prelude.{Bool, ◌&&◌, ◌||◌, List, ℕ, suc, ◌-◌, ◌<◌, leb, ltb, eqb, length, take}
use Rattle.base.specs.Tables.{count, all, any, at}
use Rattle.base.specs.Sizes.{host_fits, rate_fits}
use Rattle.roster.specs.declared.Roster.{Roster}

-- the host numbers on the roster, in its order
abbrev pub hosts_of : Roster → List ℕ
hosts_of r = take r.count r.hosts

-- their rates, in the same order
abbrev pub rates_of : Roster → List ℕ
rates_of r = take r.count r.rates

-- sentence 3: two lists of 256, and up to 256 hosts
unfoldable pub sized : Roster → Bool
sized r = eqb (length r.hosts) 256 && eqb (length r.rates) 256 && leb r.count 256

-- sentence 4: every host number, and every rate, is in its range
unfoldable pub in_range : Roster → Bool
in_range r = all r.count (λ i. host_fits (at r.hosts i)) && all r.count (λ i. rate_fits (at r.rates i))

-- sentence 5: the numbers stand in strictly rising order
unfoldable pub rising : Roster → Bool
rising r = all (r.count - 1) (λ i. ltb (at r.hosts i) (at r.hosts (suc i)))

-- sentence 5: places past the count hold zero in both lists
unfoldable pub zero_past : Roster → Bool
zero_past r = all 256 (λ i. ltb i r.count || (eqb (at r.hosts i) 0 && eqb (at r.rates i) 0))

-- the roster breaks no rule under Sizes
unfoldable pub valid : Roster → Bool
valid r = sized r && in_range r && rising r && zero_past r

-- the host number is in the list
unfoldable pub is_on : List ℕ → ℕ → Bool
is_on hosts host = any (length hosts) (λ i. eqb (at hosts i) host)

-- the place of a host number among rising ones: how many of them are lower
unfoldable pub place : List ℕ → ℕ → ℕ
place hosts host = count (length hosts) (λ i. ltb (at hosts i) host)

-- a list of numbers that rise strictly
abbrev pub Rises : List ℕ → Type 0
Rises hosts = (i j : ℕ) → i < j → j < length hosts → at hosts i < at hosts j
