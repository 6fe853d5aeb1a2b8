-- `roster::place_to_add` meets its contract: its tests are those of the definition, and the search among the rising numbers tells the rest.
use borrow.Author.Tests.{lt-ltb, le-leb}
use mathlib.Core.Path.{◌≡◌, ap}
use mathlib.Core.Bool.{true, not, and-true, and-false}
use native.Mathlib.Nat.{pos_of_ne-zero}
use native.Mathlib.Omega.{arith}
use Prim.Native.Nat.{◌<◌}
use Rattle.base.specs.Sizes.{host_fits}
use Rattle.base.proofs.Tests.{and_both}
use Rattle.roster.specs.Roster.{hosts_of, is_on}
use Rattle.roster.specs.Changes.{may_add}
use Rattle.roster.proofs.Facts.{facts, hosts_rise}
use Rattle.roster.proofs.Search.{search_misses}
use Rattle.roster.proofs.place_to_add.Goals as goal
use Rattle.roster.proofs.place_to_add.Goals.{In-Ok, then-host-eq0-via-then-host-eq0, then-host-eq0-via-else-host-eq0+then-not-rate_fits, then-host-eq0-via-else-host-eq0+else-not-rate_fits+then-r-eq256}

pub returns-in_default : goal.returns-in_default
unfolding may_add
returns-in_default c = rw c.in_default.ensures.1

-- a number of 16 bits that is not 0 is in range
in_range : (c : In-Ok) → (c.args.host ≡ 0 → ⊥) → host_fits c.args.host ≡ true
in_range c ne =
    let host = c.args.host in
    and_both _ _ (le-leb 1 host (pos_of_ne-zero ne)) (le-leb host 65535 (omega arith))

pub returns-then-host-eq0 : goal.returns-then-host-eq0
unfolding may_add
returns-then-host-eq0 c =
    let here = (goal.at.returns-then-host-eq0 c).In-Ok in
    elim c.then-host-eq0.branch [
      | then-host-eq0-via-then-host-eq0 w ↦ rw (← c.in-Ok.ensures, c.in-Ok.v.valid, w.if-host-eq0.true)
      | then-host-eq0-via-else-host-eq0+then-not-rate_fits w ↦ rw (← c.in-Ok.ensures, c.in-Ok.v.valid, in_range here w.if-host-eq0.false, ← w.rate_fits.ensures, w.if-not-rate_fits.true)
      | then-host-eq0-via-else-host-eq0+else-not-rate_fits+then-r-eq256 w ↦ rw (← c.in-Ok.ensures, c.in-Ok.v.valid, in_range here w.if-host-eq0.false, ← w.rate_fits.ensures, w.if-not-rate_fits.false, c.in-Ok.ensures, w.if-r-eq256.true) (and-false _)
    ]

pub returns : goal.returns
unfolding may_add
returns c =
    let v = c.in-Ok.v in
    let f = facts v.roster v.valid in
    let room : v.roster.count < 256 = omega (arith, f.few, ap (λ r. r.count) c.in-Ok.ensures, c.if-r-eq256.false) in
    let found = rw c.hosts.ensures at c.binary_search.ensures.position in
    rw (c.err.ensures.value, ← c.in-Ok.ensures, v.valid, in_range (goal.at.returns c).In-Ok c.if-host-eq0.false, ← c.rate_fits.ensures, c.if-not-rate_fits.false, lt-ltb _ _ room, and-true (not (is_on (hosts_of v.roster) c.args.host)))
    (search_misses _ (hosts_rise _ f) c.args.host _ found)
