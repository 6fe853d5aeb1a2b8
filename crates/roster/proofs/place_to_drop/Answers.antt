-- `roster::place_to_drop` meets its contract: the search among the rising numbers tells whether the host is there, and where.
use Rattle.roster.specs.Changes.{may_drop}
use Rattle.roster.proofs.Facts.{facts, hosts_rise}
use Rattle.roster.proofs.Search.{search_finds}
use Rattle.roster.proofs.place_to_drop.Goals as goal

pub returns-in_default : goal.returns-in_default
unfolding may_drop
returns-in_default c = rw c.in_default.ensures.1

pub returns : goal.returns
unfolding may_drop
returns c =
    let v = c.in-Ok.v in
    let found = rw c.hosts.ensures at c.binary_search.ensures.position in
    rw (c.ok.ensures.value, ← c.in-Ok.ensures, v.valid) (search_finds _ (hosts_rise _ (facts v.roster v.valid)) c.args.host _ found)
