-- `ValidRoster::place` meets its contract: the numbers of a valid roster rise, so the search finds the place.
use Rattle.roster.proofs.Facts.{facts, hosts_rise}
use Rattle.roster.proofs.valid_roster.ValidRoster.place.Goals as goal

pub returns : goal.returns
returns c = (rw c.hosts.ensures at c.place.ensures.sorted) (hosts_rise _ (facts _ c.args.self.now.valid))
