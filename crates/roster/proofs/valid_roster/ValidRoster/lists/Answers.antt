-- `ValidRoster::lists` meets its contract: the numbers of a valid roster rise, so the search finds what is there.
use Rattle.roster.proofs.Facts.{facts, hosts_rise}
use Rattle.roster.proofs.valid_roster.ValidRoster.lists.Goals as goal

pub returns : goal.returns
returns c = (rw c.hosts.ensures at c.is_on.ensures) (hosts_rise _ (facts _ c.args.self.now.valid))
