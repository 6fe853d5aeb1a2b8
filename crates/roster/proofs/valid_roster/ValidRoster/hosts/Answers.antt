-- `ValidRoster::hosts` is safe: a valid roster has at most 256 hosts.
use Rattle.roster.proofs.Facts.{facts}
use Rattle.roster.proofs.valid_roster.ValidRoster.hosts.Goals as goal

pub shared_ref_as_front-result : goal.shared_ref_as_front-result
shared_ref_as_front-result c = (facts _ c.args.self.now.valid).few
