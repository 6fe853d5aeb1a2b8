-- `Owners::of` meets its contract: the owners stand in front of the roster's array of numbers, and rise.
use native.Mathlib.Omega.{arith}
use mathlib.Core.Path.{◌≡◌, ◌∙◌}
use lib.ListN.{length}
use Rattle.table.specs.Table.{owners}
use Rattle.table.proofs.Owners.{owners-few, owners-count, front_owners, front_rise}
use Rattle.table.proofs.owning.Owners.of.Goals as goal
use Rattle.table.proofs.owning.Owners.of.Goals.{After-max}

many : (c : After-max) → c.max.result ≡ length (owners c.args.v.now.roster)
many c = c.max.ensures ∙ owners-count _ c.args.v.now.valid

pub shared_ref_as_front-result : goal.shared_ref_as_front-result
shared_ref_as_front-result c = omega (arith, many c, owners-few _ c.args.v.now.valid)

pub invariant_of-result : goal.invariant_of-result
invariant_of-result c = record { rises = front_rise _ c.args.v.now.valid 0 _ (many (goal.at.invariant_of-result c).After-max) }

pub returns : goal.returns
returns c = front_owners _ c.args.v.now.valid 0 _ (many (goal.at.returns c).After-max)
