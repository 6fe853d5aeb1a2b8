-- `roster::dropped` meets its contract: the arrays it makes are those of the definition.
use native.Mathlib.Omega.{arith}
use mathlib.Core.Path.{sym}
use Rattle.roster.proofs.Facts.{facts}
use Rattle.roster.proofs.Changes.{drop-valid, drop-place, dropped_not}
use Rattle.roster.proofs.Made.{made_dropped}
use Rattle.roster.proofs.dropped.Goals as goal

pub returns-in_default : goal.returns-in_default
returns-in_default c = sym (dropped_not _ _ c.in_default.ensures)

pub take_out-requires : goal.take_out-requires
take_out-requires c =
    let may = c.in-Some.ensures in
    let f = facts _ (drop-valid _ _ may.0) in
    omega (arith, drop-place _ _ may.0, f.few, f.hosts_long, may.1)

pub overflow_sub-after : goal.overflow_sub-after
overflow_sub-after c = omega (arith, drop-place _ _ c.in-Some.ensures.0)

pub returns : goal.returns
returns c = let may = c.in-Some.ensures in made_dropped _ _ may.0 _ may.1 _ _ c.take_out.ensures c.take_out-2.ensures
