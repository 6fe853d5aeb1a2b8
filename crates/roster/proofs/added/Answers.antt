-- `roster::added` meets its contract: the arrays it makes are those of the definition.
use native.Mathlib.Omega.{arith}
use mathlib.Core.Path.{sym}
use Rattle.roster.proofs.Facts.{facts}
use Rattle.roster.proofs.Changes.{add-valid, add_room, added_not}
use Rattle.roster.proofs.Made.{add-place, made_added}
use Rattle.roster.proofs.added.Goals as goal

pub returns-in_default : goal.returns-in_default
returns-in_default c = sym (added_not _ _ _ c.in_default.ensures)

pub put_in-requires : goal.put_in-requires
put_in-requires c =
    let may = c.in-Some.ensures in
    omega (arith, add-place _ _ _ may.0, add_room _ _ _ may.0, (facts _ (add-valid _ _ _ may.0)).hosts_long, may.1)

pub put_in-requires-2 : goal.put_in-requires-2
put_in-requires-2 c =
    let may = c.in-Some.ensures in
    omega (arith, add-place _ _ _ may.0, add_room _ _ _ may.0, (facts _ (add-valid _ _ _ may.0)).rates_long, may.1)

pub overflow_add-after : goal.overflow_add-after
overflow_add-after c = omega (arith, add_room _ _ _ c.in-Some.ensures.0)

pub returns : goal.returns
returns c = let may = c.in-Some.ensures in made_added _ _ _ may.0 _ may.1 _ _ c.put_in.ensures c.put_in-2.ensures
