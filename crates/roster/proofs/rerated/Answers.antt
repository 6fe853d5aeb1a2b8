-- `roster::rerated` meets its contract: the arrays it makes are those of the definition.
use native.Mathlib.Omega.{arith}
use Prim.Native.Nat.{◌<◌}
use mathlib.Core.Path.{sym}
use Rattle.roster.proofs.Facts.{facts}
use Rattle.roster.proofs.Changes.{rate_valid, rate_place, rerated_not}
use Rattle.roster.proofs.Made.{made_rerated}
use Rattle.roster.proofs.rerated.Goals as goal
use Rattle.roster.proofs.rerated.Goals.{In-Some}

pub returns-in_default : goal.returns-in_default
returns-in_default c = sym (rerated_not _ _ _ c.in_default.ensures)

-- the host stands below the count, and so below 256
low : (c : In-Some) → c.in-Some.p < 256
low c = let may = c.in-Some.ensures in omega (arith, rate_place _ _ _ may.0, (facts _ (rate_valid _ _ _ may.0)).few, may.1)

pub offset_bounds-after-p : goal.offset_bounds-after-p
offset_bounds-after-p c = omega (arith, low (goal.at.offset_bounds-after-p c).In-Some)

pub bounds-after-p : goal.bounds-after-p
bounds-after-p c = low (goal.at.bounds-after-p c).In-Some

pub returns : goal.returns
returns c = let may = c.in-Some.ensures in made_rerated _ _ _ may.0 _ may.1
