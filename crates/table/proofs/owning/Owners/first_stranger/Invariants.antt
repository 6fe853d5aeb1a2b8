-- `Owners::first_stranger` meets its contract. Outside: every owner before slot i is known. Inside: the owner's place is narrowed by halves.
use Prim.Native.Nat.{ℕ, ◌-◌, ◌<◌}
use mathlib.Core.Path.{◌≡◌}
use mathlib.Core.Bool.{false, not}
use Rattle.base.specs.Tables.{at}
use Rattle.roster.specs.Roster.{is_on}
use Rattle.table.proofs.Seats.{Narrowed}
use Rattle.table.proofs.owning.Owners.first_stranger.Given as goal

abbrev pub invariant-loop-hi : goal.invariant-loop-hi
invariant-loop-hi l = Narrowed l.self.numbers.now l.owner l.lo l.hi

abbrev pub decreases-loop-hi : goal.decreases-loop-hi
decreases-loop-hi l = l.hi - l.lo

abbrev pub invariant-loop-i : goal.invariant-loop-i
invariant-loop-i l = (k : ℕ) → k < l.i → not (is_on l.self.numbers.now (at l.table k)) ≡ false
