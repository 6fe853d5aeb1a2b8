-- `quota::lightest` meets its contract. The loop's invariant: `best` is the first of the places before i whose next claim is lightest.
use Prim.Native.Nat.{◌≤◌}
use mathlib.Core.Path.{◌≡◌}
use Rattle.quota.specs.Greedy.{least}
use Rattle.quota.proofs.lightest.Given as goal

abbrev pub invariant-loop-i : goal.invariant-loop-i
invariant-loop-i l = (l.best ≤ l.i) × (l.best ≡ least l.rates l.held l.i)
