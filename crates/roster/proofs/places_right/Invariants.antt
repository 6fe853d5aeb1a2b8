-- `roster::places_right` meets its contract. The loop's invariant: every place before i is right, and `last` is the number before i.
use mathlib.Core.Path.{◌≡◌}
use mathlib.Core.Bool.{true}
use Rattle.base.specs.Tables.{all}
use Rattle.roster.specs.Places.{last_before, right_at}
use Rattle.roster.proofs.places_right.Given as goal

abbrev pub invariant-loop-i : goal.invariant-loop-i
invariant-loop-i l = (l.last ≡ last_before l.hosts l.i) × (all l.i (right_at l.hosts l.rates l.count) ≡ true)
