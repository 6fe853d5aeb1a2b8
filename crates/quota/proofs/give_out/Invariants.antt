-- `quota::give_out` meets its contract. The loop's invariant: what is held is a cut, and has grown by what was given.
use Prim.Native.Nat.{◌+◌}
use mathlib.Core.Path.{◌≡◌}
use Rattle.base.specs.Tables.{total}
use Rattle.quota.specs.Cut.{Cut}
use Rattle.quota.proofs.give_out.Given as goal

abbrev pub invariant-loop : goal.invariant-loop
invariant-loop l = (total l.held ≡ total l.initial.held + l.counter) × Cut l.rates l.held
