-- `roster::places_right` meets its contract. The loop's invariant: every place before i is right, and `last` is the number before i.
use native.Mathlib.Omega.{arith}
use native.Mathlib.Numerals.{add-one}
use mathlib.Core.Path.{◌≡◌, refl, sym, ap, ◌∙◌}
use lib.Dec.{ltb}
use Rattle.base.specs.Tables.{all, at}
use Rattle.base.proofs.Tests.{all-next, all_fails}
use Rattle.roster.specs.Places.{last_before, place_right, right_at}
use Rattle.roster.proofs.places_right.Goals as goal
use Rattle.roster.proofs.places_right.Goals.{After-place_right}

pub loop-i-init : goal.loop-i-init
unfolding last_before all
loop-i-init c = (refl, refl)

-- the answer of a turn is that place's
here : (c : After-place_right) →
    let args = c.args in
    c.place_right.result ≡ right_at args.hosts.now args.rates.now args.count c.loop-i.i
here c =
    let args = c.args in
    c.place_right.ensures ∙ ap (λ l. place_right (ltb c.loop-i.i args.count) l (at args.hosts.now c.loop-i.i) (at args.rates.now c.loop-i.i)) c.loop-i.invariant.0

pub returns-then-not-place_right-clause-answer : goal.returns-then-not-place_right-clause-answer
returns-then-not-place_right-clause-answer c =
    let fails = sym (here (goal.at.returns-then-not-place_right-clause-answer c).After-place_right) ∙ c.if-not-place_right.true in
    sym (all_fails 256 _ c.loop-i.i (omega arith) fails)

pub loop-i-preserved : goal.loop-i-preserved
unfolding last_before
loop-i-preserved c = (
  rw (add-one c.loop-i.i) refl,
  all-next c.loop-i.i _ c.loop-i.invariant.1 (sym (here (goal.at.loop-i-preserved c).After-place_right) ∙ c.if-not-place_right.false),
)
