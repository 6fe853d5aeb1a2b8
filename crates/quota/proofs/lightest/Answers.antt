-- `quota::lightest` meets its contract. The loop's invariant: `best` is the first of the places before i whose next claim is lightest.
use native.Mathlib.Omega.{arith}
use mathlib.Core.Path.{refl, sym, ◌∙◌}
use Rattle.quota.specs.Greedy.{least}
use Rattle.quota.proofs.Step.{least_taken, least_kept}
use Rattle.quota.proofs.lightest.Goals.{then-next_is_lighter, else-next_is_lighter}
use Rattle.quota.proofs.lightest.Goals as goal

pub loop-i-init : goal.loop-i-init
unfolding least
loop-i-init c = (omega arith, refl)

pub loop-i-preserved : goal.loop-i-preserved
loop-i-preserved c =
    let rates = c.args.rates.now in
    let held = c.args.held.now in
    let so_far = c.loop-i.invariant.1 in
    let answer = c.next_is_lighter.ensures in
    elim c.if-next_is_lighter.branch [
      | then-next_is_lighter w ↦
          (omega (arith, w.best-is), w.best-is ∙ least_taken rates held c.loop-i.i c.loop-i.best so_far (sym answer ∙ w.if-next_is_lighter.true))
      | else-next_is_lighter w ↦
          (omega (arith, w.best-is), w.best-is ∙ least_kept rates held c.loop-i.i c.loop-i.best so_far (sym answer ∙ w.if-next_is_lighter.false))
    ]
