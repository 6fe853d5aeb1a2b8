-- `quota::give_out` meets its contract. The loop's invariant: what is held is a cut, and has grown by what was given.
use native.Mathlib.Omega.{arith}
use mathlib.Core.Path.{sym, ◌∙◌}
use Rattle.quota.proofs.Cut.{cut_is_quotas}
use Rattle.quota.proofs.Step.{Turned, turn}
use Rattle.quota.proofs.give_out.Goals as goal
use Rattle.quota.proofs.give_out.Goals.{After-lightest-p}

-- what one turn does
turned : (c : After-lightest-p) →
    Turned c.args.rates.now c.loop.held c.lightest-p.result
turned c =
    turn _ _ _ c.requires.hosts.0 c.requires.hosts.1 c.loop.invariant.1 c.lightest-p.ensures

pub offset_bounds-held-p : goal.offset_bounds-held-p
offset_bounds-held-p c = omega (arith, (turned c).within)

pub bounds-held-p : goal.bounds-held-p
bounds-held-p c = (turned (goal.at.bounds-held-p c).After-lightest-p).within

pub overflow_add-held : goal.overflow_add-held
overflow_add-held c = omega (arith, (turned (goal.at.overflow_add-held c).After-lightest-p).holds-few)

pub bounds-held-p-in-loop : goal.bounds-held-p-in-loop
bounds-held-p-in-loop c = (turned (goal.at.bounds-held-p-in-loop c).After-lightest-p).within

pub loop-preserved : goal.loop-preserved
loop-preserved c = (omega (arith, (turned (goal.at.loop-preserved c).After-lightest-p).more), (turned (goal.at.loop-preserved c).After-lightest-p).kept)

pub returns : goal.returns
returns c = cut_is_quotas c.loop.invariant.1 _ (omega arith)
