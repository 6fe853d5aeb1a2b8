-- `serving::serve` meets its contract: the loop's invariant: what is held is what the definition of reads leads to.
use Rattle.serving.specs.Turns.{Holding}
use Rattle.serving.proofs.serve.Given as goal

-- what is held is what the definition of reads leads to
abbrev pub invariant-loop : goal.invariant-loop
invariant-loop g l = Holding l.server
