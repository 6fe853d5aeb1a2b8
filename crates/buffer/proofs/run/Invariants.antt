-- `buffer::run` meets its contract: the loop's invariant: the text of the lines taken stands at the front of the output, and the lines left lead to the same end.
use Prim.Native.Nat.{◌-◌}
use lib.ListN.{length}
use Rattle.buffer.proofs.Runs.{Kept}
use Rattle.buffer.proofs.run.Given as goal

abbrev pub invariant-loop-number : goal.invariant-loop-number
invariant-loop-number l = Kept l.initial.owners l.input l.initial.out l.initial.state l.owners l.out l.state l.next l.printed

abbrev pub decreases-loop-number : goal.decreases-loop-number
decreases-loop-number l = length l.input - l.next
