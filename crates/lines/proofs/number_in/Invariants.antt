-- `lines::number_in` meets its contract: the loop's invariant is `Reading`: the digits still to come say the rest of the number.
use Rattle.lines.proofs.Texts.{Reading}
use Rattle.lines.proofs.number_in.Given as goal

abbrev pub invariant-loop-byte : goal.invariant-loop-byte
invariant-loop-byte l = Reading l.text l.value l.byte-index
