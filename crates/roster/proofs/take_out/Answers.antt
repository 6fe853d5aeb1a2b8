-- `roster::take_out` meets its contract: the copy and the store are those of the lemma.
use mathlib.Core.Path.{ap, ◌∙◌}
use Prim.Native.Nat.{◌-◌}
use lib.ListN.{length, set}
use native.Mathlib.Omega.{arith}
use Rattle.roster.proofs.Shift.{taken-paste}
use Rattle.roster.proofs.take_out.Goals as goal

pub returns : goal.returns
returns g c =
    let list = c.args.list.now in
    ap (λ k. set k (length list - 1) c.args.blank) c.copy_within.ensures.after
    ∙ taken-paste list c.args.p c.args.blank c.requires (length list - 1) (omega (arith, c.requires))
