-- `roster::put_in` meets its contract: the copy and the store are those of the lemma.
use mathlib.Core.Path.{ap, ◌∙◌}
use Prim.Native.Nat.{◌-◌}
use lib.ListN.{length, set}
use native.Mathlib.Omega.{arith}
use Rattle.roster.proofs.Shift.{put-paste}
use Rattle.roster.proofs.put_in.Goals as goal

pub returns : goal.returns
returns g c =
    let list = c.args.list.now in
    ap (λ k. set k c.args.p c.args.value) c.copy_within.ensures.after
    ∙ put-paste list c.args.p c.args.value c.requires (length list - 1) (omega (arith, c.requires))
