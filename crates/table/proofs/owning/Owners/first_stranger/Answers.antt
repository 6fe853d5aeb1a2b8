-- `Owners::first_stranger` meets its contract. Outside: every owner before slot i is known. Inside: the owner's place is narrowed by halves.
use native.Mathlib.Omega.{arith}
use native.Mathlib.Numerals.{add-one}
use mathlib.Core.Path.{◌≡◌, sym, ap}
use mathlib.Core.Bool.{not}
use mathlib.Core.Logic.{⊎_elim}
use lib.ListN.{length}
use Rattle.base.specs.Tables.{at}
use Rattle.base.proofs.Tests.{below_suc, first_is, first-none}
use Rattle.table.proofs.Seats.{narrow_start, narrow_up, narrow_down, narrow_off, found_on}
use Rattle.table.proofs.owning.Owners.first_stranger.Goals as goal

pub loop-hi-init : goal.loop-hi-init
loop-hi-init c = narrow_start _ _

pub loop-hi-preserved-then-number-owner-2 : goal.loop-hi-preserved-then-number-owner-2
loop-hi-preserved-then-number-owner-2 c = narrow_up c.args.self.now.rises c.loop-hi.invariant _ (omega arith) (omega arith) c.if-number-owner-2.true

pub loop-hi-preserved : goal.loop-hi-preserved
loop-hi-preserved c = narrow_down c.args.self.now.rises c.loop-hi.invariant _ (omega arith) (omega arith) c.if-number-owner-2.false c.if-number-owner.false

pub loop-i-preserved : goal.loop-i-preserved
loop-i-preserved c =
    let args = c.args in
    let i = c.loop-i.i in
    let here = ap not (found_on args.self.now.numbers.now (at args.table.now i) _ args.self.now.rises (omega (arith, c.loop-hi.invariant.high)) c.if-number-owner.true) in
    λ k l. ⊎_elim (λ h. c.loop-i.invariant k h) (λ (e : k ≡ i). rw e here) (below_suc (rw (add-one i) at l))

pub returns-then-hi-lo : goal.returns-then-hi-lo
returns-then-hi-lo c =
    let owners = c.args.self.now in
    let off = narrow_off owners.numbers.now _ _ _ owners.rises c.loop-hi.invariant c.if-hi-lo.true in
    (c.loop-i-test.true, sym (first_is _ _ c.loop-i.i c.loop-i-test.true (ap not off) c.loop-i.invariant))

pub returns-after-loop-i : goal.returns-after-loop-i
returns-after-loop-i c =
    let e : c.loop-i.i ≡ length c.args.table.now = omega arith in
    first-none _ _ (λ k l. c.loop-i.invariant k (rw e l))
