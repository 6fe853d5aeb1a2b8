-- `quota::within_sizes` meets its contract: past the tests of the two counts each rate's own decides.
use native.Mathlib.Omega.{arith}
use Prim.Native.Nat.{◌<◌}
use mathlib.Core.Path.{sym, ◌∙◌}
use borrow.Author.Tests.{tests}
use Rattle.std.proofs.Common.{rules}
use Rattle.std.proofs.lemmas.Iterator.{YieldsList-from_slice}
use Rattle.std.proofs.lemmas.Iterator.Search.{all_from_yields_List}
use Rattle.base.specs.Sizes.{rate_fits}
use Rattle.quota.proofs.Sizes.{too_many_hosts, too_many_slots, each_place, rates_decide}
use Rattle.quota.proofs.within_sizes.Goals as goal
use Rattle.quota.proofs.within_sizes.Goals.{then-rates-le256, else-rates-le256}

pub returns-then-slots-le16384 : goal.returns-then-slots-le16384
returns-then-slots-le16384 c =
    let few = c.if-slots-le16384.true in
    all_from_yields_List rate_fits _ _ c.all.result c.all.ensures.ran (YieldsList-from_slice c.args.rates.now cc) (λ x b q k. search (rules, tests))
    ∙ each_place rate_fits c.args.rates.now
    ∙ sym (rates_decide _ _ few.0 few.1)

pub returns-else-slots-le16384 : goal.returns-else-slots-le16384
returns-else-slots-le16384 c =
    elim c.if-rates-le256.branch [
      | then-rates-le256 w ↦ let many : 16384 < c.args.slots = omega arith in cc (too_many_slots c.args.rates.now _ many)
      | else-rates-le256 w ↦ let many = w.if-rates-le256.false in cc (too_many_hosts _ c.args.slots many)
    ]
