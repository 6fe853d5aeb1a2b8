-- `quota::quotas` meets its contract: slots are given out from none held, and only within the sizes.
use native.Mathlib.Omega.{arith}
use Prim.Native.Nat.{◌≤◌, ◌<◌}
use mathlib.Core.Path.{◌≡◌, sym, ap, ◌∙◌}
use mathlib.Core.Bool.{true}
use lib.ListN.{length}
use lib.Seq.{length-take-le}
use Rattle.std.proofs.lemmas.Bool.Decides.{nat_tests}
use Rattle.quota.specs.Quota.{within_sizes}
use Rattle.quota.proofs.Sizes.{hosts_fit, slots_fit_lem, rates_positive}
use Rattle.quota.proofs.Given.{given_outside, given-none, start-cut, start-total, given-within}
use Rattle.quota.proofs.quotas.Goals as goal
use Rattle.quota.proofs.quotas.Goals.{Then-not-is_empty, else-within_sizes-via-then-within_sizes+else-not-is_empty, else-within_sizes-via-else-within_sizes}

-- past the tests rates and slots are within the sizes
within : (c : Then-not-is_empty) → within_sizes c.args.rates.now c.args.slots ≡ true
within c = sym c.within_sizes.ensures ∙ c.if-within_sizes.true

-- and the hosts find room among the zeros
room : (c : Then-not-is_empty) → length c.args.rates.now ≤ length c.filled-held.result
room c = omega (arith, hosts_fit _ _ (within c), ap length c.filled-held.ensures)

pub slice_bounds-held-end : goal.slice_bounds-held-end
slice_bounds-held-end c = room c

pub slice_bounds-give_out-end : goal.slice_bounds-give_out-end
slice_bounds-give_out-end c = sym (length-take-le _ _ (room (goal.at.slice_bounds-give_out-end c).Then-not-is_empty))

pub give_out-requires : goal.give_out-requires
give_out-requires c =
    let sizes = within (goal.at.give_out-requires c).Then-not-is_empty in
    let zeros = c.filled-held.ensures in
    let rates = c.args.rates.now in
    let some : 0 < length rates = grind (arith, nat_tests) in
    let none = start-total rates _ zeros (hosts_fit _ _ sizes) in
    record {
      hosts = (some, rates_positive _ _ sizes);
      start = start-cut rates _ zeros (hosts_fit _ _ sizes) (rates_positive _ _ sizes);
      fits = omega (arith, slots_fit_lem _ _ sizes);
    }

pub returns-then-not-is_empty : goal.returns-then-not-is_empty
returns-then-not-is_empty c =
    let sizes = within (goal.at.returns-then-not-is_empty c).Then-not-is_empty in
    let zeros = c.filled-held.ensures in
    given-within _ _ zeros (hosts_fit _ _ sizes) _ sizes _ c.give_out.ensures

pub returns-else-within_sizes : goal.returns-else-within_sizes
returns-else-within_sizes c =
    c.filled-held.ensures
    ∙ elim c.else-within_sizes.branch [
      | else-within_sizes-via-then-within_sizes+else-not-is_empty w ↦
          let none : length c.args.rates.now ≡ 0 = grind (arith, nat_tests) in
          sym (given-none _ _ (sym c.within_sizes.ensures ∙ w.if-within_sizes.true) none)
      | else-within_sizes-via-else-within_sizes w ↦ sym (given_outside _ c.args.slots (sym c.within_sizes.ensures ∙ w.if-within_sizes.false))
    ]
