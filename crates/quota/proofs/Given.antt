-- What the function `quotas` gives: outside the sizes, with no hosts, and from no slots held.
-- Assumes nothing.
use mathlib.Core.Path.{◌≡◌, ap, ◌∙◌}
use mathlib.Core.Bool.{true, false}
use mathlib.Core.List.{List, ◌++◌}
use Prim.Native.Nat.{ℕ, ◌+◌, ◌≤◌}
use native.Mathlib.Nat.{zero-add}
use lib.ListN.{length, take, drop, replicate}
use Rattle.base.specs.Lists.{padded}
use Rattle.base.specs.Tables.{table, total}
use Rattle.base.proofs.Entries.{length-table, take-replicate, drop-replicate, total_zeros}
use Rattle.quota.specs.Quota.{quota, quotas, within_sizes, quotas_given}
use Rattle.quota.specs.Laws.{Positive}
use Rattle.quota.specs.Cut.{Cut}
use Rattle.quota.proofs.Step.{zero-cut}

pub given_outside : (rates : List ℕ) (S : ℕ) → within_sizes rates S ≡ false → quotas_given rates S ≡ replicate 256 0
unfolding quotas_given
given_outside rates S f = rw f

pub given_inside : (rates : List ℕ) (S : ℕ) → within_sizes rates S ≡ true → quotas_given rates S ≡ padded 256 (quotas rates S)
unfolding quotas_given
given_inside rates S t = rw t

pub given-none : (rates : List ℕ) (S : ℕ) → within_sizes rates S ≡ true → length rates ≡ 0 → quotas_given rates S ≡ replicate 256 0
unfolding quotas_given table
given-none rates S t e = rw (t, e)

-- zeros, as many as there are hosts, are where the slots are given out from
module _ (rates zeros : List ℕ) (e : zeros ≡ replicate 256 0) (fits : length rates ≤ 256) where
  start : take (length rates) zeros ≡ replicate (length rates) 0
  start = ap (take (length rates)) e ∙ take-replicate (length rates) 256 0 fits

  pub start-cut : Positive rates → Cut rates (take (length rates) zeros)
  start-cut pos = rw start (zero-cut rates pos)

  pub start-total : total (take (length rates) zeros) ≡ 0
  start-total = ap total start ∙ total_zeros (length rates)

  pub given-within : (S : ℕ) → within_sizes rates S ≡ true → (held : List ℕ) → held ≡ quotas rates (total (take (length rates) zeros) + S) → held ++ drop (length rates) zeros ≡ quotas_given rates S
  unfolding quotas_given
  given-within S t held h = rw (h, t, start-total, zero-add S, length-table (length rates) (quota rates S), e, drop-replicate (length rates) 256 0)
