-- The load question without trying divisions: slots shared out up to the most of each host; and its laws.
-- Assumes nothing.
use mathlib.Core.Path.{◌≡◌, ◌∙◌, subst}
use mathlib.Core.Bool.{true}
use mathlib.Core.List.{List}
use Prim.Native.Nat.{ℕ, zero, suc, ◌-◌, ◌≤◌, ◌<◌, min}
use native.Mathlib.Nat.{min-eq_left, min-le_left}
use native.Mathlib.Omega.{arith}
use lib.ListN.{length}
use borrow.Author.Tests.{le-leb, leb-true}
use Rattle.base.specs.Tables.{sum, table, at, total}
use Rattle.base.proofs.Sums.{sum_le, sum-at}
use Rattle.base.proofs.Entries.{length-table, at_table, total-table}
use Rattle.quota.specs.Quota.{quota, quotas}
use Rattle.quota.specs.Laws.{Positive}
use Rattle.quota.proofs.Laws.{least_greatest_ratio}
use Rattle.load.specs.Load.{AllKeepUp, Carries, most_kept, carries_all}
use Rattle.load.specs.Laws.{CarriesIsDivision}
use Rattle.load.proofs.Keeping.{within_most, most_keeps, keeps_less, keeps_as}

-- shared out in order, each host taking what it can of what is left
shared : ℕ → (ℕ → ℕ) → ℕ → ℕ
shared slots most i = min (most i) (slots - sum i most)

shared_sum : (n slots : ℕ) (most : ℕ → ℕ) → sum n (shared slots most) ≡ min slots (sum n most)
unfolding sum shared
shared_sum zero slots most = omega arith
shared_sum (suc n) slots most = let r : sum n (shared slots most) ≡ min slots (sum n most) = shared_sum n slots most in omega arith

module _ (load slots : ℕ) (rates : List ℕ) where
  n : ℕ
  n = length rates

  most : ℕ → ℕ
  most i = most_kept load slots (total rates) (at rates i)

  division_of : carries_all load slots rates ≡ true → Carries load slots rates
  unfolding carries_all n most shared
  division_of t =
      let room : slots ≤ sum n most = leb-true _ _ t in (
        table n (shared slots most),
        record { a_host_each = length-table n (shared slots most); all-given = total-table n (shared slots most) ∙ shared_sum n slots most ∙ min-eq_left room },
        (λ i h. most_keeps load slots (total rates) (at rates i) _ (rw (at_table n (shared slots most) i h) (min-le_left _ _))),
      )

  of_division : Carries load slots rates → carries_all load slots rates ≡ true
  unfolding carries_all n most
  of_division (held, d, keep) =
      let given : sum n (at held) ≡ slots = subst (λ k. sum k (at held) ≡ slots) d.a_host_each d.all-given in
      let each : (i : ℕ) → i < n → at held i ≤ most i = λ i h.
      within_most load slots (total rates) (at rates i) (at held i) (let v : at held i ≤ sum n (at held) = sum-at n (at held) i h in omega arith) (keep i h) in
      let all : sum n (at held) ≤ sum n most = sum_le n (at held) most each in
      let room : slots ≤ sum n most = omega arith in le-leb _ _ room

pub carries_is_division : CarriesIsDivision
carries_is_division load slots rates = (division_of load slots rates, of_division load slots rates)

-- the division that carries a load carries a smaller one
pub less_carried : (load less slots : ℕ) (rates : List ℕ) → less ≤ load → carries_all load slots rates ≡ true → carries_all less slots rates ≡ true
less_carried load less slots rates h t =
    let (held, d, keep) = division_of load slots rates t in
    of_division less slots rates (held, d, (λ i l. keeps_less load slots (total rates) (at rates i) less (at held i) h (keep i l)))

-- and the quotas keep up where some division does: no division has a smaller greatest ratio
pub quotas_keep : (load slots : ℕ) (rates : List ℕ) → Positive rates → carries_all load slots rates ≡ true → AllKeepUp load slots rates (quotas rates slots)
quotas_keep load slots rates pos t i h =
    let c = division_of load slots rates t in
    let m = least_greatest_ratio rates pos slots c.0 c.1 i h in
    rw (at_table (length rates) (quota rates slots) i h)
    (keeps_as load slots (total rates) (at rates i) (quota rates slots i) (at rates m.0) (at c.0 m.0) (pos m.0 m.1) m.2 (c.2 m.0 m.1))
