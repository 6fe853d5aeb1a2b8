-- What the checks of an event tell: a host number in range, and a host on the roster.
-- Assumes nothing.
use mathlib.Core.Path.{◌≡◌, sym, ap, ◌∙◌, subst}
use mathlib.Core.Bool.{Bool, true, false}
use Prim.Native.Nat.{ℕ, ◌-◌, ◌≤◌, ◌<◌}
use native.Mathlib.Omega.{arith}
use mathlib.Core.List.{List}
use lib.Dec.{leb}
use lib.ListN.{length}
use mir.Syntax.{w16}
use mir.Val.{Fits}
use borrow.Author.Tests.{leb-true, ne_eqb}
use Rattle.base.specs.Sizes.{host_fits, slots_fit}
use Rattle.base.specs.Tables.{at, total}
use Rattle.base.specs.Lists.{padded}
use Rattle.base.proofs.Sums.{sum-at}
use Rattle.base.proofs.Entries.{length-table, alike_zeros}
use Rattle.quota.specs.Quota.{quota, quotas, quotas_given}
use Rattle.base.proofs.Tests.{and_right}
use Rattle.roster.specs.declared.Roster.{Roster}
use Rattle.roster.specs.Roster.{hosts_of, rates_of, valid, is_on, place}
use Rattle.roster.proofs.Facts.{facts, length_hosts, length-rates, hosts_rise}
use Rattle.roster.proofs.Search.{on_place}
use Rattle.mover.proofs.Laws.{quota_on}
use Rattle.table.specs.Table.{no_hosts}
use Rattle.table.proofs.Owners.{shares-given, shares_some, shares-total}
use Rattle.events.specs.Forecasts.{host_quota}
use Rattle.roster.specs.Changes.{may_drop}

-- a host number in range fits 16 bits
pub host_narrow : (host : ℕ) → host_fits host ≡ true → Fits w16 host
host_narrow host t = let l : host ≤ 65535 = leb-true host 65535 (and_right (leb 1 host) _ t) in omega arith

-- the quotas that the function gives, at a host's place
pub given-quota : (r : Roster) (S host : ℕ) → valid r ≡ true → slots_fit S ≡ true → (l : List ℕ) → l ≡ quotas_given (rates_of r) S → (p : ℕ) → p ≡ place (hosts_of r) host → is_on (hosts_of r) host ≡ true →
    (at l p ≡ host_quota r S host) × (at l p ≤ 16384)
given-quota r S host v t l e p h on =
    let f = facts r v in
    let found = on_place (hosts_of r) (hosts_rise r f) host on in
    let below : p < r.count = subst (λ n. p < n) (length_hosts r f) (rw h found.0) in
    let some : no_hosts r ≡ false = ne_eqb r.count 0 (λ z. omega arith) in
    let given : l ≡ padded 256 (quotas (rates_of r) S) = e ∙ shares-given r v S t some ∙ ap (padded 256) (shares_some r S some) in
    let here : at l p ≡ at (quotas (rates_of r) S) p = ap (λ k. at k p) given ∙ alike_zeros (256 - length (quotas (rates_of r) S)) (quotas (rates_of r) S) p in
    let is : at l p ≡ host_quota r S host = here ∙ ap (at (quotas (rates_of r) S)) h ∙ sym (quota_on (hosts_of r) (quotas (rates_of r) S) host on) in
    let all : total (quotas (rates_of r) S) ≡ S = ap total (sym (shares_some r S some)) ∙ shares-total r v S in
    let long = length-table (length (rates_of r)) (quota (rates_of r) S) in
    let few : at (quotas (rates_of r) S) p ≤ total (quotas (rates_of r) S) = sum-at (length (quotas (rates_of r) S)) (at (quotas (rates_of r) S)) p (omega (arith, length-rates r f)) in
    let top : S ≤ 16384 = leb-true S 16384 (and_right (leb 1 S) _ t) in
    (is, omega arith)
