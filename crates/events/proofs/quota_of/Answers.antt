-- `events::quota_of` meets its contract: the quota at the host's place, or 0.
use native.Mathlib.Omega.{arith}
use Prim.Native.Nat.{◌<◌}
use mathlib.Core.Path.{sym, ap, ◌∙◌}
use Rattle.roster.proofs.Facts.{facts, length_hosts, hosts_rise}
use Rattle.roster.proofs.Search.{on_place}
use Rattle.quota.specs.Quota.{quotas_given}
use Rattle.mover.proofs.Laws.{quota_off}
use Rattle.events.proofs.Checks.{given-quota}
use Rattle.events.proofs.quota_of.Goals as goal
use Rattle.events.proofs.quota_of.Goals.{After-place}

pub returns-then-not-lists-clause-quota : goal.returns-then-not-lists-clause-quota
returns-then-not-lists-clause-quota c = sym (quota_off _ _ _ (sym c.if-not-lists.ensures))

-- the host is on the roster, and so its place below the count
low : (c : After-place) → c.place.result < 256
low c =
    let v = c.args.v.now in
    let f = facts v.roster v.valid in
    let found = on_place _ (hosts_rise _ f) c.args.host (sym c.if-not-lists.ensures) in
    omega (arith, found.0, length_hosts _ f, f.few, c.place.ensures)

pub offset_bounds-quotas-place : goal.offset_bounds-quotas-place
offset_bounds-quotas-place c = omega (arith, low c)

pub bounds-quotas-place : goal.bounds-quotas-place
bounds-quotas-place c = low c

pub returns-clause-quota : goal.returns-clause-quota
returns-clause-quota c =
    let v = c.args.v.now in
    (given-quota _ _ _ v.valid c.requires _ (c.quotas.ensures ∙ ap (λ l. quotas_given l c.args.slots) c.rates.ensures) _ c.place.ensures (sym c.if-not-lists.ensures)).0

pub returns-clause-small : goal.returns-clause-small
returns-clause-small c =
    let v = c.args.v.now in
    (given-quota _ _ _ v.valid c.requires _ (c.quotas.ensures ∙ ap (λ l. quotas_given l c.args.slots) c.rates.ensures) _ c.place.ensures (sym c.if-not-lists.ensures)).1
