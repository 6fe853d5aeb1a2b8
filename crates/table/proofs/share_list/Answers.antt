-- `table::share_list` meets its contract: nobody has all, or each host its quota.
use borrow.Author.Tests.{eq-eqb, ne_eqb}
use mathlib.Core.Path.{sym, ap, ◌∙◌}
use lib.ListN.{set}
use Rattle.base.specs.Lists.{padded}
use Rattle.quota.specs.Quota.{quotas_given}
use Rattle.table.proofs.Owners.{shares-none, shares-given}
use Rattle.table.proofs.share_list.Goals as goal

pub returns-then-v-eq0 : goal.returns-then-v-eq0
returns-then-v-eq0 c =
    ap (λ l. set l 0 c.args.slots) c.filled-all.ensures ∙ ap (padded 256) (sym (shares-none _ _ (eq-eqb _ _ c.if-v-eq0.true)))

pub returns : goal.returns
returns c =
    c.quotas.ensures ∙ ap (λ l. quotas_given l c.args.slots) c.rates.ensures ∙ shares-given _ c.args.v.now.valid _ c.requires (ne_eqb _ _ c.if-v-eq0.false)
