-- `events::forecast` meets its contract: the rows, then the quota on the changed roster less the quota now.
use mathlib.Core.Path.{sym, ap, ap₂, ◌∙◌}
use lib.IntN.{pos, ◌-ℤ◌}
use mir.Syntax.{w32}
use mir.ValLaws.{to_z-of_z}
use Rattle.base.proofs.Refusals.{number_not_zero}
use Rattle.std.proofs.lemmas.Result.{err_from_is_err_and}
use Rattle.events.specs.Events.{changed}
use Rattle.events.specs.Forecasts.{host_quota}
use Rattle.events.proofs.Checks.{host_narrow}
use Rattle.events.proofs.Outcomes.{Passed, forecast-passed, forecast_refused, forecast-done}
use Rattle.events.proofs.forecast.Goals as goal
use Rattle.events.proofs.forecast.Goals.{In_ok-v}

pub returns-in_err-v : goal.returns-in_err-v
returns-in_err-v c =
    let p = err_from_is_err_and c.from_residual.result c.from_residual.ensures.1 in
    rw (p.1, p.2) (sym (forecast_refused _ _ _ _ _ c.in_err-v.ensures.answer (number_not_zero _)))

-- past the `?` every row has been passed
well : (c : In_ok-v) → let args = c.args in Passed args.r args.slots args.event args.asked
well c = forecast-passed _ _ _ _ (sym c.in_ok-v.ensures.answer)

pub overflow_cast-asked : goal.overflow_cast-asked
overflow_cast-asked c = host_narrow _ (well (goal.at.overflow_cast-asked c).In_ok-v).asked_well

pub quota_of-before-requires : goal.quota_of-before-requires
quota_of-before-requires c = (well (goal.at.quota_of-before-requires c).In_ok-v).count_fits

pub changed-requires : goal.changed-requires
changed-requires c = (well (goal.at.changed-requires c).In_ok-v).named_well

pub overflow_cast-asked-2 : goal.overflow_cast-asked-2
overflow_cast-asked-2 c = host_narrow _ (well (goal.at.overflow_cast-asked-2 c).In_ok-v).asked_well

pub quota_of-after-requires : goal.quota_of-after-requires
quota_of-after-requires c = (well (goal.at.quota_of-after-requires c).In_ok-v).count_fits

pub returns : goal.returns
returns c =
    let args = c.args in
    let same = c.in_ok-v.ensures.same in
    let after = c.quota_of-after.ensures.quota ∙ ap (λ s. host_quota s args.slots args.asked) (c.changed.ensures ∙ ap (λ r. changed r args.event) same) in
    let before = c.quota_of-before.ensures.quota ∙ ap (λ s. host_quota s args.slots args.asked) same in
    sym (forecast-done args.r args.slots args.event args.asked (sym c.in_ok-v.ensures.answer) _ (to_z-of_z w32 c.less.result (record { sfits = c.less.type_inv }) ∙ c.less.ensures ∙ ap₂ (λ a b. pos a -ℤ pos b) after before))
