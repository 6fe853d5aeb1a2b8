-- The laws that `events` promises, each by its proof.
use Rattle.events.proofs.Histories.{stays_right, slots-sum, no_smaller_ratio, within_bound, only_the_named, count_is_true, no_fewer, refused_keeps}
use Rattle.events.proofs.Histories.{same_rate_stays, forecast_is_true, reply_fixed, forecast_fixed}
use Rattle.events.proofs.Outcomes.{checks_suffice}
use Rattle.events.proofs.Rows.{rows-rise, never_fourteen}
use Rattle.events.proofs.promises.Goals as goal

pub returns : goal.returns
returns c =
    record {
      states = (stays_right, slots-sum, no_smaller_ratio, within_bound);
      moves = (only_the_named, count_is_true, no_fewer, refused_keeps, same_rate_stays);
      forecasts = (forecast_is_true, rows-rise);
      fixed = (reply_fixed, forecast_fixed);
      checks = (checks_suffice, never_fourteen);
    }
