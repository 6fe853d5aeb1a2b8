-- Forecasts (document 01, Layout and events, sentences 14 to 16): a host's quota after an event less its quota before it.
-- Assumes nothing.
use Rattle.std.specs.Prelude.{not, ◌||◌, cond, List, ◌∷◌, ℕ, eqb, ℤ, pos, ◌-ℤ◌}
use Rattle.base.specs.Rows.{Row, lowest}
use Rattle.base.specs.Sizes.{host_fits, slots_fit}
use Rattle.quota.specs.Quota.{quotas}
use Rattle.roster.specs.declared.Roster.{Roster}
use Rattle.roster.specs.Roster.{hosts_of, rates_of, valid}
use Rattle.mover.specs.Mover.{quota_of}
use Rattle.events.specs.declared.Event.{Event}
use Rattle.events.specs.Events.{bad_host, change_rows, changed}

-- what a forecast answers: the number, and the change of the host's quota
pub record Foreseen : Type 0 where
  pub answer : ℕ
  pub change : ℤ

-- sentence 15: the quota of a host, 0 where it is absent
abbrev pub host_quota : Roster → ℕ → ℕ → ℕ
host_quota r S host = quota_of (hosts_of r) (quotas (rates_of r) S) host

-- sentence 16: the event's checks but for the table; 4 is for either host number
abbrev pub forecast_rows : Roster → ℕ → Event → ℕ → List Row
forecast_rows r S e asked =
    record { number = 1; holds = not (slots_fit S) }
    ∷ record { number = 2; holds = not (valid r) }
    ∷ record { number = 4; holds = bad_host e || not (host_fits asked) }
    ∷ change_rows r e

unfoldable pub forecast_answer : Roster → ℕ → Event → ℕ → ℕ
forecast_answer r S e asked = lowest (forecast_rows r S e asked)

-- sentence 15: the new quota less the old one, a signed number; a refusal says 0
unfoldable pub change_of : Roster → ℕ → Event → ℕ → ℤ
change_of r S e asked =
    cond (eqb (forecast_answer r S e asked) 0) (pos (host_quota (changed r e) S asked) -ℤ pos (host_quota r S asked)) (pos 0)

abbrev pub forecast_of : Roster → ℕ → Event → ℕ → Foreseen
forecast_of r S e asked = record { answer = forecast_answer r S e asked; change = change_of r S e asked }
