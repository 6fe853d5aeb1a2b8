-- The laws that `quota` promises, each by its proof.
use Rattle.quota.proofs.Laws.{more_claims, sum_is_slots, least_greatest_ratio, bounded, equal_rates}
use Rattle.quota.proofs.Laws.{one_way, add-takes, drop_gives, rise-takes, fall_gives, greedy_gives, cut_test_is_quotas}
use Rattle.quota.proofs.promises.Goals as goal

pub returns : goal.returns
returns c =
    record {
      counted = (more_claims, sum_is_slots);
      fair = (least_greatest_ratio, bounded, equal_rates);
      steady = (one_way, add-takes, drop_gives, rise-takes, fall_gives);
      same = (greedy_gives, cut_test_is_quotas);
    }
