-- The largest farm's vector passes the test of a cut, and so is the quotas.
use mathlib.Core.Path.{refl}
use Rattle.base.specs.Tables.{sum, all}
use Rattle.quota.specs.Greedy.{is_cut}
use Rattle.quota.proofs.Laws.{cut_test_is_quotas}
use Rattle.largest.specs.Largest.{rates, slots}
use Rattle.largest.proofs.promises.Goals as goal

pub returns : goal.returns
unfolding is_cut sum all rates slots
returns c = cut_test_is_quotas rates slots 16384 refl
