-- The laws that `base` promises, each by its proof.
use Rattle.base.proofs.Answers.{lowest_is_first, lowest_is_none}
use Rattle.base.proofs.promises.Goals as goal

pub returns : goal.returns
returns c = (lowest_is_first, lowest_is_none)
