-- The laws that `lines` promises, each by its proof.
use Rattle.lines.proofs.Promised.{number_says, key_after_equals, malformed_carries, others_carry, long_malformed, comment_inside, number_fixed, key_fixed, read_fixed}
use Rattle.lines.proofs.promises.Goals as goal

pub returns : goal.returns
returns c =
    record {
      carried = (number_says, key_after_equals, malformed_carries, others_carry);
      refused = (long_malformed, comment_inside);
      fixed = (number_fixed, key_fixed, read_fixed);
    }
