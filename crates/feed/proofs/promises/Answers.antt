-- The laws that `feed` promises, each by its proof.
use Rattle.feed.proofs.Lines.{next_goes, nothing_left, piece_left, long_piece, end_prints, fed_fixed, end_fixed}
use Rattle.feed.proofs.Passes.{passed_is_fed, passing_fixed}
use Rattle.feed.proofs.promises.Goals as goal

pub returns : goal.returns
returns c =
    record {
      laws = (next_goes, nothing_left, piece_left, long_piece, end_prints);
      fixed = (fed_fixed, end_fixed);
      passed = (passed_is_fed, passing_fixed);
    }
