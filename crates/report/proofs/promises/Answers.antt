-- The laws that `report` promises, each by its proof.
use Rattle.report.proofs.Replies.{rows-rise, one_record_a_host, refused_unwritten, report_fixed}
use Rattle.report.proofs.promises.Goals as goal

pub returns : goal.returns
returns c =
    record {
      filled = (rows-rise, one_record_a_host, refused_unwritten);
      fixed = report_fixed;
    }
