use Rattle.std.proofs.Common.{rules}
use Rattle.payreport.specs.Laws.PrintedLaws.{report_read}
use Rattle.payreport.proofs.report_input.Goals as goal

pub returns : goal.returns
returns g c =
    report_read _ _ _ _ _ _ _ _ _ (search rules) c.read_full-n.ensures.within c.read_full-n.ensures.taken c.read_full-n.ensures.whole c.put_report.ensures c.and.ensures
