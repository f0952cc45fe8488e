use Rattle.std.proofs.Common.{rules}
use Rattle.payreport.specs.Laws.PrintedLaws.{opened_so, closed_so, unopened_report, reported_end, reported_alone}
use Rattle.payreport.proofs.report_on.Goals as goal

pub returns-in-Ok : goal.returns-in-Ok
returns-in-Ok g c = search (opened_so, closed_so, reported_end, rules)

pub returns-in-Err : goal.returns-in-Err
returns-in-Err g c = search (unopened_report, reported_alone, rules)
