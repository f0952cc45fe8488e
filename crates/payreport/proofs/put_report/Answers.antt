use Rattle.std.proofs.Common.{arith}
use Rattle.payreport.specs.Printed.{long, long_alone}
use Rattle.payreport.specs.Laws.PrintedLaws.{reported_alone}
use Rattle.payreport.proofs.put_report.Goals as goal

pub put_open-requires : goal.put_open-requires
put_open-requires g c = long (omega arith)

pub returns-then-s-gt-MOST : goal.returns-then-s-gt-MOST
returns-then-s-gt-MOST g c = reported_alone _ _ _ _ (long_alone (omega arith)) c.put_open.result c.put_open.ensures
