use Rattle.report.specs.Laws.ChecksLaws.{late_stuck}
use Rattle.std.proofs.Common.{rules}
use Rattle.report.proofs.late_fault.Goals as goal

pub returns-in-Some : goal.returns-in-Some
returns-in-Some c = search (late_stuck, rules)
