use Rattle.report.specs.Laws.ChecksLaws.{misfit_none, misfit_some}
use Rattle.std.proofs.Common.{rules}
use Rattle.report.proofs.misfit_of.Goals as goal

pub returns-in-Err : goal.returns-in-Err
returns-in-Err c = search (misfit_none, misfit_some, rules)
