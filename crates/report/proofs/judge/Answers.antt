use Rattle.report.specs.Laws.JudgeLaws.{judge_enough}
use Rattle.std.proofs.Common.{rules}
use Rattle.report.proofs.judge.Goals as goal

pub returns : goal.returns
returns c = search (judge_enough, rules)
