use Rattle.twineherald.specs.Laws.FewLaws.{judge_few}
use Rattle.twineherald.specs.Laws.SeveralLaws.{answer_by}
use Rattle.std.proofs.Common.{rules}
use Rattle.twineherald.proofs.answer_at.Goals as goal

pub step_of-requires : goal.step_of-requires
step_of-requires c = search (judge_few, answer_by, rules)

pub returns : goal.returns
returns c = search (judge_few, answer_by, rules)
