use Rattle.twineherald.specs.Laws.SeveralLaws.{upto_none, upto_room, upto_next, upto_all, upto_same}
use Rattle.std.proofs.Common.{rules}
use Rattle.twineherald.proofs.answer_each.Goals as goal

pub loop-i-preserved : goal.loop-i-preserved
loop-i-preserved c = search (upto_none, upto_room, upto_next, upto_all, upto_same, rules)
