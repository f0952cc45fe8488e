use Rattle.twineherald.specs.Laws.LentLaws.{stepped_back}
use Rattle.std.proofs.Common.{rules}
use Rattle.twineherald.proofs.twineherald_walk.Goals as goal

pub returns : goal.returns
returns c = search (stepped_back, rules)
