use Rattle.twineherald.specs.Laws.LentLaws.{checked_back}
use Rattle.std.proofs.Common.{rules}
use Rattle.twineherald.proofs.twineherald_check.Goals as goal

pub returns-in-Some : goal.returns-in-Some
returns-in-Some c = search (checked_back, rules)
