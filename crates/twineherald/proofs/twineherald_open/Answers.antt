use Rattle.twineherald.specs.Laws.NumbersLaws.{open_opens, open_refused}
use Rattle.std.proofs.Common.{rules}
use Rattle.twineherald.proofs.twineherald_open.Goals as goal

pub returns-in-Ok : goal.returns-in-Ok
returns-in-Ok c = search (open_opens, rules)

pub returns-in-Err : goal.returns-in-Err
returns-in-Err c = search (open_refused, rules)
