use Rattle.twineherald.specs.Laws.NumbersLaws.{closing_by_lem, closing_refused}
use Rattle.std.proofs.Common.{rules}
use Rattle.twineherald.proofs.twineherald_close.Goals as goal

pub returns-in-Ok : goal.returns-in-Ok
returns-in-Ok c = search (closing_by_lem, rules)

pub returns-in-Err : goal.returns-in-Err
returns-in-Err c = search (closing_refused, rules)
