use Rattle.std.proofs.Common.{rules}
use Rattle.lines.specs.Laws.LinesLaws.{end_lined}
use Rattle.lines.proofs.end.Goals as goal

pub returns-clause-lined : goal.returns-clause-lined
returns-clause-lined c = search (end_lined c.args.list.now c.args.line.items c.put_numbers.new.line.items, rules)
