use Rattle.values.specs.Text.{text}
use Rattle.lines.specs.Laws.LinesLaws.{open_lined, open_short}
use Rattle.lines.proofs.open_line.Goals as goal

pub returns-clause-lined : goal.returns-clause-lined
unfolding text
returns-clause-lined c = open_lined c.args.number c.new-line.result.items c.put.new.line.items c.new-line.ensures c.put.ensures c.args.room.now c.end.new.room c.end.result c.end.ensures.lined

pub returns-clause-number_len_bound : goal.returns-clause-number_len_bound
unfolding text
returns-clause-number_len_bound c = open_short c.args.number c.new-line.result.items c.put.new.line.items c.new-line.ensures c.put.ensures c.end.ensures.short
