use Rattle.std.proofs.Common.{rules, length, ◌++◌}
use Rattle.lines.specs.Forms.Numbers.{numbers}
use Rattle.lines.specs.Laws.LinesLaws.{numbers_on, numbers_all}
use Rattle.lines.proofs.put_numbers.Goals as goal

pub loop-n-preserved : goal.loop-n-preserved
loop-n-preserved c =
    numbers_on c.args.list.now c.loop-n.n-index (search rules) (search rules) (length c.args.line.now.items) c.loop-n.line.items c.push.new.self.items c.put.new.line.items c.as_bytes.result.now
    (c.args.line.now.items ++ numbers c.args.list.now) c.loop-n.invariant (search rules) (search rules) (search rules)

pub returns-clause-items : goal.returns-clause-items
returns-clause-items c = numbers_all c.args.list.now c.loop-n.n-index (search rules) c.loop-n.line.items (c.args.line.now.items ++ numbers c.args.list.now) c.loop-n.invariant.0
