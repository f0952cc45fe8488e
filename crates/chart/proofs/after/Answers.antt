-- The next cursor, by the segment at this one.
use Rattle.std.proofs.Common.{rules}
use Rattle.chart.specs.Laws.CursorLaws.{stepped_next, stepped_nothing}
use Rattle.chart.proofs.after.Goals as goal

pub returns-in-Finished : goal.returns-in-Finished
returns-in-Finished c = search (stepped_next, rules)

pub returns-in-Nothing : goal.returns-in-Nothing
returns-in-Nothing c = search (stepped_nothing, rules)
