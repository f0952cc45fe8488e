-- The message's own row is a row of the table.
use Rattle.std.proofs.Common.{rules}
use Rattle.chart.proofs.Walk.{all_row}
use Rattle.chart.proofs.place_all.Goals as goal

pub place_occurrence-requires-clause-row_is : goal.place_occurrence-requires-clause-row_is
place_occurrence-requires-clause-row_is c = search (all_row, rules)
