-- The table of the code is the definition's, line by line.
use Rattle.std.proofs.Common.{refl}
use Rattle.table.specs.Entries.{lines_from, within, text}
use Rattle.debmul.specs.Table.{table, DEBMUL}
use Rattle.debmul.proofs.chart.Goals as goal

pub returns : goal.returns
unfolding DEBMUL lines_from within text table
returns c = refl
