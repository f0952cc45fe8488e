-- The table of the code is the definition's, line by line.
use Rattle.std.proofs.Common.{refl}
use Rattle.table.specs.Entries.{lines_from, within, text}
use Rattle.paymul.specs.Table.{table, PAYMUL}
use Rattle.paymul.proofs.chart.Goals as goal

pub returns : goal.returns
unfolding PAYMUL lines_from within text table
returns c = refl
