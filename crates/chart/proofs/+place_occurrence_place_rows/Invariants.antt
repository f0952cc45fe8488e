-- Placing goes from a row to the rows inside it, and ends: the rows that are left fall. What the loop over rows side by side keeps.
use Rattle.std.proofs.Common.{◌+◌, ◌-◌}
use Rattle.chart.specs.Forms.Columns.{end_of}
use Rattle.chart.proofs.Walk.{RowsInv, turns}
use Rattle.chart.proofs.+place_occurrence_place_rows.Given as goal

abbrev pub decreases-place_occurrence : goal.decreases-place_occurrence
decreases-place_occurrence l = (end_of l.t.now.now l.r - l.r) + (end_of l.t.now.now l.r - l.r) + 1

abbrev pub decreases-place_rows : goal.decreases-place_rows
decreases-place_rows l = (end_of l.t.now.now l.g - l.g) + (end_of l.t.now.now l.g - l.g)

abbrev pub invariant-place_rows-loop-r : goal.invariant-place_rows-loop-r
invariant-place_rows-loop-r l = RowsInv l.t.now l.text.service l.text.bytes.now l.g l.end l.initial.c l.r l.times l.c

abbrev pub decreases-place_rows-loop-r : goal.decreases-place_rows-loop-r
decreases-place_rows-loop-r l = turns l.end l.r l.times
