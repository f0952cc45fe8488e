-- Placing over the table is the machine's run: every goal is a law of Walk. Assumes nothing.
use Rattle.std.specs.Prelude.{ℕ, ◌≡◌, Result, Ok, Err, IsErrAnd}
use Rattle.std.proofs.Common.{rules, ap}
use Rattle.chart.specs.declared.Cursor.{Cursor}
use Rattle.chart.proofs.Walk.{rows_again, rows_next, rows_stop}
use Rattle.chart.proofs.+place_occurrence_place_rows.Goals as goal

-- what `?` hands on is the place
handed : (x : Result Cursor ℕ) (p : ℕ) → IsErrAnd x (λ q. q ≡ p) → x ≡ Err p
handed (Ok d) p h = absurd h
handed (Err q) p h = ap Err h

pub place_rows-loop-r-preserved-then-is_group : goal.place_rows-loop-r-preserved-then-is_group
place_rows-loop-r-preserved-then-is_group t c = search (c.in_ok-c-in-Takes.was, rows_again, rules)

pub place_rows-returns-in_err-c-in-Takes : goal.place_rows-returns-in_err-c-in-Takes
place_rows-returns-in_err-c-in-Takes t c =
    rw (handed c.from_residual.result c.in_err-c-in-Takes.field-0.0 c.from_residual.ensures.1) (search (c.in_err-c-in-Takes.ensures, rows_stop, rules))

pub place_rows-loop-r-preserved : goal.place_rows-loop-r-preserved
place_rows-loop-r-preserved t c = search (rows_next, rules)
