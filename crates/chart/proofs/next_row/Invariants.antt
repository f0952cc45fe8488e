-- The rows to try, one after the other. Assumes nothing.
use Rattle.std.proofs.Common.{◌≡◌, ◌-◌}
use Rattle.chart.specs.Forms.Next.{chain_from, find_in, next_row}
use Rattle.chart.proofs.next_row.Given as goal

abbrev pub invariant-loop : goal.invariant-loop
invariant-loop l = next_row l.t l.prev l.tag ≡ find_in l.t (chain_from l.t (l.end - l.counter) l.r) l.tag
