-- whole: what its loop keeps, and what falls.
use Rattle.std.proofs.Common.{◌≡◌, length}
use Rattle.values.specs.Left.{value_left}
use Rattle.values.specs.Forms.Values.{whole_of, units, count_of, read_of}
use Rattle.values.proofs.whole.Given as goal

abbrev pub invariant-loop-b : goal.invariant-loop-b
invariant-loop-b l = whole_of (value_left l.initial.value) ≡ units (count_of l.units) (read_of l.units) (value_left l.value)

abbrev pub decreases-loop-b : goal.decreases-loop-b
decreases-loop-b l = length (value_left l.value)
