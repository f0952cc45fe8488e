-- number: what its loop keeps.
use Rattle.std.proofs.Common.{◌≡◌}
use Rattle.values.specs.Left.{value_left}
use Rattle.values.specs.Forms.Values.{number_of, digits, count_of, read_of}
use Rattle.values.proofs.number.Given as goal

abbrev pub invariant-loop-b : goal.invariant-loop-b
invariant-loop-b l = number_of (value_left l.fn.value) ≡ digits (count_of l.number) (read_of l.number) (value_left l.b-iterator)
