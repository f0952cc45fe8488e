-- fraction: what its loop keeps.
use Rattle.std.proofs.Common.{◌≡◌}
use Rattle.values.specs.Left.{value_left}
use Rattle.values.specs.Forms.Values.{fraction}
use Rattle.values.specs.Laws.AmountLaws.{Weighs}
use Rattle.values.proofs.fraction.Given as goal

abbrev pub invariant-loop-b : goal.invariant-loop-b
invariant-loop-b l = (fraction 100 0 (value_left l.fn.value) ≡ fraction l.weight l.sum (value_left l.b-iterator)) × Weighs l.weight l.sum
