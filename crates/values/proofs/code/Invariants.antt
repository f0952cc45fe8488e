-- code: what its loop keeps.
use Rattle.std.proofs.Common.{◌≡◌}
use Rattle.values.specs.Left.{value_left}
use Rattle.values.specs.Forms.Values.{code_of, code_from}
use Rattle.values.proofs.code.Given as goal

abbrev pub invariant-loop-b : goal.invariant-loop-b
invariant-loop-b l = code_of (value_left l.fn.value) ≡ code_from l.code (value_left l.b-iterator)
