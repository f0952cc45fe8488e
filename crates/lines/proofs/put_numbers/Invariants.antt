-- The numbers from this one on are left to write.
use Rattle.std.proofs.Common.{◌≡◌, ◌≤◌, ◌+◌, ◌*◌, ◌++◌, drop}
use Rattle.arrayvec.specs.ArrayVec.{array_vec_len}
use Rattle.lines.specs.Forms.Numbers.{numbers}
use Rattle.lines.proofs.put_numbers.Given as goal

abbrev pub invariant-loop-n : goal.invariant-loop-n
invariant-loop-n l = (l.line.items ++ numbers (drop l.n-index l.list) ≡ l.initial.line.items ++ numbers l.list) × (array_vec_len l.line ≤ array_vec_len l.initial.line + 21 * l.n-index)
