-- element: what its loop keeps, and what falls.
use Rattle.std.proofs.Common.{◌≡◌, false, drop, ◌-◌, length}
use Rattle.parts.specs.Forms.Lex.{elem_at}
use Rattle.parts.specs.Parts.{lex}
use Rattle.parts.proofs.element.Given as goal

abbrev pub invariant-loop-left : goal.invariant-loop-left
invariant-loop-left l = elem_at l.e (lex l.text.service false (drop l.at l.text.bytes.now)) ≡ elem_at l.left (lex l.text.service false (drop l.i l.text.bytes.now))

abbrev pub decreases-loop-left : goal.decreases-loop-left
decreases-loop-left l = length l.text.bytes.now - l.i
