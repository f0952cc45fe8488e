-- component_of: what its loop keeps, and what falls.
use Rattle.std.proofs.Common.{◌≡◌, false, drop, ◌-◌, length}
use Rattle.parts.specs.Forms.Lex.{comp_at}
use Rattle.parts.specs.Parts.{lex, value_of}
use Rattle.parts.proofs.component_of.Given as goal

abbrev pub invariant-loop-left : goal.invariant-loop-left
invariant-loop-left l = value_of (comp_at l.c (lex l.text.service false (drop l.at l.text.bytes.now))) ≡ value_of (comp_at l.left (lex l.text.service false (drop l.i l.text.bytes.now)))

abbrev pub decreases-loop-left : goal.decreases-loop-left
decreases-loop-left l = length l.text.bytes.now - l.i
