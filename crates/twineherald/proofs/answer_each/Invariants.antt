-- answer_each: what its loop keeps.
use Rattle.twineherald.proofs.answer_each.Given as goal
use Rattle.twineherald.specs.Forms.Upto.{AnsweredUpto}

abbrev pub invariant-loop-i : goal.invariant-loop-i
invariant-loop-i l = AnsweredUpto l.bytes l.i l.positions l.initial.answers l.answers
