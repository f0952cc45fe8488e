-- skip_breaks: what its loop keeps, and what falls.
use Rattle.std.proofs.Common.{◌≡◌, drop}
use Rattle.segments.specs.Forms.Bytes.{past_breaks}
use Rattle.segments.proofs.skip_breaks.Given as goal

abbrev pub invariant-loop-i : goal.invariant-loop-i
invariant-loop-i l = past_breaks l.at (drop l.at l.s) ≡ past_breaks l.i (drop l.i l.s)
