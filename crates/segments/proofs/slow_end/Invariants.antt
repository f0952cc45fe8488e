-- slow_end: what its loop keeps, and what falls.
use Rattle.std.proofs.Common.{◌≡◌, false, drop}
use Rattle.segments.specs.Forms.Bytes.{end_from}
use Rattle.segments.proofs.slow_end.Given as goal

abbrev pub invariant-loop-i : goal.invariant-loop-i
invariant-loop-i l = end_from l.text.service false l.at (drop l.at l.text.bytes.now) ≡ end_from l.text.service l.released l.i (drop l.i l.text.bytes.now)
