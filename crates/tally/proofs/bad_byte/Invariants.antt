-- bad_byte: what its loop keeps.
use Rattle.std.proofs.Common.{◌≡◌}
use Rattle.tally.specs.Tallied.{bad_between}
use Rattle.tally.proofs.bad_byte.Given as goal

abbrev pub invariant-loop-i : goal.invariant-loop-i
invariant-loop-i l = bad_between l.m l.from l.to ≡ bad_between l.m l.i l.to
