-- past_eights: what its loop keeps, and what falls.
use Rattle.std.proofs.Common.{◌-◌, ◌≡◌}
use Rattle.tally.specs.Tallied.{bad_between}
use Rattle.tally.proofs.past_eights.Given as goal

abbrev pub invariant-loop-i : goal.invariant-loop-i
invariant-loop-i l = bad_between l.m l.from l.to ≡ bad_between l.m l.i l.to

abbrev pub decreases-loop-i : goal.decreases-loop-i
decreases-loop-i l = l.to - l.i
