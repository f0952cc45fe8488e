-- put_times: what its loop keeps.
use Rattle.std.proofs.Common.{◌-◌, replicate}
use Rattle.rewrite.proofs.put_times.Given as goal
use Rattle.lent.specs.Forms.Puts.{Putting}

abbrev pub invariant-loop : goal.invariant-loop
invariant-loop l = Putting l.j (replicate l.n l.b) l.initial.out l.out l.k (replicate (l.n - l.counter) l.b)
