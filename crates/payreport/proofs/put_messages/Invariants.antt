-- The walk stands at `at`, after `place` messages of which `accepted` were accepted; where each write succeeded their lines are written.
use Rattle.std.proofs.Common.{◌-◌, length}
use Rattle.std.specs.Prelude.{OnOk}
use Rattle.payreport.specs.Laws.PrintedLaws.{Standing, Telling}
use Rattle.payreport.proofs.put_messages.Given as goal

abbrev pub invariant-loop-found : goal.invariant-loop-found
invariant-loop-found g l = Standing l.s l.at l.place l.accepted × OnOk l.written (Telling l.s l.at l.place l.accepted (g.W.Write.contents l.initial.out) (g.W.Write.contents l.out))

abbrev pub decreases-loop-found : goal.decreases-loop-found
decreases-loop-found g l = length l.s - l.at
