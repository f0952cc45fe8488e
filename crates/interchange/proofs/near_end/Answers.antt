use Rattle.std.proofs.Common.{arith}
use Rattle.interchange.specs.Laws.NearLaws.{near}
use Rattle.interchange.proofs.near_end.Goals as goal

pub returns-then-next-text : goal.returns-then-next-text
returns-then-next-text c = near _ _ _ _ (omega (arith, c.ranges.text.0, c.saturating_add-i-start.ensures, c.loop-i.auto.i, c.loop-i-test.true)) (omega (arith, c.loop-i.auto.i, c.loop-i-test.true)) c.if-text-i.true c.if-text-i-2.true _ c.skip_breaks-next.ensures c.if-next-text.true
