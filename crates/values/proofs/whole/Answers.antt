-- A mark ends the whole part, and so does a byte that is no digit.
use Rattle.std.proofs.Common.{◌∙◌, ap}
use Rattle.values.specs.Forms.Values.{part_of}
use Rattle.values.specs.Laws.AmountLaws.{unwrapped, unit_mark, unit_other}
use Rattle.values.proofs.whole.Goals as goal

pub returns-then-is_mark : goal.returns-then-is_mark
returns-then-is_mark c = unit_mark _ _ _ c.loop-b.invariant _ _ c.in-Some.ensures.steps _ c.is_mark.ensures c.if-is_mark.true _ (unwrapped c.loop-b.units _ c.unwrap_or.ensures)

pub returns-in_err-one_more : goal.returns-in_err-one_more
returns-in_err-one_more c = ap part_of c.from_residual.ensures ∙ unit_other _ _ _ c.loop-b.invariant _ _ c.in-Some.ensures.steps _ c.is_mark.ensures c.if-is_mark.false _ c.one_more.ensures c.in_err-one_more.was
