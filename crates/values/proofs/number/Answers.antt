-- Each digit goes on with the number read so far.
use Rattle.std.proofs.Common.{◌∙◌}
use Rattle.values.specs.Laws.ValuesLaws.{num_end, num_stop, num_on}
use Rattle.values.proofs.number.Goals as goal

pub returns-in_err-one_more : goal.returns-in_err-one_more
returns-in_err-one_more c = c.from_residual.ensures ∙ num_stop _ _ _ c.loop-b.invariant _ _ c.in-Some.ensures.steps _ c.one_more.ensures c.in_err-one_more.was

pub loop-b-preserved : goal.loop-b-preserved
loop-b-preserved c = num_on _ _ _ c.loop-b.invariant _ _ c.in-Some.ensures.steps _ c.one_more.ensures _ c.in_ok-one_more.was

pub returns : goal.returns
returns c = num_end _ _ _ c.loop-b.invariant c.in-None.ensures.steps.0
