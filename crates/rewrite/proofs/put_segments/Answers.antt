use Rattle.rewrite.specs.Laws.WriteLaws.{segments_nothing}
use Rattle.rewrite.proofs.put_segments.Goals as goal

pub returns : goal.returns
returns c = segments_nothing _ _ _ _ _ _ _ _ c.loop-piece.invariant c.in-None.ensures.steps.yields.0
