-- Each segment adds what the definition says.
use Rattle.std.proofs.Common.{◌∙◌, ap, ◌∷◌}
use Rattle.segments.specs.Left.{segments_left}
use Rattle.rewrite.specs.Laws.LengthLaws.{summed_start, sum_unfinished, sum_nothing, sum_next}
use Rattle.rewrite.proofs.total_length.Goals as goal

pub loop-piece-init : goal.loop-piece-init
loop-piece-init c = rw (c.into_iter-piece-iterator.ensures.into_iter_gives, c.segments-piece-items.ensures.left) (summed_start _ _ _)

pub loop-piece-preserved-in-Finished : goal.loop-piece-preserved-in-Finished
loop-piece-preserved-in-Finished c =
    sum_next _ _ _ _ _ c.loop-piece.invariant _ _ _ (c.in-Some.ensures.steps.yields ∙ ap (λ p. p ∷ segments_left c.next.new.self) c.in-Finished.is) _ c.plain_length.ensures.upper_bound
    c.plain_length.ensures.value

pub loop-piece-preserved : goal.loop-piece-preserved
loop-piece-preserved c =
    sum_unfinished _ _ _ _ _ c.loop-piece.invariant _ _ _ (c.in-Some.ensures.steps.yields ∙ ap (λ p. p ∷ segments_left c.next.new.self) c.in_default.is)

pub returns : goal.returns
returns c = sum_nothing _ _ _ _ _ c.loop-piece.invariant c.in-None.ensures.steps.yields.0
