-- Each segment adds what the definition says.
use Rattle.std.proofs.Common.{◌∙◌, ap, ◌∷◌}
use Rattle.segments.specs.Left.{segments_left}
use Rattle.tally.specs.Laws.FewLaws.{few_start, few_finished, few_unfinished}
use Rattle.tally.specs.Laws.TalliedLaws.{tally_start, tally_end, tally_finished, tally_unfinished}
use Rattle.tally.proofs.tally_of.Goals as goal

pub loop-piece-init : goal.loop-piece-init
loop-piece-init c = rw (c.into_iter-piece-iterator.ensures.into_iter_gives, c.segments-piece-items.ensures.left) (tally_start _ _, few_start _ _)

pub loop-piece-preserved-in-Finished : goal.loop-piece-preserved-in-Finished
loop-piece-preserved-in-Finished c =
    let e = c.in-Some.ensures.steps.yields ∙ ap (λ p. p ∷ segments_left c.next.new.self) c.in-Finished.is in (
      tally_finished _ _ _ _ _ c.loop-piece.invariant.0 _ _ _ _ e _ c.code_at-tag.ensures c.count-t.ensures,
      few_finished _ _ _ _ c.loop-piece.invariant.1 _ e _ _ _ _ _ c.count-t.ensures,
    )

pub loop-piece-preserved : goal.loop-piece-preserved
loop-piece-preserved c =
    let e = c.in-Some.ensures.steps.yields ∙ ap (λ p. p ∷ segments_left c.next.new.self) c.in-Unfinished.is in (
      tally_unfinished _ _ _ _ _ c.loop-piece.invariant.0 _ _ _ _ e c.finish-t.ensures,
      few_unfinished _ _ _ _ c.loop-piece.invariant.1 _ e _ _ _ _ c.finish-t.ensures,
    )

pub returns : goal.returns
returns c = tally_end _ _ _ _ _ c.loop-piece.invariant.0 c.in-None.ensures.steps.yields.0
