-- Each segment passed counts one, until the next one begins behind the byte.
use Rattle.std.proofs.Common.{ap, ◌∙◌, ◌∷◌}
use Rattle.segments.specs.Left.{segments_left}
use Rattle.tally.specs.Laws.PlacesLaws.{passing_start, passed_here, passed_on, passed_end, passed_unfinished}
use Rattle.tally.proofs.segments_before.Goals as goal

pub loop-piece-init : goal.loop-piece-init
loop-piece-init c =
    let e = c.segments-segments.ensures in
    passing_start _ _ _ _ (ap (λ z. z.service) e.text) (ap (λ z. z.bytes.now) e.text) e.at

pub returns-then-at-segments : goal.returns-then-at-segments
returns-then-at-segments c =
    passed_here _ _ _ _ _ _ _ c.loop-piece.invariant _ _ (rw c.in-Finished.is at c.in-Some.ensures.steps) c.if-at-segments.true

pub loop-piece-preserved : goal.loop-piece-preserved
loop-piece-preserved c =
    passed_on _ _ _ _ _ _ _ c.loop-piece.invariant _ _ (rw c.in-Finished.is at c.in-Some.ensures.steps) c.if-at-segments.false

pub returns-in-Unfinished : goal.returns-in-Unfinished
returns-in-Unfinished c =
    passed_unfinished _ _ _ _ _ _ c.next.new.self c.loop-piece.invariant _ _
    (c.in-Some.ensures.steps.yields ∙ ap (λ p. p ∷ segments_left c.next.new.self) c.in-Unfinished.is)

pub returns : goal.returns
returns c = passed_end _ _ _ _ _ _ c.next.new.self c.loop-piece.invariant (rw c.in_default.is at c.next.ensures.steps).yields.0
