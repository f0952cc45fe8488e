-- A step passes the state on, and at the end it is what it is after all segments.
use Rattle.std.proofs.Common.{ap, ◌∙◌, ◌∷◌}
use Rattle.segments.specs.declared.Text.{Text}
use Rattle.message.specs.Segs.{seg_at}
use Rattle.rule.specs.declared.placed.Places.{Places}
use Rattle.rule.specs.Left.{places_left}
use Rattle.rule.proofs.Passed.{going_first, going_next, going_end}
use Rattle.rule.proofs.judge.Goals as goal

pub loop-place-init : goal.loop-place-init
loop-place-init g c =
    let t = c.args.text in
    let e = c.into_iter-place-iterator.ensures.into_iter_gives in (
      going_first (g.R.Rule.After t.service t.bytes.now c.args.counts) _ _ _ (ap places_left e ∙ c.new-place-items.ensures.left)
          (rw c.start-rules.ensures (g.met.R.Rule.begun t.service t.bytes.now c.args.counts)),
      ap (λ (p : Places). p.text) e ∙ c.new-place-items.ensures.text,
    )

pub loop-place-preserved : goal.loop-place-preserved
loop-place-preserved g c =
    let t = c.args.text in
    let e = c.loop-place.invariant.1 in
    let p = c.in-Some.place in
    let y = c.in-Some.ensures.steps.yields ∙ ap (λ (x : Text). seg_at x.service x.bytes.now p.nth p.row p.at ∷ places_left c.next.new.self) e in (
      going_next (g.R.Rule.After t.service t.bytes.now c.args.counts) _ _ _ c.loop-place.invariant.0 _ _ y _ (λ ss h. g.met.R.Rule.gone_on t.service t.bytes.now c.args.counts _ ss _ _ h c.step.ensures),
      c.in-Some.ensures.steps.same ∙ e,
    )

pub returns : goal.returns
returns g c =
    let t = c.args.text in
    c.refusal.ensures _ c.args.counts (going_end (g.R.Rule.After t.service t.bytes.now c.args.counts) _ _ _ c.loop-place.invariant.0 c.in-None.ensures.steps.yields.0)
