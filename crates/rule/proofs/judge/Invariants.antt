-- judge: what its loop keeps.
use Rattle.std.proofs.Common.{◌≡◌}
use Rattle.message.specs.Placed.{placed_on}
use Rattle.rule.specs.Left.{places_left}
use Rattle.rule.proofs.Passed.{Going}
use Rattle.rule.proofs.judge.Given as goal

abbrev pub invariant-loop-place : goal.invariant-loop-place
invariant-loop-place g l =
    Going (g.R.Rule.After l.text.service l.text.bytes.now l.counts) (placed_on l.t l.text.service l.text.bytes.now) (places_left l.place-iterator) l.rules × (l.place-iterator.text ≡ l.text)
