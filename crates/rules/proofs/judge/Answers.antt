use Rattle.std.proofs.Common.{◌∙◌}
use Rattle.message.specs.Rules.{paymul_of}
use Rattle.message.specs.Placed.{placed_on}
use Rattle.rule.proofs.Told.{told_first}
use Rattle.rules.proofs.Rising.{rising}
use Rattle.rules.proofs.judge.Goals as goal

pub returns : goal.returns
returns c =
    let segs = placed_on c.args.t.now c.args.text.service c.args.text.bytes.now in
    c.judge.ensures ∙ told_first (paymul_of c.args.segments c.args.orders segs) (rising c.args.segments c.args.orders segs)
