-- Each token is put as the definition says.
use Rattle.std.proofs.Common.{◌∙◌, ap, ◌∷◌}
use Rattle.parts.specs.Tokens.{tok, tokens_left}
use Rattle.rewrite.specs.Laws.WriteLaws.{flow_start, flow_byte, flow_stop}
use Rattle.rewrite.proofs.put_flat.Goals as goal

pub loop-part-init : goal.loop-part-init
loop-part-init c = rw c.into_iter-part-iterator.ensures.into_iter_gives (flow_start _ _ _ _ _)

pub loop-part-preserved-in-Byte : goal.loop-part-preserved-in-Byte
loop-part-preserved-in-Byte c =
    flow_byte _ _ _ _ _ _ _ _ _ c.loop-part.invariant _ _ (c.in-Some.ensures.steps ∙ ap (λ p. tok p ∷ tokens_left c.next.new.self) c.in-Byte.is)
    _ _ _ _ _ _ c.put_times-j.ensures c.put_times-j-in-Byte.ensures c.put_value_byte-j.ensures

pub returns : goal.returns
returns c = flow_stop _ _ _ _ _ _ _ _ _ c.loop-part.invariant c.in-None.ensures.steps.0
