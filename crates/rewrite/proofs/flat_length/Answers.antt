-- Each token adds what the definition says.
use Rattle.std.proofs.Common.{◌∙◌, ap, ◌∷◌}
use Rattle.parts.specs.Tokens.{tok, tokens_left}
use Rattle.rewrite.specs.Laws.LengthLaws.{counted_start, count_width, count_byte, count_comp, count_elem, count_stop}
use Rattle.rewrite.proofs.flat_length.Goals as goal

pub loop-part-init : goal.loop-part-init
loop-part-init c = rw c.into_iter-part-iterator.ensures.into_iter_gives (counted_start _ _ _ c.requires)

pub overflow_add-n-in-Byte-2 : goal.overflow_add-n-in-Byte-2
overflow_add-n-in-Byte-2 c = count_width _ _ _ _ _ c.loop-part.invariant _ _ c.width.ensures

pub loop-part-preserved-in-Byte : goal.loop-part-preserved-in-Byte
loop-part-preserved-in-Byte c =
    count_byte _ _ _ _ _ c.loop-part.invariant _ _ (c.in-Some.ensures.steps ∙ ap (λ p. tok p ∷ tokens_left c.next.new.self) c.in-Byte.is) _ c.width.ensures

pub loop-part-preserved-in-Comp : goal.loop-part-preserved-in-Comp
loop-part-preserved-in-Comp c =
    count_comp _ _ _ _ _ c.loop-part.invariant _ (c.in-Some.ensures.steps ∙ ap (λ p. tok p ∷ tokens_left c.next.new.self) c.in-Comp.is)

pub loop-part-preserved : goal.loop-part-preserved
loop-part-preserved c =
    count_elem _ _ _ _ _ c.loop-part.invariant _ (c.in-Some.ensures.steps ∙ ap (λ p. tok p ∷ tokens_left c.next.new.self) c.in-Elem.is)

pub returns-clause-value : goal.returns-clause-value
returns-clause-value c = count_stop _ _ _ _ _ c.loop-part.invariant c.in-None.ensures.steps.0
