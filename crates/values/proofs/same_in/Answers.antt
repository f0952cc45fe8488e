-- The two readers yield the bytes of the two values.
use Rattle.values.specs.Laws.ValuesLaws.{same_is}
use Rattle.values.proofs.same_in.Goals as goal

pub returns : goal.returns
returns c = same_is c.value_in.result c.value_in-2.result _ _ c.eq.result c.value_in.ensures c.value_in-2.ensures c.eq.ensures.ran
