use Rattle.rewrite.specs.Laws.PutsLaws.{byte_released, byte_plain}
use Rattle.std.proofs.Common.{rules}
use Rattle.rewrite.proofs.put_value_byte.Goals as goal

pub returns-then-is_released : goal.returns-then-is_released
returns-then-is_released c = search (byte_released, byte_plain, rules)

pub returns : goal.returns
returns c = search (byte_released, byte_plain, rules)
