-- The bytes that a reader of a value has left.
use Rattle.std.specs.Prelude.{ℕ, List}
use Rattle.values.specs.declared.Value.{Value}
use Rattle.values.specs.Numbers.{value_from}

abbrev pub value_left : Value → List ℕ
value_left r = value_from r.text.service r.at r.text.bytes.now
