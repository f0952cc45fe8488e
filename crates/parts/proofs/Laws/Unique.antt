-- What is one of the positions that `element`, `component_of` and `component` give. A segment's end may be given by any position from which no
-- token is read, and an absent component by any position where the value is empty, so the position itself is not one: the tokens from it are, for
-- an element, and the value there, for a component. Assumes nothing.
use Rattle.std.specs.Prelude.{ℕ, ◌≡◌, List, false, drop}
use Rattle.service.specs.declared.Service.{Service}
use Rattle.service.specs.Laws.Unique.{only}
use Rattle.parts.specs.Parts.{lex, value_of, elements, value_at}

module _ (v : Service) (s : List ℕ) (at e c r r' : ℕ) where
  pub only_component :
      value_of (lex v false (drop r s)) ≡ value_at (elements (lex v false (drop at s))) e c
      → value_of (lex v false (drop r' s)) ≡ value_at (elements (lex v false (drop at s))) e c
      → value_of (lex v false (drop r s)) ≡ value_of (lex v false (drop r' s))
  only_component = only
