-- No second answer meets a contract that says what the answer equals. Every contract of `service`, `segments` and `values` is such an equation,
-- and so is that of `parts::token_at`; those of `parts::element`, `parts::component_of` and `parts::component` give a position, and what is one
-- there is said in `parts`. Assumes nothing.
use Rattle.std.specs.Prelude.{◌≡◌}
use Rattle.std.proofs.Common.{sym, ◌∙◌}

pub only : {A : Type 0} {d r r' : A} → r ≡ d → r' ≡ d → r ≡ r'
only p q = p ∙ sym q
