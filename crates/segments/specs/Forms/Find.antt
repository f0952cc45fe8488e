-- The first byte of a kind.
use Rattle.std.specs.Prelude.{ℕ, suc, List, [], ◌∷◌, eqb}
use Rattle.service.specs.Tests.{if}

-- the index of the first byte that is x, or past the last byte where none is; the first byte stands at i
unfoldable pub first_of : ℕ → ℕ → List ℕ → ℕ
first_of x i [] = i
first_of x i (b ∷ l) = if (eqb b x) i (first_of x (suc i) l)
