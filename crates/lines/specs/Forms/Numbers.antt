-- Numbers as a line has them.
use Rattle.std.specs.Prelude.{ℕ, List, [], ◌∷◌, ◌++◌}
use Rattle.values.specs.Text.{text}
use Rattle.lines.specs.Lines.{decimal}

-- numbers, each behind a space
unfoldable pub numbers : List ℕ → List ℕ
numbers [] = []
numbers (n ∷ l) = text " " ++ decimal n ++ numbers l
