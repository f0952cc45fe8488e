-- Letters as they are written: "UNT" stands for the bytes 85 78 84. A value is compared with letters, or with another value, byte by byte.
use Rattle.std.specs.Prelude.{ℕ, Bool, true, false, List, [], ◌∷◌, eqb}
use Prim.Native.Char.{code}
use Prim.Native.String.{String, [] as end, ◌∷◌ as ◌before◌}
use Rattle.service.specs.Tests.{if}

-- the bytes of letters
unfoldable pub text : String → List ℕ
text end = []
text (c before w) = code c ∷ text w

-- whether two values are the same
unfoldable pub same_list : List ℕ → List ℕ → Bool
same_list [] [] = true
same_list [] (y ∷ ys) = false
same_list (x ∷ xs) [] = false
same_list (x ∷ xs) (y ∷ ys) = if (eqb x y) (same_list xs ys) false

-- whether a value is these letters
abbrev pub says : List ℕ → String → Bool
says l w = same_list l (text w)
