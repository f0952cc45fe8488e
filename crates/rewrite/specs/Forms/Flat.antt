-- Plain bytes token by token, as the loops write them: separators wait until a byte of a value follows.
use Rattle.std.specs.Prelude.{ℕ, suc, List, [], ◌∷◌, ◌++◌, Bool, false, replicate}
use Rattle.service.specs.Tests.{if}
use Rattle.segments.specs.Classes.{is_break}
use Rattle.parts.specs.Parts.{Tok, byte, comp, elem}
use Rattle.rewrite.specs.Plain.{plain_byte}

-- the tokens, where e element separators and then c component separators wait
unfoldable pub flat : ℕ → ℕ → List Tok → List ℕ
flat e c [] = []
flat e c (byte b ∷ t) = replicate e 43 ++ (replicate c 58 ++ (plain_byte b ++ flat 0 0 t))
flat e c (comp ∷ t) = flat e (suc c) t
flat e c (elem ∷ t) = flat (suc e) 0 t

-- whether the tokens begin with a CR or LF, and the release before it
abbrev pub leads : List Tok → Bool
leads [] = false
leads (byte b ∷ t) = is_break b
leads (comp ∷ t) = false
leads (elem ∷ t) = false

abbrev pub lead : List Tok → List ℕ
lead t = if (leads t) (63 ∷ []) []
