-- Tokens by their position, and the tokens from an element or a component on, as the loops find them.
use Rattle.std.specs.Prelude.{ℕ, suc, zero, List, [], ◌∷◌}
use Rattle.service.specs.declared.Service.{Service}
use Rattle.segments.specs.declared.Class.{Class}
use Rattle.segments.specs.declared.Class.TheVariants.{Plain, Comp, Elem, Rel, Term}
use Rattle.segments.specs.Classes.{class_of}
use Rattle.parts.specs.declared.Token.{Token}
use Rattle.parts.specs.declared.Token.TheVariants as token
use Rattle.parts.specs.Parts.{Tok, byte, comp, elem}

-- the token at i, where the bytes from i on are given, and where the next one begins
abbrev pub token_rel : ℕ → List ℕ → Token
token_rel n [] = token.Stop
token_rel n (b ∷ s) = token.Byte b (suc n)

abbrev pub token_by : Class → ℕ → ℕ → List ℕ → Token
token_by Plain b n s = token.Byte b n
token_by Comp b n s = token.Comp n
token_by Elem b n s = token.Elem n
token_by Rel b n s = token_rel n s
token_by Term b n s = token.Stop

unfoldable pub token_at : Service → ℕ → List ℕ → Token
token_at v i [] = token.Stop
token_at v i (b ∷ s) = token_by (class_of v b) b (suc i) s

-- the tokens from element e on, and from component c of the first element on: none where there is no such
unfoldable pub elem_at : ℕ → List Tok → List Tok
elem_at zero t = t
elem_at (suc e) [] = []
elem_at (suc e) (byte b ∷ t) = elem_at (suc e) t
elem_at (suc e) (comp ∷ t) = elem_at (suc e) t
elem_at (suc e) (elem ∷ t) = elem_at e t

unfoldable pub comp_at : ℕ → List Tok → List Tok
comp_at zero t = t
comp_at (suc c) [] = []
comp_at (suc c) (byte b ∷ t) = comp_at (suc c) t
comp_at (suc c) (comp ∷ t) = comp_at c t
comp_at (suc c) (elem ∷ t) = []
