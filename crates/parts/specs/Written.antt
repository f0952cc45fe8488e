-- How bytes write tokens, and which bytes of a text or of values are strange: what the theorems of `ReleaseLaws` speak of.
use Rattle.std.specs.Prelude.{ℕ, suc, ◌≡◌, List, [], ◌∷◌}
use Rattle.service.specs.declared.Service.{Service}
use Rattle.segments.specs.declared.Class.TheVariants.{Plain, Comp, Elem, Rel}
use Rattle.segments.specs.Classes.{class_of}
use Rattle.parts.specs.Parts.{Tok, byte, comp, elem, is_strange, keep}

-- bytes that write tokens: each byte of a value as it is or released
pub data Writes (v : Service) : List Tok → List ℕ → Type 0 where
  none : Writes v [] []
  as_is : (b : ℕ) (t : List Tok) (s : List ℕ) → class_of v b ≡ Plain → Writes v t s → Writes v (byte b ∷ t) (b ∷ s)
  behind : (r b : ℕ) (t : List Tok) (s : List ℕ) → class_of v r ≡ Rel → Writes v t s → Writes v (byte b ∷ t) (r ∷ b ∷ s)
  component : (b : ℕ) (t : List Tok) (s : List ℕ) → class_of v b ≡ Comp → Writes v t s → Writes v (comp ∷ t) (b ∷ s)
  element : (b : ℕ) (t : List Tok) (s : List ℕ) → class_of v b ≡ Elem → Writes v t s → Writes v (elem ∷ t) (b ∷ s)

-- strange bytes: outside 0x20..0x7E and 0xA0..0xFF. Those of a list of bytes; and their places, the first byte standing at i
unfoldable pub strange_of : List ℕ → List ℕ
strange_of [] = []
strange_of (b ∷ l) = keep (is_strange b) b (strange_of l)

unfoldable pub strange_places : ℕ → List ℕ → List ℕ
strange_places i [] = []
strange_places i (b ∷ l) = keep (is_strange b) i (strange_places (suc i) l)

-- the bytes of values among tokens
unfoldable pub bytes_of : List Tok → List ℕ
bytes_of [] = []
bytes_of (byte b ∷ t) = b ∷ bytes_of t
bytes_of (comp ∷ t) = bytes_of t
bytes_of (elem ∷ t) = bytes_of t
