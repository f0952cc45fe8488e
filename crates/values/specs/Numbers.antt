-- Values by their position, and what they say: numbers, three capitals, as document 01, "Rules on a placed message", says.
use Rattle.std.specs.Prelude.{ℕ, ◌+◌, ◌*◌, ◌-◌, ◌^◌, ◌≤◌, ◌<◌, ◌≡◌, List, [], ◌∷◌, false, length, get_or, drop}
use Rattle.service.specs.declared.Service.{Service}
use Rattle.parts.specs.Parts.{lex, value_of, elements, value_at}

-- the value that begins at i
abbrev pub value_from : Service → ℕ → List ℕ → List ℕ
value_from v i s = value_of (lex v false (drop i s))

-- the value of component c of element e of the segment that begins at i
abbrev pub value_in : Service → ℕ → List ℕ → ℕ → ℕ → List ℕ
value_in v i s e c = value_at (elements (lex v false (drop i s))) e c

-- "Numbers are digits": each byte is 0 to 9
pub data Digits : List ℕ → Type 0 where
  none : Digits []
  more : (b : ℕ) (l : List ℕ) → 48 ≤ b → b ≤ 57 → Digits l → Digits (b ∷ l)

-- "without leading zeros; 0 alone is allowed"
abbrev pub Unled : List ℕ → Type 0
Unled l = get_or l 0 0 ≡ 48 → length l ≡ 1

-- the number that digits write: each digit times ten for every digit after it
unfoldable pub worth : List ℕ → ℕ
worth [] = 0
worth (b ∷ l) = (b - 48) * 10 ^ length l + worth l

-- "Numbers are digits without leading zeros; 0 alone is allowed."
pub record NumberIs (l : List ℕ) (n : ℕ) : Type 0 where
  pub digit : Digits l
  pub some : 0 < length l
  pub lead : Unled l
  pub value : n ≡ worth l

-- "three capitals": A to Z
pub record ThreeCapitals (l : List ℕ) : Type 0 where
  pub three : length l ≡ 3
  pub capital : (k : ℕ) → k < 3 → (65 ≤ get_or l k 0) × (get_or l k 0 ≤ 90)
