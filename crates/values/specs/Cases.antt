-- Rows 1 to 8 of document 01, "Cases", and the row that W-202 of document 02 adds, each as a statement of its own.
use Rattle.std.specs.Prelude.{ℕ, ◌+◌, ◌≡◌, [], ◌∷◌, false}
use Prim.Native.String.{String}
use Rattle.service.specs.Service.{plain_service}
use Rattle.segments.specs.declared.Piece.TheVariants.{Finished as finished}
use Rattle.segments.specs.SegmentList.{segments_from}
use Rattle.parts.specs.Parts.{lex, elements}
use Rattle.values.specs.Amounts.{AmountIs}
use Rattle.values.specs.Text.{text}

-- a segment's one value; an amount, and an amount that is refused
abbrev pub OneValue : String → String → Type 0
OneValue s x = elements (lex plain_service false (text s)) ≡ (text x ∷ []) ∷ []

abbrev pub Is : String → ℕ → Type 0
Is s n = AmountIs (text s) n

abbrev pub Refused : String → Type 0
Refused s = (n : ℕ) → Is s n → ⊥

-- `A?'B` is the value A'B
abbrev pub Row1 : Type 0
Row1 = OneValue "A?'B" "A'B"

-- `??'` is the value ? and an end
abbrev pub Row2 : Type 0
Row2 = OneValue "??'" "?" × (segments_from plain_service (text "??'") 0 ≡ finished 0 2 ∷ [])

-- `23800,3` is 23,800,300
abbrev pub Row3 : Type 0
Row3 = Is "23800,3" 23800300

-- `1500.5` is 1,500,500
abbrev pub Row4 : Type 0
Row4 = Is "1500.5" 1500500

-- `1.500` is 1,500
abbrev pub Row5 : Type 0
Row5 = Is "1.500" 1500

-- `1.234,5`, `2,` and `007` are refused ("Case 6 loses `,5`": W-202)
abbrev pub Row6 : Type 0
Row6 = Refused "1.234,5" × Refused "2," × Refused "007"

-- `999999999999,999` is 999,999,999,999,999; `1000000000000` is refused
abbrev pub Row7 : Type 0
Row7 = Is "999999999999,999" 999999999999999 × Refused "1000000000000"

-- 0,1 and 0,2 sum to 300, as 0,3
abbrev pub Row8 : Type 0
Row8 = (a b : ℕ) → Is "0,1" a → Is "0,2" b → (a + b ≡ 300) × Is "0,3" (a + b)

-- "`,5` is 500 thousandths. A mark with nothing after it stays refused.": W-202; either mark, and nothing at all
abbrev pub Row13 : Type 0
Row13 = Is ",5" 500 × Is ".5" 500 × Refused "," × Refused "." × Refused "5," × Refused ""

-- the nine rows
pub record Cases : Type 0 where
  pub one : Row1
  pub two : Row2
  pub three : Row3
  pub four : Row4
  pub five : Row5
  pub six : Row6
  pub seven : Row7
  pub eight : Row8
  pub thirteen : Row13
