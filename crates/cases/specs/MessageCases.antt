-- Rows 9 to 11 of document 01, "Cases", and the row of W-202, each as two whole messages: one that holds, and one that is refused.
use Rattle.std.specs.Prelude.{ℕ, ◌≡◌, List, [], ◌∷◌, ◌++◌}
use Prim.Native.String.{String}
use Rattle.service.specs.Service.{plain_service}
use Rattle.chart.specs.Chart.{Reading}
use Rattle.chart.specs.Tags.{tags_of}
use Rattle.kinds.specs.declared.Kind.{Kind}
use Rattle.kinds.specs.declared.Kind.TheVariants.{Paymul}
use Rattle.message.specs.Kinds.{chart_for}
use Rattle.values.specs.Text.{text}
use Rattle.lent.specs.Lists.{Lists}
use Rattle.lent.specs.Over.{over}
use Rattle.report.specs.Answers.{Report}
use Rattle.report.specs.Reported.{Room, room_of, Of, Applies, Lowest, Reported}

-- lists that are long enough
abbrev pub room : Room
room = record { rows = 30; starts = 30; totals = 2 }

-- the message is of the kind and placed, and in lists of this room no number applies to it
pub record Holds (k : Kind) (x : Room) (m : List ℕ) : Type 0 where
  pub of : Of k plain_service m
  pub rows : List ℕ
  pub reading : Reading (chart_for k) (tags_of plain_service m) rows
  pub free : (n s : ℕ) → Applies plain_service m x n s → ⊥

-- the number that is given for the message, and the segment
abbrev pub Gives : Room → List ℕ → ℕ → ℕ → Type 0
Gives x m n s = Lowest plain_service m x n s

-- the totals that the check of the message leaves at the front of their list
abbrev pub Totals : List ℕ → List ℕ → Type 0
Totals m l = (x x' : Lists) (y : Report) → room_of x ≡ room → Reported plain_service m x x' y → x'.totals ≡ over l x.totals

-- segments one after the other
unfoldable pub joined : List String → List ℕ
joined [] = []
joined (w ∷ l) = text w ++ joined l

-- `CUX+2:EUR+3:USD'` with 57 under SG5, whose MOA is this, as is that of SG11
abbrev pub exchange : String → List ℕ
exchange moa =
    joined ("UNH+1+PAYMUL:D:96A:UN'" ∷ "BGM+452+1+9'" ∷ "DTM+137:20020107:102'" ∷ "LIN+1'" ∷ "DTM+203:20020108:102'" ∷ "RFF+AEK:1'" ∷ moa ∷ "CUX+2:EUR+3:USD'"
    ∷ "FII+OR+1:A'" ∷ "SEQ++1'" ∷ moa ∷ "RFF+CR:1'" ∷ "NAD+BE+++B'" ∷ "CNT+2:1'" ∷ "UNT+15+1'" ∷ [])

-- "`CUX+2:EUR+3:USD'` with 57 under SG5 in EUR holds; under USD it gives 25": at the CUX
abbrev pub Row9 : Type 0
Row9 = Holds Paymul room (exchange "MOA+57:100:EUR'") × Gives room (exchange "MOA+57:100:USD'") 25 8

-- OR unnamed, with this NAD of level B
abbrev pub unnamed : String → List ℕ
unnamed nad =
    joined ("UNH+1+PAYMUL:D:96A:UN'" ∷ "BGM+452+1+9'" ∷ "DTM+137:20020107:102'" ∷ "LIN+1'" ∷ "DTM+203:20020108:102'" ∷ "RFF+AEK:1'" ∷ "MOA+9:100:EUR'" ∷ "FII+OR+1'" ∷ nad
    ∷ "SEQ++1'" ∷ "MOA+9:100:EUR'" ∷ "RFF+CR:1'" ∷ "NAD+BE+++B'" ∷ "CNT+2:1'" ∷ "UNT+15+1'" ∷ [])

-- "OR unnamed with PL holds; OR unnamed with OY gives 27": at the LIN
abbrev pub Row10 : Type 0
Row10 = Holds Paymul room (unnamed "NAD+PL+++A'") × Gives room (unnamed "NAD+OY+++A'") 27 4

-- SEQ 1 and 2, and then this SEQ under a new LIN
abbrev pub counted : String → List ℕ
counted seq =
    joined ("UNH+1+PAYMUL:D:96A:UN'" ∷ "BGM+452+1+9'" ∷ "DTM+137:20020107:102'"
    ∷ "LIN+1'" ∷ "DTM+203:20020108:102'" ∷ "RFF+AEK:1'" ∷ "MOA+9:200:EUR'" ∷ "FII+OR+1:A'"
    ∷ "SEQ++1'" ∷ "MOA+9:100:EUR'" ∷ "RFF+CR:1'" ∷ "NAD+BE+++B'" ∷ "SEQ++2'" ∷ "MOA+9:100:EUR'" ∷ "RFF+CR:2'" ∷ "NAD+BE+++B'"
    ∷ "LIN+2'" ∷ "DTM+203:20020108:102'" ∷ "RFF+AEK:2'" ∷ "MOA+9:100:EUR'" ∷ "FII+OR+1:A'"
    ∷ seq ∷ "MOA+9:100:EUR'" ∷ "RFF+CR:3'" ∷ "NAD+BE+++B'" ∷ "CNT+2:2'" ∷ "UNT+27+1'" ∷ [])

-- "SEQ 1, 2 and then 1 under a new LIN holds; 3 there gives 21": at that SEQ
abbrev pub Row11 : Type 0
Row11 = Holds Paymul room (counted "SEQ++1'") × Gives room (counted "SEQ++3'") 21 22

-- "`,5` is 500 thousandths. A mark with nothing after it stays refused.", as the amount of an order and of its payment: its total is 500; `5,` gives 22, at the SG5 MOA
abbrev pub Row13 : Type 0
Row13 =
    Holds Paymul room (exchange "MOA+57:,5:EUR'")
    × Totals (exchange "MOA+57:,5:EUR'") (500 ∷ [])
    × Gives room (exchange "MOA+57:5,:EUR'") 22 7
