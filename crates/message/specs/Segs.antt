-- A placed message: its segments, each with its row and its values. An order is the stretch from a LIN to the next, a payment from a SEQ to the next.
use Rattle.std.specs.Prelude.{ℕ, suc, List, [], ◌∷◌, ◌++◌, Bool, ◌||◌, eqb}
use Prim.Native.String.{String}
use Rattle.service.specs.declared.Service.{Service}
use Rattle.service.specs.Tests.{if}
use Rattle.values.specs.Numbers.{value_in}
use Rattle.segments.specs.SegmentList.{starts_of}

-- a segment: "UNH is 1"; its row of the chart; the value of a component of an element
pub record Seg : Type 0 where
  pub nth : ℕ
  pub row : ℕ
  pub value : ℕ → ℕ → List ℕ

-- the segment that begins at byte i
abbrev pub seg_at : Service → List ℕ → ℕ → ℕ → ℕ → Seg
seg_at v m n r i = record { nth = n; row = r; value = value_in v i m }

-- the segments from the nth on, by their rows and by where they begin
unfoldable pub segs_from : Service → List ℕ → ℕ → List ℕ → List ℕ → List Seg
segs_from v m n [] is = []
segs_from v m n (r ∷ rs) [] = []
segs_from v m n (r ∷ rs) (i ∷ is) = seg_at v m n r i ∷ segs_from v m (suc n) rs is

-- the message's segments at the rows of a placement
abbrev pub segs_of : Service → List ℕ → List ℕ → List Seg
segs_of v m rows = segs_from v m 1 rows (starts_of v m)

-- the segments that pass a test
unfoldable pub those : (Seg → Bool) → List Seg → List Seg
those t [] = []
those t (s ∷ ss) = if (t s) (s ∷ those t ss) (those t ss)

-- the segments before the first that passes a test
unfoldable pub until : (Seg → Bool) → List Seg → List Seg
until t [] = []
until t (s ∷ ss) = if (t s) [] (s ∷ until t ss)

-- a segment, and what follows it up to the next that ends the stretch
pub record Stretch : Type 0 where
  pub head : Seg
  pub body : List Seg

unfoldable pub stretches : (Seg → Bool) → (Seg → Bool) → List Seg → List Stretch
stretches opens ends [] = []
stretches opens ends (s ∷ ss) =
    if (opens s) (record { head = s; body = until ends ss } ∷ stretches opens ends ss) (stretches opens ends ss)

-- what each stretch gives, one after the other
unfoldable pub each : (Stretch → List ℕ) → List Stretch → List ℕ
each f [] = []
each f (t ∷ ts) = f t ++ each f ts

-- the rows of PAYMUL that rules speak of, by tag and group: MOA5 is the MOA of SG5
pub data Name : Type 0 where
  UNH LIN MOA5 CUX5 FII6 NAD7 PRC10 SEQ MOA11 FII12 NAD13 PRC16 FTX16 DOC17 CNT UNT : Name

-- the tag, and the group in which it stands directly: 4 is SG4, 0 the message
abbrev pub tag_and_group : Name → String × ℕ
tag_and_group UNH = ("UNH", 0)
tag_and_group LIN = ("LIN", 4)
tag_and_group MOA5 = ("MOA", 5)
tag_and_group CUX5 = ("CUX", 5)
tag_and_group FII6 = ("FII", 6)
tag_and_group NAD7 = ("NAD", 7)
tag_and_group PRC10 = ("PRC", 10)
tag_and_group SEQ = ("SEQ", 11)
tag_and_group MOA11 = ("MOA", 11)
tag_and_group FII12 = ("FII", 12)
tag_and_group NAD13 = ("NAD", 13)
tag_and_group PRC16 = ("PRC", 16)
tag_and_group FTX16 = ("FTX", 16)
tag_and_group DOC17 = ("DOC", 17)
tag_and_group CNT = ("CNT", 0)
tag_and_group UNT = ("UNT", 0)

-- the row's number: `rows_named` of RowLaws, computed over the table, has that this row and no other is a segment of that tag in that group
abbrev pub row_of : Name → ℕ
row_of UNH = 1
row_of LIN = 17
row_of MOA5 = 23
row_of CUX5 = 24
row_of FII6 = 28
row_of NAD7 = 32
row_of PRC10 = 47
row_of SEQ = 50
row_of MOA11 = 51
row_of FII12 = 57
row_of NAD13 = 61
row_of PRC16 = 76
row_of FTX16 = 77
row_of DOC17 = 79
row_of CNT = 108
row_of UNT = 112

-- whether a segment stands at a row of its chart
abbrev pub on_row : ℕ → Seg → Bool
on_row r s = eqb s.row r

abbrev pub is : Name → Seg → Bool
is n = on_row (row_of n)

-- an order: from its LIN to the next
abbrev pub orders : List Seg → List Stretch
orders = stretches (is LIN) (is LIN)

-- a payment: from its SEQ to the next one or to the next LIN
abbrev pub payments : List Seg → List Stretch
payments = stretches (is SEQ) (λ s. is LIN s || is SEQ s)

-- the amounts of an order: from its SG5 MOA, which the chart puts before its payments, to the next LIN
abbrev pub amounts : List Seg → List Stretch
amounts = stretches (is MOA5) (λ s. is LIN s || is MOA5 s)

-- the details of a payment: from the PRC of its SG16 to the next such PRC, SEQ or LIN
abbrev pub details : List Seg → List Stretch
details = stretches (is PRC16) (λ s. is LIN s || is SEQ s || is PRC16 s)
