-- "What is given back": the report of one message, by the faults that apply to it and by its reading on the chart.
use Rattle.std.specs.Prelude.{ℕ, suc, zero, ◌+◌, ◌≤◌, ◌<◌, ◌≡◌, ◌⊎◌, List, [], ◌∷◌, ◌++◌, map, Bool, true, false, ◌&&◌, length, get_or, eqb, leb}
use Rattle.numbers.specs.Table.{table_number}
use Rattle.service.specs.declared.Service.{Service}
use Rattle.service.specs.Service.{fitting}
use Rattle.service.specs.Tests.{if, is_empty}
use Rattle.segments.specs.declared.Piece.{Piece}
use Rattle.segments.specs.SegmentList.{start_of, segments_from, starts_of, start_at}
use Rattle.parts.specs.Parts.{strange_in}
use Rattle.values.specs.Text.{says}
use Rattle.values.specs.Numbers.{value_in}
use Rattle.interchange.specs.Answers.{Refusal}
use Rattle.interchange.specs.Messages.{ends_closed}
use Rattle.interchange.specs.Envelope.{is_reference}
use Rattle.lent.specs.Lists.{Lists, lists}
use Rattle.lent.specs.Over.{over}
use Rattle.chart.specs.Chart.{Reading, FirstMisfit}
use Rattle.chart.specs.Tags.{tags_of}
use Rattle.kinds.specs.declared.Kind.{Kind}
use Rattle.kinds.specs.Kinds.{any_kind}
use Rattle.message.specs.Segs.{Seg, segs_of}
use Rattle.message.specs.Kinds.{means, chart_for, rules_for, order_count, payment_count, totals_for}
use Rattle.message.specs.Faults.{rank, Told, told, tell_all}
use Rattle.report.specs.declared.Counts.{Counts}
use Rattle.report.specs.Answers.{Report}
use Rattle.report.specs.Answers.{Accepted, Refused}

-- ---- 1, 2 and 10 to 14, which need no placement
-- a segment as these see it: whether no value byte of it is outside 0x20..0x7E and 0xA0..0xFF, and the value of a component of an element
pub record Raw : Type 0 where
  pub usual : Bool
  pub value : ℕ → ℕ → List ℕ

-- a message as these see it: whether it is short enough, read by fit characters and closed; and its segments
pub record Bare : Type 0 where
  pub short : Bool
  pub fit : Bool
  pub closed : Bool
  pub segments : List Raw

abbrev pub raw_of : Service → List ℕ → Piece → Raw
raw_of v m p = record { usual = is_empty (strange_in v m (start_of p)); value = value_in v (start_of p) m }

abbrev pub bare_of : Service → List ℕ → Bare
bare_of v m = record { short = leb (length m) 1048576; fit = fitting v; closed = ends_closed v m; segments = map (raw_of v m) (segments_from v m 0) }

-- where a rule that speaks of the message as a whole is told, unless it holds
abbrev pub told_unless : Bool → ℕ → List ℕ
told_unless true s = []
told_unless false s = s ∷ []

-- 10: "a value byte outside 0x20..0x7E and 0xA0..0xFF": its segment, the nth the first of these
unfoldable pub rule10 : ℕ → List Raw → List ℕ
rule10 n [] = []
rule10 n (s ∷ l) = told_unless s.usual n ++ rule10 (suc n) l

-- "the type in its UNH", which is the first segment, is that of the kind
unfoldable pub is_kind : Kind → List Raw → Bool
is_kind k [] = false
is_kind k (s ∷ l) = says (s.value 2 0) (means k).type

-- 12: "UNH reference not 1 to 14 bytes, or type, version, release, agency not" that of a kind, "D, 96A, UN"; "number 12 means neither type"
unfoldable pub headed : List Raw → Bool
headed [] = false
headed (s ∷ l) =
    says (s.value 0 0) "UNH" && is_reference (length (s.value 1 0))
    && any_kind (λ k. is_kind k (s ∷ l)) && says (s.value 2 1) "D" && says (s.value 2 2) "96A" && says (s.value 2 3) "UN"

-- the LIN tags among segments: "its tag is the first component's value"
unfoldable pub lines : List Raw → ℕ
lines [] = 0
lines (s ∷ l) = if (says (s.value 0 0) "LIN") (suc (lines l)) (lines l)

-- the totals that are asked for: as many as LIN tags, or none of a kind of which "no totals are written and 14 asks no list of them"
unfoldable pub asked : List Raw → ℕ
asked l = if (any_kind (λ k. is_kind k l && (means k).totals)) (lines l) 0

-- how long lent lists are
pub record Room : Type 0 where
  pub rows : ℕ
  pub starts : ℕ
  pub totals : ℕ

abbrev pub room_of : Lists → Room
room_of x = record { rows = length x.rows; starts = length x.starts; totals = length x.totals }

-- 14: "a list shorter than its need (segments; segments; LIN tags)"
unfoldable pub fits : List Raw → Room → Bool
fits l x = leb (length l) x.rows && leb (length l) x.starts && leb (asked l) x.totals

-- 1: "over 1,048,576 bytes"; 2: "service characters break the rule"; 11: "unclosed"; 13: "over 9,999 segments": the 10,000th
unfoldable pub early : Bare → Room → List (ℕ × List ℕ)
early b x =
    (1, told_unless b.short 0) ∷ (2, told_unless b.fit 0) ∷ (10, rule10 1 b.segments) ∷ (11, told_unless b.closed 1)
    ∷ (12, told_unless (headed b.segments) 1) ∷ (13, told_unless (leb (length b.segments) 9999) 10000) ∷ (14, told_unless (fits b.segments x) 0) ∷ []

-- ---- all that applies
-- a message of the kind
abbrev pub Of : Kind → Service → List ℕ → Type 0
Of k v m = is_kind k (bare_of v m).segments ≡ true

pub data In (a : Told) : List Told → Type 0 where
  here : {l : List Told} → In a (a ∷ l)
  there : {b : Told} {l : List Told} → In a l → In a (b ∷ l)

pub data Applies (v : Service) (m : List ℕ) (x : Room) (n s : ℕ) : Type 0 where
  soon : In (told n s) (tell_all (early (bare_of v m) x)) → Applies v m x n s
  -- 16: "no placement": "the first segment such that with the segments up to and including it no message allowed by the chart can begin"
  misfit : (k : Kind) → Of k v m → (j : ℕ) → FirstMisfit (chart_for k) (tags_of v m) j → n ≡ 16 → s ≡ j + 1 → Applies v m x n s
  -- 17 to 31, by the rules of the kind, of the reading
  late : (k : Kind) → Of k v m → (rows : List ℕ) → Reading (chart_for k) (tags_of v m) rows → In (told n s) (tell_all (rules_for k (segs_of v m rows))) → Applies v m x n s

-- "The lowest number that applies is given, and under it the first segment"
pub record Lowest (v : Service) (m : List ℕ) (x : Room) (n s : ℕ) : Type 0 where
  pub applies : Applies v m x n s
  pub least : (k t : ℕ) → Applies v m x k t → (rank n < rank k) ⊎ ((n ≡ k) × (s ≤ t))

-- "under 10 the first such byte in it"; else where the segment begins, and 0 where no segment is meant
unfoldable pub offset_of : Service → List ℕ → ℕ → ℕ → ℕ
offset_of v m n zero = 0
offset_of v m n (suc s) = if (eqb n 10) (get_or (strange_in v m (start_at v m s)) 0 0) (start_at v m s)

-- "counts of segments, orders (LIN) and payments (SEQ)"
abbrev pub counts_of : Kind → List Seg → Counts
counts_of k m = record { segments = length m; orders = order_count k m; payments = payment_count k m }

-- "the row and the start of every segment (from the UNH's first byte) and the total of every order; entries beyond these keep their content"
abbrev pub filled : Kind → Service → List ℕ → List ℕ → Lists → Lists
filled k v m rows x = lists (over rows x.rows) (over (starts_of v m) x.starts) (over (totals_for k (segs_of v m rows)) x.totals)

-- the lists x before a check and x' after it; "A refusal .. changes no list"
pub data Reported (v : Service) (m : List ℕ) (x x' : Lists) : Report → Type 0 where
  accepted : (c : Counts) (k : Kind) → Of k v m → (rows : List ℕ) → Reading (chart_for k) (tags_of v m) rows → ((n s : ℕ) → Applies v m (room_of x) n s → ⊥)
      → c ≡ counts_of k (segs_of v m rows) → x' ≡ filled k v m rows x → Reported v m x x' (Accepted c)
  refused : (f : Refusal) → Lowest v m (room_of x) (table_number f.number) f.segment → f.offset ≡ offset_of v m (table_number f.number) f.segment → x' ≡ x → Reported v m x x' (Refused f)
