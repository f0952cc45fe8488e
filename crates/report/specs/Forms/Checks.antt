-- What the parts of a check answer.
use Rattle.std.specs.Prelude.{ℕ, zero, suc, ◌+◌, ◌%◌, ◌≡◌, List, Bool, false, ◌&&◌, ◌||◌, length, eqb, leb, ltb, Option, None, Some, Result, Ok, Err, ⊤}
use Rattle.numbers.specs.declared.Number.{Number}
use Rattle.numbers.specs.declared.Number.TheVariants as numbers
use Rattle.service.specs.declared.Service.{Service}
use Rattle.service.specs.Service.{fitting}
use Rattle.service.specs.Tests.{if}
use Rattle.segments.specs.declared.Segment.{Segment}
use Rattle.segments.specs.declared.Segment.TheVariants.{Finished, Unfinished, Nothing}
use Rattle.segments.specs.Forms.Segments.{segment_at}
use Rattle.segments.specs.SegmentList.{segments_from, start_at}
use Rattle.values.specs.Numbers.{value_from, value_in}
use Rattle.faults.specs.Firsts.{Told, fault_at}
use Rattle.tally.specs.Places.{passed}
use Rattle.interchange.specs.Answers.{Refusal}
use Rattle.interchange.specs.Answers.{refusal}
use Rattle.interchange.specs.Envelope.{is_reference}
use Rattle.chart.specs.Chart.{Reading}
use Rattle.chart.specs.Tags.{tags_of}
use Rattle.chart.specs.Answer.{StuckAt}
use Rattle.chart.specs.Forms.Next.{rows_of}
use Rattle.kinds.specs.declared.Kind.{Kind}
use Rattle.kinds.specs.declared.Kind.TheVariants.{Paymul, Debmul}
use Rattle.kinds.specs.Kinds.{table_of}
use Rattle.values.specs.Text.{says}
use Rattle.message.specs.Kinds.{means, chart_for}
use Rattle.message.specs.Placed.{placed_on}
use Rattle.message.specs.Faults.{tell_all, least_of}

-- whether the segment at a place is finished and ends the bytes
abbrev pub ends_by : ℕ → Segment → Bool
ends_by n (Finished e k) = eqb (e + 1) n
ends_by n Unfinished = false
ends_by n Nothing = false

abbrev pub ends_with : Service → List ℕ → Option ℕ → Bool
ends_with v m None = false
ends_with v m (Some p) = ends_by (length m) (segment_at v p m)

-- the kind whose type the UNH names; PAYMUL where it names none (`kind_is` of KindLaws: the one that the message is of, if it is of one)
abbrev pub kind_at : Service → List ℕ → Kind
kind_at v m = if (says (value_in v 0 m 2 0) "DEBMUL") Debmul Paymul

abbrev pub typed : Service → List ℕ → Bool → Bool
typed v m unh = unh && (says (value_in v 0 m 2 0) "PAYMUL" || says (value_in v 0 m 2 0) "DEBMUL") && says (value_in v 0 m 2 1) "D" && says (value_in v 0 m 2 2) "96A" && says (value_in v 0 m 2 3) "UN"

-- 12, by the bytes that the message begins with
abbrev pub headed_at : Service → List ℕ → Bool
headed_at v m = typed v m (says (value_from v 0 m) "UNH" && is_reference (length (value_in v 0 m 1 0)))

-- 1 and 2
abbrev pub outright : Bool → Bool → Result ⊤ Refusal
outright short fit = if short (if fit (Ok tt) (Err (refusal numbers.Characters))) (Err (refusal numbers.TooLong))

-- neither applies, and the message is read as one of the kind c
pub record Begun (c : Kind) (v : Service) (m : List ℕ) : Type 0 where
  pub ready : Ok tt ≡ outright (leb (length m) 1048576) (fitting v)
  pub kind : c ≡ kind_at v m

-- 11 to 13
abbrev pub early_fault : Bool → Bool → ℕ → Option Told
early_fault closed headed n = if closed (if headed (if (ltb 9999 n) (fault_at 13 10000) None) (fault_at 12 1)) (fault_at 11 1)

-- 16, at the segment that begins at p
abbrev pub misfit_at : Service → List ℕ → ℕ → Option Told
misfit_at v m p = fault_at 16 (passed (length m) p (segments_from v m 0) % 4294967295 + 1)

-- what placing on the chart of a kind finds, by number and segment: nothing, or 16
pub data Misfit (c : Kind) (v : Service) (m : List ℕ) (f : Option Told) : Type 0 where
  nothing : Reading (chart_for c) (tags_of v m) (rows_of (table_of c) (tags_of v m)) → f ≡ None → Misfit c v m f
  segment : (p : ℕ) → StuckAt (table_of c) v m p → f ≡ misfit_at v m p → Misfit c v m f

-- 16 to 31, by a kind, in a message of k segments with n LIN tags
pub data Late (c : Kind) (v : Service) (m : List ℕ) (k n : ℕ) (r : Option Told) : Type 0 where
  placed : Reading (chart_for c) (tags_of v m) (rows_of (table_of c) (tags_of v m)) → r ≡ least_of (tell_all ((means c).rules k n (placed_on (table_of c) v m))) → Late c v m k n r
  stuck : (p : ℕ) → StuckAt (table_of c) v m p → r ≡ misfit_at v m p → Late c v m k n r

-- how many totals are written of a message with n LIN tags
abbrev pub listed_orders : Kind → ℕ → ℕ
listed_orders c n = if (means c).totals n 0

-- the refusal under 10, for the byte at p
abbrev pub byte_refusal : Service → List ℕ → ℕ → Refusal
byte_refusal v m p = record { number = numbers.Byte; segment = (passed (length m) p (segments_from v m 0) % 4294967295 + 1) % 4294967296; offset = p % 4294967296 }

-- where the kth segment begins
abbrev pub start_by : Service → List ℕ → ℕ → ℕ
start_by v m zero = 0
start_by v m (suc k) = start_at v m k

-- the refusal with the number n, for the kth segment
abbrev pub refusal_at : Service → List ℕ → Number → ℕ → Refusal
refusal_at v m n k = record { number = n; segment = k % 4294967296; offset = start_by v m k % 4294967296 }
