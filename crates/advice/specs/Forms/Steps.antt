-- 30 and 31 as the loop goes.
use Rattle.std.specs.Prelude.{ℕ, List, Bool, true, false, not, ◌&&◌, Option, None, Some, ◌||◌, eqb}
use Rattle.service.specs.Tests.{if, alike}
use Rattle.values.specs.Text.{says}
use Rattle.values.specs.Forms.Codes as codes
use Rattle.faults.specs.Firsts.{lesser, place_unless}
use Rattle.message.specs.Segs.{Seg}
use Rattle.message.specs.Advices.{BGM, LIN, DTM4, SEQ, RFF11, is, date_holds}
use Rattle.message.specs.Forms.Run.{test_step, Level, level_step}
use Rattle.message.specs.Forms.Counts.{some_step}
use Rattle.advice.specs.declared.Dates.{Dates}
use Rattle.advice.specs.declared.Sequence.{Sequence}
use Rattle.advice.specs.declared.Line.{Line}
use Rattle.advice.specs.declared.References.{References}

-- ---- 30: whether the debit is to come, and the first DTM that does not hold if it is and if it is not
abbrev pub dates_of : Bool → Option ℕ → Option ℕ → Dates
dates_of p f g = record { pre = p; coming = f; booked = g }

abbrev pub dates_start : Dates
dates_start = dates_of false None None

abbrev pub announces : Seg → Bool
announces s = is BGM s && says (s.value 1 0) "342"

abbrev pub date_is : Bool → Seg → Bool
date_is pre s = date_holds pre (s.value 1 0)

-- `date_holds` by the code of the DTM
unfoldable pub date_by : Bool → ℕ → Bool
date_by pre x = eqb x codes.TWO_HUNDRED_TWO || eqb x codes.TWO_HUNDRED_NINE || (pre && eqb x codes.FOUR_HUNDRED_FIFTY_FIVE)

unfoldable pub date_step : Dates → Seg → Dates
date_step st s = dates_of (some_step announces st.pre s) (test_step (is DTM4) (date_is true) st.coming s) (test_step (is DTM4) (date_is false) st.booked s)

abbrev pub first_date : Dates → Option ℕ
first_date st = if st.pre st.coming st.booked

-- ---- 31: the last LIN, if one came: whether it is booked with details, its last SEQ, and whether that has a reference
abbrev pub sequence_of : ℕ → Bool → Sequence
sequence_of n r = record { nth = n; referenced = r }

abbrev pub line_of : Bool → Option Sequence → Line
line_of d q = record { detailed = d; sequence = q }

-- what a SEQ comes to
abbrev pub sequence_comes : Bool → Option Sequence → Option ℕ
sequence_comes d None = None
sequence_comes d (Some q) = place_unless (alike q.referenced d) q.nth

abbrev pub line_comes : Option Line → Option ℕ
line_comes None = None
line_comes (Some a) = sequence_comes a.detailed a.sequence

-- an RFF is a reference of the last SEQ
unfoldable pub refer_step : Option Sequence → Seg → Option Sequence
refer_step None s = None
refer_step (Some q) s = Some (sequence_of q.nth (some_step (is RFF11) q.referenced s))

-- a SEQ ends the one before it
unfoldable pub line_inner : Option Line → Seg → Option Line
line_inner None s = None
line_inner (Some a) s = Some (line_of a.detailed (if (is SEQ s) (Some (sequence_of s.nth false)) (refer_step a.sequence s)))

unfoldable pub line_tells : Option Line → Seg → Option ℕ
line_tells None s = None
line_tells (Some a) s = if (is SEQ s) (sequence_comes a.detailed a.sequence) None

abbrev pub level31 : Level (Option Line)
level31 = record { opens = is LIN; ends = is LIN; start = λ s. Some (line_of (not (says (s.value 2 0) "106")) None); idle = None; inner = line_inner; tells = line_tells; comes = line_comes }

abbrev pub references_of : (Option Line × Option ℕ) → References
references_of l = record { line = l.0; first31 = l.1 }

abbrev pub line_part : References → Option Line × Option ℕ
line_part st = (st.line, st.first31)

abbrev pub references_start : References
references_start = references_of (None, None)

unfoldable pub reference_step : References → Seg → References
reference_step st s = references_of (level_step level31 (line_part st) s)

abbrev pub first_reference : References → Option ℕ
first_reference st = lesser st.first31 (line_comes st.line)
