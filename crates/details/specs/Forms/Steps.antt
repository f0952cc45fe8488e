-- 28 as the loop goes: a state for each level, and a step for each segment.
use Rattle.std.specs.Prelude.{ℕ, Bool, false, not, ◌&&◌, ◌||◌, eqb, Option, None, Some}
use Rattle.service.specs.Tests.{if}
use Rattle.values.specs.Forms.Values.{code_of}
use Rattle.values.specs.Forms.Codes as codes
use Rattle.faults.specs.Firsts.{lesser, place_unless}
use Rattle.message.specs.Segs.{Seg, LIN, SEQ, PRC10, PRC16, FTX16, DOC17, is}
use Rattle.message.specs.Forms.Run.{test_step, Level, level_step, close}
use Rattle.message.specs.Forms.Counts.{some_step}
use Rattle.details.specs.declared.Common.{Common}
use Rattle.details.specs.declared.Group.{Group}
use Rattle.details.specs.declared.Details.{Details}

abbrev pub common_of : Bool → Option ℕ → Common
common_of c f = record { common = c; prc = f }

abbrev pub group_of : ℕ → ℕ → Bool → Bool → Group
group_of n x t d = record { prc = n; code = x; text = t; documents = d }

-- what one segment changes of a level, where there is one
unfoldable pub common_inner : Option Common → Seg → Option Common
common_inner None s = None
common_inner (Some o) s = Some (common_of (some_step (is PRC10) o.common s) (test_step (is PRC16) (λ s. false) o.prc s))

unfoldable pub group_inner : Option Group → Seg → Option Group
group_inner None s = None
group_inner (Some g) s = Some (group_of g.prc g.code (some_step (is FTX16) g.text s) (some_step (is DOC17) g.documents s))

-- what a level comes to at its end
unfoldable pub common_comes : Option Common → Option ℕ
common_comes None = None
common_comes (Some o) = if o.common o.prc None

-- `details_hold` by the code of the PRC
unfoldable pub group_holds : ℕ → Bool → Bool → Bool
group_holds x text documents =
    (eqb x codes.EIGHT && documents && not text)
    || ((eqb x codes.NINE || eqb x codes.TEN) && documents && text)
    || (eqb x codes.ELEVEN && text && not documents)

unfoldable pub group_comes : Option Group → Option ℕ
group_comes None = None
group_comes (Some g) = place_unless (group_holds g.code g.text g.documents) g.prc

abbrev pub level28_b : Level (Option Common)
level28_b = record { opens = is LIN; ends = is LIN; start = λ s. Some (common_of false None); idle = None; inner = common_inner; tells = λ o s. None; comes = common_comes }

abbrev pub level28_c : Level (Option Group)
level28_c = record { opens = is PRC16; ends = λ s. is LIN s || is SEQ s || is PRC16 s; start = λ s. Some (group_of s.nth (code_of (s.value 1 0)) false false); idle = None; inner = group_inner; tells = λ g s. None; comes = group_comes }

-- both
abbrev pub details_of : (Option Common × Option ℕ) → (Option Group × Option ℕ) → Details
details_of o g = record { order = o.0; orders = o.1; group = g.0; groups = g.1 }

abbrev pub order_part : Details → Option Common × Option ℕ
order_part st = (st.order, st.orders)

abbrev pub group_part : Details → Option Group × Option ℕ
group_part st = (st.group, st.groups)

abbrev pub details_start : Details
details_start = details_of (None, None) (None, None)

unfoldable pub details_step : Details → Seg → Details
details_step st s = details_of (level_step level28_b (order_part st) s) (level_step level28_c (group_part st) s)

unfoldable pub details_close : Details → Option ℕ
details_close st = lesser (close level28_b (order_part st)) (close level28_c (group_part st))

-- what the code's parts make of a state
abbrev pub group_ended : Details → Option Group → Details
group_ended st g = details_of (order_part st) (g, lesser st.groups (group_comes st.group))

abbrev pub order_ended : Details → Option Common → Details
order_ended st o = details_of (o, lesser st.orders (common_comes st.order)) (None, lesser st.groups (group_comes st.group))
