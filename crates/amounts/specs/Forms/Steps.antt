-- 22 to 26 as the loop goes: the order at hand, a place for each rule, and a step for each segment.
use Rattle.std.specs.Prelude.{ℕ, ◌+◌, min, List, Bool, true, false, not, ◌&&◌, ◌||◌, eqb, Option, None, Some}
use Rattle.std.specs.Option.{option_map}
use Rattle.service.specs.declared.Service.{Service}
use Rattle.service.specs.Tests.{if}
use Rattle.values.specs.Forms.Values.{amount_of}
use Rattle.values.specs.Forms.Codes as codes
use Rattle.values.specs.Text.{same_list, says}
use Rattle.values.specs.Numbers.{value_in}
use Rattle.faults.specs.Firsts.{lesser, place_unless}
use Rattle.message.specs.Segs.{Seg, seg_at, LIN, MOA5, CUX5, MOA11, is}
use Rattle.message.specs.Rules.{is_of, worth, capitals, qualifier, amount, currency, cux_holds}
use Rattle.message.specs.Forms.Run.{test_step, Level}
use Rattle.message.specs.Forms.Counts.{some_step, most}
use Rattle.amounts.specs.declared.Order.{Order}
use Rattle.amounts.specs.declared.Amounts.{Amounts}
use Rattle.amounts.specs.declared.Holds.{Holds}

-- an order from its own MOA on: whether a CUX came, and the sum of its payments
pub record Held : Type 0 where
  pub own : Seg
  pub cux : Bool
  pub sum : ℕ

abbrev pub held : Seg → Bool → ℕ → Held
held o x n = record { own = o; cux = x; sum = n }

unfoldable pub add_step : ℕ → Seg → ℕ
add_step n s = if (is MOA11 s) (min (n + worth (amount_of (amount s))) most) n

-- what one segment changes of an order, if there is one
unfoldable pub held_inner : Option Held → Seg → Option Held
held_inner None s = None
held_inner (Some a) s = Some (held a.own (some_step (is CUX5) a.cux s) (add_step a.sum s))

-- a rule: the segments of an order that it tests, the test, and what is tested at the order's end
pub record Rule : Type 0 where
  pub kind : Seg → Bool
  pub test : Seg → Seg → Bool
  pub last : Held → Bool

abbrev pub rule23 : Rule
rule23 = record { kind = is MOA11; test = λ o s. same_list (qualifier s) (qualifier o); last = λ a. says (qualifier a.own) "9" || says (qualifier a.own) "57" }

abbrev pub rule24 : Rule
rule24 = record { kind = is MOA11; test = λ o s. same_list (currency s) (currency o); last = λ a. capitals (currency a.own) }

abbrev pub rule25 : Rule
rule25 = record { kind = is CUX5; test = λ o s. says (qualifier o) "57" && cux_holds (currency o) s.value; last = λ a. not (says (qualifier a.own) "57") || a.cux }

abbrev pub rule26 : Rule
rule26 = record { kind = λ s. false; test = λ o s. true; last = λ a. eqb (worth (amount_of (amount a.own))) a.sum }

abbrev pub ends : Seg → Bool
ends s = is LIN s || is MOA5 s

abbrev pub tells_by : Rule → Option Held → Seg → Option ℕ
tells_by R None s = None
tells_by R (Some a) s = if (R.kind s) (place_unless (R.test a.own s) s.nth) None

abbrev pub comes_by : Rule → Option Held → Option ℕ
comes_by R None = None
comes_by R (Some a) = place_unless (R.last a) a.own.nth

-- the level of a rule
abbrev pub level_of : Rule → Level (Option Held)
level_of R = record { opens = is MOA5; ends = ends; start = λ s. Some (held s false 0); idle = None; inner = held_inner; tells = tells_by R; comes = comes_by R }

-- ---- the order at hand and all places
pub record Sums : Type 0 where
  pub order : Option Held
  pub first22 : Option ℕ
  pub first23 : Option ℕ
  pub first24 : Option ℕ
  pub first25 : Option ℕ
  pub first26 : Option ℕ

unfoldable pub held_step : Option Held → Seg → Option Held
held_step a s = if (ends s) (if (is MOA5 s) (Some (held s false 0)) None) (held_inner a s)

unfoldable pub first_step : Rule → Option Held → Option ℕ → Seg → Option ℕ
first_step R a f s = if (ends s) (lesser f (comes_by R a)) (lesser f (tells_by R a s))

abbrev pub is_moa : Seg → Bool
is_moa s = is MOA5 s || is MOA11 s

abbrev pub is_formed : Seg → Bool
is_formed s = is_of (amount_of (amount s))

unfoldable pub sums_step : Sums → Seg → Sums
sums_step st s = record {
  order = held_step st.order s;
  first22 = test_step is_moa is_formed st.first22 s;
  first23 = first_step rule23 st.order st.first23 s;
  first24 = first_step rule24 st.order st.first24 s;
  first25 = first_step rule25 st.order st.first25 s;
  first26 = first_step rule26 st.order st.first26 s;
}

abbrev pub sums_idle : Sums
sums_idle = record { order = None; first22 = None; first23 = None; first24 = None; first25 = None; first26 = None }

-- the order at hand ended, and none after it
abbrev pub ended_by : Sums → Sums
ended_by st = record {
  order = None;
  first22 = st.first22;
  first23 = lesser st.first23 (comes_by rule23 st.order);
  first24 = lesser st.first24 (comes_by rule24 st.order);
  first25 = lesser st.first25 (comes_by rule25 st.order);
  first26 = lesser st.first26 (comes_by rule26 st.order);
}

-- ---- the code's state: the MOA is given by where it begins
abbrev pub order_of : ℕ → ℕ → Bool → ℕ → Order
order_of n i x s = record { nth = n; at = i; exchanged = x; sum = s }

abbrev pub amounts_of : Option Order → Option ℕ → Option ℕ → Option ℕ → Option ℕ → Option ℕ → Amounts
amounts_of o a b c d e = record { order = o; first22 = a; first23 = b; first24 = c; first25 = d; first26 = e }

abbrev pub sums_start : Amounts
sums_start = amounts_of None None None None None None

abbrev pub held_of : Service → List ℕ → Order → Held
held_of v m o = held (seg_at v m o.nth 23 o.at) o.exchanged o.sum

abbrev pub sums_of : Service → List ℕ → Amounts → Sums
sums_of v m st = record { order = option_map (held_of v m) st.order; first22 = st.first22; first23 = st.first23; first24 = st.first24; first25 = st.first25; first26 = st.first26 }

-- where the order's own MOA begins
abbrev pub own_of : Amounts → Option ℕ
own_of st = option_map (λ (o : Order). o.at) st.order

-- after a segment of this row at i: there, if it is that MOA; nowhere yet after a LIN; else where it did
abbrev pub own_at : Option ℕ → ℕ → ℕ → Option ℕ
own_at was row i = if (eqb row 23) (Some i) (if (eqb row 17) None was)

-- what holds at the end of an order
abbrev pub holds_of : Bool → Bool → Bool → Bool → Holds
holds_of a b c d = record { qualifier = a; currency = b; exchange = c; total = d }

abbrev pub held_by : Service → List ℕ → Order → Holds
held_by v m o =
    holds_of (says (value_in v o.at m 1 0) "9" || says (value_in v o.at m 1 0) "57") (capitals (value_in v o.at m 1 2)) (not (says (value_in v o.at m 1 0) "57") || o.exchanged)
    (eqb (worth (amount_of (value_in v o.at m 1 1))) o.sum)

-- what the code's parts make of a state: the order at hand ended, and another; what does not hold has its place at the order's MOA
abbrev pub order_ended : Service → List ℕ → Amounts → Option Order → Amounts
order_ended v m st o =
    amounts_of o st.first22 (lesser st.first23 (comes_by rule23 (option_map (held_of v m) st.order))) (lesser st.first24 (comes_by rule24 (option_map (held_of v m) st.order)))
    (lesser st.first25 (comes_by rule25 (option_map (held_of v m) st.order))) (lesser st.first26 (comes_by rule26 (option_map (held_of v m) st.order)))

-- the order p at hand ended, of which this holds, and another: what does not hold has its place at the order's MOA
abbrev pub ended_with : Amounts → Order → Holds → Option Order → Amounts
ended_with st p h o =
    amounts_of o st.first22 (lesser st.first23 (place_unless h.qualifier p.nth)) (lesser st.first24 (place_unless h.currency p.nth))
    (lesser st.first25 (place_unless h.exchange p.nth)) (lesser st.first26 (place_unless h.total p.nth))

-- the order at hand ended, and none after it
abbrev pub amounts_close : Service → List ℕ → Amounts → Amounts
amounts_close v m st = order_ended v m st None

abbrev pub with_form : Amounts → Bool → ℕ → Amounts
with_form st t n = amounts_of st.order (lesser st.first22 (place_unless t n)) st.first23 st.first24 st.first25 st.first26

-- a CUX at i, the nth segment, in the order at hand
abbrev pub exchanged : Service → List ℕ → Amounts → ℕ → ℕ → Option Order → Amounts
exchanged v m st i n None = st
exchanged v m st i n (Some o) =
    amounts_of (Some (order_of o.nth o.at true o.sum)) st.first22 st.first23 st.first24
    (lesser st.first25 (place_unless (says (value_in v o.at m 1 0) "57" && cux_holds (value_in v o.at m 1 2) (value_in v i m)) n)) st.first26

-- a payment's MOA of the amount x, in the order at hand
abbrev pub paid : Service → List ℕ → Amounts → ℕ → ℕ → Option ℕ → Option Order → Amounts
paid v m st i n x None = st
paid v m st i n x (Some o) =
    amounts_of (Some (order_of o.nth o.at o.exchanged (min (o.sum + worth x) most))) st.first22
    (lesser st.first23 (place_unless (same_list (value_in v i m 1 0) (value_in v o.at m 1 0)) n)) (lesser st.first24 (place_unless (same_list (value_in v i m 1 2) (value_in v o.at m 1 2)) n)) st.first25 st.first26

-- rate bases by their codes
unfoldable pub base_by : ℕ → Bool
base_by x = eqb x codes.ONE || eqb x codes.HUNDRED || eqb x codes.THOUSAND

unfoldable pub bases_by : ℕ → ℕ → ℕ → Bool
bases_by x y z = (eqb x codes.EMPTY && eqb y codes.EMPTY) || (not (eqb z codes.EMPTY) && ((eqb x codes.EMPTY && base_by y) || (base_by x && eqb y codes.EMPTY)))
