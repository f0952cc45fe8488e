-- 27 as the loop goes: a state for each level, and a step for each segment.
use Rattle.std.specs.Prelude.{ℕ, List, Bool, true, false, not, ◌&&◌, ◌||◌, Option, None, Some}
use Prim.Native.String.{String}
use Rattle.service.specs.Tests.{if, is_empty}
use Rattle.faults.specs.Firsts.{lesser}
use Rattle.message.specs.Segs.{Seg, Name, LIN, FII6, NAD7, SEQ, FII12, NAD13, is}
use Rattle.message.specs.Rules.{named, party, order_holds, payment_holds}
use Rattle.message.specs.Forms.Run.{place_if, Level, level_step, close}
use Rattle.message.specs.Forms.Counts.{more_if, cap_step, some_step}
use Rattle.parties.specs.declared.LevelParties.{LevelParties}
use Rattle.parties.specs.declared.Parties.{Parties}

-- a holder name among the values of an FII
abbrev pub name_in : (ℕ → ℕ → List ℕ) → Bool
name_in value = not (is_empty (value 2 1)) || not (is_empty (value 2 2))

abbrev pub level_of : Option ℕ → ℕ → Bool → ℕ → ℕ → LevelParties
level_of f a n h o = record { head = f; account = a; named = n; holder = h; other = o }

-- what one segment changes of a level, whose accounts are the FII with the qualifier a, and its holders and others the NAD with h and with o
unfoldable pub level_inner : Name → String → Name → String → String → LevelParties → Seg → LevelParties
level_inner fii a nad h o l s =
    level_of l.head (cap_step (party fii a) l.account s) (some_step (λ s. party fii a s && named s) l.named s) (cap_step (party nad h) l.holder s) (cap_step (party nad o) l.other s)

abbrev pub order_inner : LevelParties → Seg → LevelParties
order_inner = level_inner FII6 "OR" NAD7 "PL" "OY"

abbrev pub payment_inner : LevelParties → Seg → LevelParties
payment_inner = level_inner FII12 "BF" NAD13 "PE" "BE"

-- what a level comes to at its end
unfoldable pub order_comes : LevelParties → Option ℕ
order_comes o = place_if o.head (order_holds o.account o.named o.holder o.other)

unfoldable pub payment_comes : LevelParties → Option ℕ
payment_comes p = place_if p.head (payment_holds p.account p.named p.holder p.other)

abbrev pub level27_b : Level LevelParties
level27_b = record { opens = is LIN; ends = is LIN; start = λ s. level_of (Some s.nth) 0 false 0 0; idle = level_of None 0 false 0 0; inner = order_inner; tells = λ o s. None; comes = order_comes }

abbrev pub level27_c : Level LevelParties
level27_c = record { opens = is SEQ; ends = λ s. is LIN s || is SEQ s; start = λ s. level_of (Some s.nth) 0 false 0 0; idle = level_of None 0 false 0 0; inner = payment_inner; tells = λ p s. None; comes = payment_comes }

-- both
abbrev pub parties_of : (LevelParties × Option ℕ) → (LevelParties × Option ℕ) → Parties
parties_of o p = record { order = o.0; orders = o.1; payment = p.0; payments = p.1 }

abbrev pub order_part : Parties → LevelParties × Option ℕ
order_part st = (st.order, st.orders)

abbrev pub payment_part : Parties → LevelParties × Option ℕ
payment_part st = (st.payment, st.payments)

abbrev pub parties_start : Parties
parties_start = parties_of (level_of None 0 false 0 0, None) (level_of None 0 false 0 0, None)

unfoldable pub parties_step : Parties → Seg → Parties
parties_step st s = parties_of (level_step level27_b (order_part st) s) (level_step level27_c (payment_part st) s)

unfoldable pub parties_close : Parties → Option ℕ
parties_close st = lesser (close level27_b (order_part st)) (close level27_c (payment_part st))

-- what the code's parts make of a state
abbrev pub with_payment : Parties → LevelParties → Option ℕ → Parties
with_payment st p f = parties_of (order_part st) (p, f)

abbrev pub ended : Parties → Option ℕ → Parties
ended st f = parties_of (level_of f 0 false 0 0, lesser st.orders (order_comes st.order)) (level_of None 0 false 0 0, lesser st.payments (payment_comes st.payment))

-- what an FII makes of a level by whether it is an account, and a NAD by whether it is a holder or another party
abbrev pub with_account : LevelParties → Bool → (ℕ → ℕ → List ℕ) → LevelParties
with_account l a value = level_of l.head (more_if a l.account) (if (a && name_in value) true l.named) l.holder l.other

abbrev pub with_parties : LevelParties → Bool → Bool → LevelParties
with_parties l h o = level_of l.head l.account l.named (more_if h l.holder) (more_if o l.other)
