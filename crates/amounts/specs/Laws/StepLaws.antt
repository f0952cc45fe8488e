-- The code's ways through a step of amounts. Assumes nothing.
use Rattle.std.specs.Prelude.{ℕ, ◌≡◌, List, Bool, true, false, not, ◌&&◌, ◌||◌, eqb, Option, None, Some}
use Rattle.std.specs.Option.{option_map}
use Rattle.std.proofs.Math.Path.{refl}
use Rattle.std.proofs.Common.{ap, ◌∙◌, ne_eqb}
use Rattle.service.specs.declared.Service.{Service}
use Rattle.values.specs.Numbers.{value_in}
use Rattle.values.specs.Forms.Values.{code_from, code_of, amount_of}
use Rattle.values.specs.Forms.Codes as codes
use Rattle.values.specs.Text.{same_list, text, says}
use Rattle.values.specs.Laws.TextLaws.{says_code}
use Rattle.faults.specs.Firsts.{lesser, place_unless}
use Rattle.faults.specs.Laws.FirstsLaws.{lesser_last}
use Rattle.message.specs.Segs.{seg_at}
use Rattle.message.specs.Rules.{is_of, worth, capitals, first_holds, second_holds, is_base, bases_hold}
use Rattle.message.specs.Forms.Run.{test_step}
use Rattle.message.specs.Forms.Counts.{some_step}
use Rattle.message.proofs.Laws.ValueLaws.{empty_code}
use Rattle.amounts.specs.declared.Order.{Order}
use Rattle.amounts.specs.declared.Amounts.{Amounts}
use Rattle.amounts.specs.declared.Holds.{Holds}
use Rattle.amounts.specs.Forms.Steps.{add_step, held_inner, held_step, first_step, Sums, sums_step, order_of, amounts_of, sums_of, held_of, own_of, own_at, holds_of, held_by, order_ended, ended_with, amounts_close, with_form, exchanged, paid, base_by, bases_by}

-- ---- and, or: by the first
so_or : (a b r : Bool) → a || b ≡ r → a ≡ true → a ≡ r
so_or true b r p h = p
so_or false b r p h = cc

not_or : (a b r : Bool) → a || b ≡ r → a ≡ false → b ≡ r
not_or true b r p h = cc
not_or false b r p h = p

so_and : (a b r : Bool) → a && b ≡ r → a ≡ true → b ≡ r
so_and true b r p h = p
so_and false b r p h = cc

not_and : (a b r : Bool) → a && b ≡ r → a ≡ false → a ≡ r
not_and true b r p h = cc
not_and false b r p h = p

and_group : (a b c : Bool) → a && (b && c) ≡ a && b && c
and_group true b c = refl
and_group false b c = refl

-- ---- values
pub worth_some : (n : ℕ) (a : Option ℕ) → a ≡ Some n → n ≡ worth a
worth_some n a e = rw e refl

pub worth_none : (a : Option ℕ) → a ≡ None → 0 ≡ worth a
worth_none a e = rw e refl

module _ (x : ℕ) (l : List ℕ) (e : x ≡ code_of l) where
  pub exchange_by : eqb x codes.FIFTY_SEVEN ≡ says l "57"
  unfolding text code_from
  exchange_by = rw (e, says_code l "57" refl)

  qualifier_by : eqb x codes.NINE || eqb x codes.FIFTY_SEVEN ≡ says l "9" || says l "57"
  unfolding text code_from
  qualifier_by = rw (e, says_code l "9" refl, says_code l "57" refl)

  pub nine_so : eqb x codes.NINE ≡ true → eqb x codes.NINE ≡ says l "9" || says l "57"
  nine_so = so_or _ _ _ qualifier_by

  pub nine_not : eqb x codes.NINE ≡ false → eqb x codes.FIFTY_SEVEN ≡ says l "9" || says l "57"
  nine_not = not_or _ _ _ qualifier_by

module _ (value : ℕ → ℕ → List ℕ) (money : List ℕ) (x : ℕ) where
  own_by : x ≡ code_of (value 1 0) → eqb x codes.TWO && same_list (value 1 1) money ≡ first_holds money value
  unfolding first_holds text code_from
  own_by e = rw (e, says_code (value 1 0) "2" refl)

  pub own_so : x ≡ code_of (value 1 0) → eqb x codes.TWO ≡ true → (t : Bool) → t ≡ same_list (value 1 1) money → t ≡ first_holds money value
  own_so e h t q = q ∙ so_and _ _ _ (own_by e) h

  pub own_not : x ≡ code_of (value 1 0) → eqb x codes.TWO ≡ false → eqb x codes.TWO ≡ first_holds money value
  own_not e = not_and _ _ _ (own_by e)

  other_by : x ≡ code_of (value 2 0) → eqb x codes.THREE && (capitals (value 2 1) && not (same_list (value 2 1) money)) ≡ second_holds money value
  unfolding second_holds text code_from
  other_by e = rw (e, says_code (value 2 0) "3" refl) (and_group (eqb (code_of (value 2 0)) codes.THREE) (capitals (value 2 1)) (not (same_list (value 2 1) money)))

  pub other_so : x ≡ code_of (value 2 0) → eqb x codes.THREE ≡ true → (t : Bool) → t ≡ capitals (value 2 1) && not (same_list (value 2 1) money) → t ≡ second_holds money value
  other_so e h t q = q ∙ so_and _ _ _ (other_by e) h

  pub other_not : x ≡ code_of (value 2 0) → eqb x codes.THREE ≡ false → eqb x codes.THREE ≡ second_holds money value
  other_not e = not_and _ _ _ (other_by e)

-- bases by their codes
base_values : (l : List ℕ) → is_base l ≡ base_by (code_of l)
unfolding is_base base_by text code_from
base_values l = rw (says_code l "1" refl, says_code l "100" refl, says_code l "1000" refl)

bases_values : (a b c : List ℕ) → bases_by (code_of a) (code_of b) (code_of c) ≡ bases_hold a b c
unfolding bases_by bases_hold
bases_values a b c = rw (base_values a, base_values b, empty_code a, empty_code b, empty_code c)

pub rates_by : (a b c : List ℕ) (x y z : ℕ) → x ≡ code_of a → y ≡ code_of b → z ≡ code_of c → (r : Bool) → r ≡ bases_by x y z → r ≡ bases_hold a b c
rates_by a b c x y z e f g r h = rw (h, e, f, g) (bases_values a b c)

-- ---- the end of an order
-- where no MOA came nothing is told
pub held_idle : (v : Service) (m : List ℕ) (st : Amounts) → st.order ≡ None → (o : Option Order) → amounts_of o st.first22 st.first23 st.first24 st.first25 st.first26 ≡ order_ended v m st o
held_idle v m st e o = rw (e, lesser_last st.first23, lesser_last st.first24, lesser_last st.first25, lesser_last st.first26) refl

pub held_live : (v : Service) (m : List ℕ) (o : Order) (a b c : Bool) (w : ℕ) → a ≡ says (value_in v o.at m 1 0) "9" || says (value_in v o.at m 1 0) "57"
    → b ≡ capitals (value_in v o.at m 1 2) → c ≡ not (says (value_in v o.at m 1 0) "57") || o.exchanged → w ≡ worth (amount_of (value_in v o.at m 1 1))
    → holds_of a b c (eqb w o.sum) ≡ held_by v m o
held_live v m o a b c w h1 h2 h3 h4 = rw (h1, h2, h3, h4) refl

pub next_by_lem : (st : Amounts) (p : Order) (h : Holds) (o : Option Order) (f23 f24 f25 f26 : Option ℕ)
    → f23 ≡ lesser st.first23 (place_unless h.qualifier p.nth) → f24 ≡ lesser st.first24 (place_unless h.currency p.nth)
    → f25 ≡ lesser st.first25 (place_unless h.exchange p.nth) → f26 ≡ lesser st.first26 (place_unless h.total p.nth)
    → amounts_of o st.first22 f23 f24 f25 f26 ≡ ended_with st p h o
next_by_lem st p h o f23 f24 f25 f26 h1 h2 h3 h4 = rw (h1, h2, h3, h4) refl

-- what holds of the order at hand, told apart from its end
module _ (v : Service) (m : List ℕ) (st : Amounts) (p : Order) (g : st.order ≡ Some p) (h : Holds) (d : h ≡ held_by v m p) where
  pub ended_held : (o : Option Order) → ended_with st p h o ≡ order_ended v m st o
  ended_held o = rw (d, g) refl

  pub close_by : (o : Option Order) (r : Amounts) → o ≡ None → r ≡ ended_with st p h o → r ≡ amounts_close v m st
  close_by o r e q = q ∙ ended_held o ∙ rw e refl

pub moa_by : (v : Service) (m : List ℕ) (st u r : Amounts) (p : Order) (h : Holds) (o : Option Order) (x y : Option ℕ) (n : ℕ) → x ≡ y → u ≡ with_form st (is_of x) n
    → st.order ≡ Some p → h ≡ held_by v m p → r ≡ ended_with u p h o → r ≡ order_ended v m (with_form st (is_of y) n) o
moa_by v m st u r p h o x y n e f g d q = q ∙ rw (f, e) (ended_held v m (with_form st (is_of y) n) p g h d o)

-- ---- a step
module _ (v : Service) (m : List ℕ) (st : Amounts) (nth row i : ℕ) where
  abbrev Stepped : Amounts → Type 0
  Stepped r = (sums_of v m r ≡ sums_step (sums_of v m st) (seg_at v m nth row i)) × (own_of r ≡ own_at (own_of st) row i)

  pub step_lin : row ≡ 17 → (r : Amounts) → r ≡ order_ended v m st None → Stepped r
  unfolding sums_step held_step first_step test_step
  step_lin e r q = (rw (q, e) refl, rw (q, e) refl)

  pub at_lin : row ≡ 17 → (p : Order) (h : Holds) (o : Option Order) (r : Amounts) → o ≡ None → r ≡ ended_with st p h o → own_of r ≡ own_at (own_of st) row i
  at_lin e p h o r q f = rw (f, q, e) refl

  pub step_moa : row ≡ 23 → (u r : Amounts) → u ≡ with_form st (is_of (amount_of (value_in v i m 1 1))) nth → r ≡ order_ended v m u (Some (order_of nth i false 0)) → Stepped r
  unfolding sums_step held_step first_step test_step
  step_moa e u r p q = (rw (q, p, e) refl, rw (q, e) refl)

  pub step_cux : row ≡ 24 → (r : Amounts) → r ≡ exchanged v m st i nth st.order → Stepped r
  unfolding sums_step held_step first_step test_step held_inner add_step some_step
  step_cux e r q = go st.order refl
    where
      go : (o : Option Order) → st.order ≡ o → Stepped r
      go None p = (rw (q, p, e, lesser_last st.first23, lesser_last st.first24, lesser_last st.first25, lesser_last st.first26) refl, rw (q, p, e) refl)
      go (Some o) p = (rw (q, p, e, lesser_last st.first23, lesser_last st.first24, lesser_last st.first26) refl, rw (q, p, e) refl)

  pub step_paid : row ≡ 51 → (u r : Amounts) → u ≡ with_form st (is_of (amount_of (value_in v i m 1 1))) nth → r ≡ paid v m u i nth (amount_of (value_in v i m 1 1)) u.order → Stepped r
  unfolding sums_step held_step first_step test_step held_inner add_step some_step
  step_paid e u r p q = go st.order refl
    where
      go : (o : Option Order) → st.order ≡ o → Stepped r
      go None h = (rw (q, p, h, e, lesser_last st.first23, lesser_last st.first24, lesser_last st.first25, lesser_last st.first26) refl, rw (q, p, h, e) refl)
      go (Some o) h = (rw (q, p, h, e, lesser_last st.first25, lesser_last st.first26) refl, rw (q, p, h, e) refl)

  pub step_other : (row ≡ 17 → ⊥) → (row ≡ 23 → ⊥) → (row ≡ 24 → ⊥) → (row ≡ 51 → ⊥) → Stepped st
  unfolding sums_step held_step first_step test_step held_inner add_step some_step
  step_other a b c d = go st.order refl
    where
      go : (o : Option Order) → st.order ≡ o → Stepped st
      go None h = (rw (h, ne_eqb row 17 a, ne_eqb row 23 b, ne_eqb row 51 d, lesser_last st.first23, lesser_last st.first24, lesser_last st.first25, lesser_last st.first26) refl, rw (ne_eqb row 17 a, ne_eqb row 23 b) refl)
      go (Some o) h = (rw (h, ne_eqb row 17 a, ne_eqb row 23 b, ne_eqb row 24 c, ne_eqb row 51 d, lesser_last st.first23, lesser_last st.first24, lesser_last st.first25, lesser_last st.first26) refl, rw (ne_eqb row 17 a, ne_eqb row 23 b) refl)

-- ---- no second answer: where the MOA begins, and what it and the state say
one_order : (v : Service) (m : List ℕ) (x y : Option Order) → option_map (held_of v m) x ≡ option_map (held_of v m) y → option_map (λ (o : Order). o.at) x ≡ option_map (λ (o : Order). o.at) y → x ≡ y
one_order v m None None p q = refl
one_order v m None (Some y) p q = cc
one_order v m (Some x) None p q = cc
one_order v m (Some x) (Some y) p q =
    let a : held_of v m x ≡ held_of v m y = cc in
    let b : x.at ≡ y.at = cc in
    λ k. Some (order_of (a k).own.nth (b k) (a k).cux (a k).sum)

pub one_sums : (v : Service) (m : List ℕ) (x y : Amounts) → sums_of v m x ≡ sums_of v m y → own_of x ≡ own_of y → x ≡ y
one_sums v m x y p q =
    let o = one_order v m x.order y.order (ap (λ (s : Sums). s.order) p) q in
    λ k. record { order = o k; first22 = (p k).first22; first23 = (p k).first23; first24 = (p k).first24; first25 = (p k).first25; first26 = (p k).first26 }
