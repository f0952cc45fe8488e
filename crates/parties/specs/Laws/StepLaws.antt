-- The code's ways through a step of parties. Assumes nothing.
use Rattle.std.specs.Prelude.{ℕ, ◌+◌, ◌≡◌, min, List, Bool, true, false, not, ◌||◌, eqb, Option, None, Some}
use Rattle.std.proofs.Common.{arith, ◌∙◌, ne_eqb}
use Rattle.std.proofs.Math.Path.{refl}
use Rattle.service.specs.declared.Service.{Service}
use Rattle.service.specs.Tests.{if}
use Rattle.values.specs.Numbers.{value_in}
use Rattle.values.specs.Forms.Values.{code_from, code_of}
use Rattle.values.specs.Forms.Codes as codes
use Rattle.values.specs.Laws.TextLaws.{says_code}
use Rattle.faults.specs.Firsts.{lesser}
use Rattle.faults.specs.Laws.FirstsLaws.{lesser_last}
use Rattle.values.specs.Text.{text}
use Rattle.message.specs.Segs.{seg_at}
use Rattle.message.specs.Forms.Run.{place_if, level_step, close}
use Rattle.message.specs.Forms.Counts.{cap_step, some_step}
use Rattle.message.proofs.Laws.ValueLaws.{empty_code}
use Rattle.parties.specs.declared.LevelParties.{LevelParties}
use Rattle.parties.specs.declared.Parties.{Parties}
use Rattle.parties.specs.Forms.Steps.{name_in, level_of, level_inner, parties_of, parties_step, parties_close, with_payment, ended, with_account, with_parties, payment_comes}

-- ---- counts, names, tests
pub more_one : (n : ℕ) → min (min (n + 1) 255) 2 ≡ min (n + 1) 2
more_one n = omega arith

module _ (value : ℕ → ℕ → List ℕ) (x : ℕ) (p : x ≡ code_of (value 2 1)) where
  pub name_first : not (eqb x codes.EMPTY) ≡ true → not (eqb x codes.EMPTY) ≡ name_in value
  name_first e = e ∙ rw (← empty_code (value 2 1), ← p, e) refl

  pub name_second : not (eqb x codes.EMPTY) ≡ false → (y : ℕ) → y ≡ code_of (value 2 2) → not (eqb y codes.EMPTY) ≡ name_in value
  name_second e y q = rw (← empty_code (value 2 1), ← empty_code (value 2 2), ← p, ← q, e) refl

pub or_if : (a b : Bool) → a || b ≡ if b true a
or_if true true = refl
or_if true false = refl
or_if false true = refl
or_if false false = refl

pub fault_none : (f : Option ℕ) → None ≡ place_if f true
fault_none None = refl
fault_none (Some n) = refl

pub fault_at : (f : Option ℕ) → f ≡ place_if f false
fault_at None = refl
fault_at (Some n) = refl

pub closed : (st u : Parties) (f : Option ℕ) → u ≡ ended st None → f ≡ lesser u.orders u.payments → f ≡ parties_close st
unfolding parties_close close
closed st u f a b = rw (b, a)

-- ---- a step
module _ (st : Parties) (v : Service) (m : List ℕ) (nth row i : ℕ) where
  pub step_lin : row ≡ 17 → ended st (Some nth) ≡ parties_step st (seg_at v m nth row i)
  unfolding parties_step level_step
  step_lin e = rw e refl

  pub step_seq : row ≡ 50 → with_payment st (level_of (Some nth) 0 false 0 0) (lesser st.payments (payment_comes st.payment)) ≡ parties_step st (seg_at v m nth row i)
  unfolding parties_step level_step level_inner cap_step some_step
  step_seq e = rw (e, lesser_last st.orders) refl

  pub step_order_fii : row ≡ 28 → (u : LevelParties) → u ≡ with_account st.order (eqb (code_of (value_in v i m 1 0)) codes.OR) (value_in v i m) → parties_of (u, st.orders) (st.payment, st.payments) ≡ parties_step st (seg_at v m nth row i)
  unfolding parties_step level_step level_inner cap_step some_step text code_from
  step_order_fii e u q = rw (e, q, lesser_last st.orders, lesser_last st.payments, says_code (value_in v i m 1 0) "OR" refl) refl

  pub step_order_nad : row ≡ 32 → (u : LevelParties) → u ≡ with_parties st.order (eqb (code_of (value_in v i m 1 0)) codes.PL) (eqb (code_of (value_in v i m 1 0)) codes.OY) → parties_of (u, st.orders) (st.payment, st.payments) ≡ parties_step st (seg_at v m nth row i)
  unfolding parties_step level_step level_inner cap_step some_step text code_from
  step_order_nad e u q = rw (e, q, lesser_last st.orders, lesser_last st.payments, says_code (value_in v i m 1 0) "PL" refl, says_code (value_in v i m 1 0) "OY" refl) refl

  pub step_payment_fii : row ≡ 57 → (u : LevelParties) → u ≡ with_account st.payment (eqb (code_of (value_in v i m 1 0)) codes.BF) (value_in v i m) → parties_of (st.order, st.orders) (u, st.payments) ≡ parties_step st (seg_at v m nth row i)
  unfolding parties_step level_step level_inner cap_step some_step text code_from
  step_payment_fii e u q = rw (e, q, lesser_last st.orders, lesser_last st.payments, says_code (value_in v i m 1 0) "BF" refl) refl

  pub step_payment_nad : row ≡ 61 → (u : LevelParties) → u ≡ with_parties st.payment (eqb (code_of (value_in v i m 1 0)) codes.PE) (eqb (code_of (value_in v i m 1 0)) codes.BE) → parties_of (st.order, st.orders) (u, st.payments) ≡ parties_step st (seg_at v m nth row i)
  unfolding parties_step level_step level_inner cap_step some_step text code_from
  step_payment_nad e u q = rw (e, q, lesser_last st.orders, lesser_last st.payments, says_code (value_in v i m 1 0) "PE" refl, says_code (value_in v i m 1 0) "BE" refl) refl

  pub step_other : (row ≡ 17 → ⊥) → (row ≡ 50 → ⊥) → (row ≡ 28 → ⊥) → (row ≡ 32 → ⊥) → (row ≡ 57 → ⊥) → (row ≡ 61 → ⊥) → st ≡ parties_step st (seg_at v m nth row i)
  unfolding parties_step level_step level_inner cap_step some_step
  step_other a b c d e f = rw (ne_eqb row 17 a, ne_eqb row 50 b, ne_eqb row 28 c, ne_eqb row 32 d, ne_eqb row 57 e, ne_eqb row 61 f, lesser_last st.orders, lesser_last st.payments) refl
