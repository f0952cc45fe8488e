-- The code's ways through a step of details. Assumes nothing.
use Rattle.std.specs.Prelude.{ℕ, ◌≡◌, List, true, false, Option, None, Some}
use Rattle.std.proofs.Common.{arith, ne_eqb}
use Rattle.std.proofs.Math.Path.{refl}
use Rattle.service.specs.declared.Service.{Service}
use Rattle.values.specs.Numbers.{value_in}
use Rattle.values.specs.Forms.Values.{code_of}
use Rattle.faults.specs.Firsts.{lesser}
use Rattle.faults.specs.Laws.FirstsLaws.{lesser_last}
use Rattle.message.specs.Segs.{Seg, seg_at}
use Rattle.message.specs.Forms.Run.{test_step, level_step, close}
use Rattle.message.specs.Forms.Counts.{some_step}
use Rattle.details.specs.declared.Common.{Common}
use Rattle.details.specs.declared.Group.{Group}
use Rattle.details.specs.declared.Details.{Details}
use Rattle.details.specs.Forms.Steps.{common_of, group_of, common_inner, group_inner, details_of, details_step, details_close, order_ended, group_ended}

pub closed : (st u : Details) (f : Option ℕ) → u ≡ order_ended st None → f ≡ lesser u.orders u.groups → f ≡ details_close st
unfolding details_close close
closed st u f a b = rw (b, a)

other_common : (o : Option Common) (v : Service) (m : List ℕ) (nth row i : ℕ) → (row ≡ 47 → ⊥) → (row ≡ 76 → ⊥) → common_inner o (seg_at v m nth row i) ≡ o
unfolding common_inner test_step some_step
other_common None v m nth row i a b = refl
other_common (Some o) v m nth row i a b = rw (ne_eqb row 47 a, ne_eqb row 76 b) refl

other_group : (g : Option Group) (v : Service) (m : List ℕ) (nth row i : ℕ) → (row ≡ 77 → ⊥) → (row ≡ 79 → ⊥) → group_inner g (seg_at v m nth row i) ≡ g
unfolding group_inner some_step
other_group None v m nth row i a b = refl
other_group (Some g) v m nth row i a b = rw (ne_eqb row 77 a, ne_eqb row 79 b) refl

none_common : (o : Option Common) (s : Seg) → o ≡ None → common_inner o s ≡ o
unfolding common_inner
none_common o s e = rw e refl

none_group : (g : Option Group) (s : Seg) → g ≡ None → group_inner g s ≡ g
unfolding group_inner
none_group g s e = rw e refl

-- ---- a step
module _ (st : Details) (v : Service) (m : List ℕ) (nth row i : ℕ) where
  pub step_lin : row ≡ 17 → order_ended st (Some (common_of false None)) ≡ details_step st (seg_at v m nth row i)
  unfolding details_step level_step
  step_lin e = rw e refl

  pub step_seq : row ≡ 50 → group_ended st None ≡ details_step st (seg_at v m nth row i)
  unfolding details_step level_step
  step_seq e = rw (e, lesser_last st.orders, other_common st.order v m nth 50 i (λ e. omega arith) (λ e. omega arith)) refl

  pub step_prc : row ≡ 76 → (x : ℕ) → x ≡ code_of (value_in v i m 1 0) → (o : Common) → st.order ≡ Some o
      → group_ended (details_of (Some (common_of o.common (lesser o.prc (Some nth))), st.orders) (st.group, st.groups)) (Some (group_of nth x false false)) ≡ details_step st (seg_at v m nth row i)
  unfolding details_step level_step common_inner test_step some_step
  step_prc e x p o q = rw (e, q, p, lesser_last st.orders) refl

  pub step_prc_none : row ≡ 76 → (x : ℕ) → x ≡ code_of (value_in v i m 1 0) → st.order ≡ None → group_ended st (Some (group_of nth x false false)) ≡ details_step st (seg_at v m nth row i)
  unfolding details_step level_step common_inner
  step_prc_none e x p q = rw (e, q, p, lesser_last st.orders) refl

  pub step_common : row ≡ 47 → (o : Common) → st.order ≡ Some o → details_of (Some (common_of true o.prc), st.orders) (st.group, st.groups) ≡ details_step st (seg_at v m nth row i)
  unfolding details_step level_step common_inner test_step some_step
  step_common e o q = rw (e, q, lesser_last st.orders, lesser_last st.groups, other_group st.group v m nth 47 i (λ e. omega arith) (λ e. omega arith)) refl

  pub step_common_none : row ≡ 47 → st.order ≡ None → st ≡ details_step st (seg_at v m nth row i)
  unfolding details_step level_step
  step_common_none e q = rw (e, lesser_last st.orders, lesser_last st.groups, none_common st.order (seg_at v m nth 47 i) q, other_group st.group v m nth 47 i (λ e. omega arith) (λ e. omega arith)) refl

  pub step_text : row ≡ 77 → (g : Group) → st.group ≡ Some g → details_of (st.order, st.orders) (Some (group_of g.prc g.code true g.documents), st.groups) ≡ details_step st (seg_at v m nth row i)
  unfolding details_step level_step group_inner some_step
  step_text e g q = rw (e, q, lesser_last st.orders, lesser_last st.groups, other_common st.order v m nth 77 i (λ e. omega arith) (λ e. omega arith)) refl

  pub step_text_none : row ≡ 77 → st.group ≡ None → st ≡ details_step st (seg_at v m nth row i)
  unfolding details_step level_step
  step_text_none e q = rw (e, lesser_last st.orders, lesser_last st.groups, none_group st.group (seg_at v m nth 77 i) q, other_common st.order v m nth 77 i (λ e. omega arith) (λ e. omega arith)) refl

  pub step_documents : row ≡ 79 → (g : Group) → st.group ≡ Some g → details_of (st.order, st.orders) (Some (group_of g.prc g.code g.text true), st.groups) ≡ details_step st (seg_at v m nth row i)
  unfolding details_step level_step group_inner some_step
  step_documents e g q = rw (e, q, lesser_last st.orders, lesser_last st.groups, other_common st.order v m nth 79 i (λ e. omega arith) (λ e. omega arith)) refl

  pub step_documents_none : row ≡ 79 → st.group ≡ None → st ≡ details_step st (seg_at v m nth row i)
  unfolding details_step level_step
  step_documents_none e q = rw (e, lesser_last st.orders, lesser_last st.groups, none_group st.group (seg_at v m nth 79 i) q, other_common st.order v m nth 79 i (λ e. omega arith) (λ e. omega arith)) refl

  pub step_other : (row ≡ 17 → ⊥) → (row ≡ 50 → ⊥) → (row ≡ 76 → ⊥) → (row ≡ 47 → ⊥) → (row ≡ 77 → ⊥) → (row ≡ 79 → ⊥) → st ≡ details_step st (seg_at v m nth row i)
  unfolding details_step level_step
  step_other a b c d e f = rw (ne_eqb row 17 a, ne_eqb row 50 b, ne_eqb row 76 c, lesser_last st.orders, lesser_last st.groups, other_common st.order v m nth row i d c, other_group st.group v m nth row i e f) refl
