-- The code's ways through a step of an advice's own rules. Assumes nothing.
use Rattle.std.specs.Prelude.{ℕ, ◌≡◌, List, Bool, true, false, not, ◌||◌, ◌&&◌, eqb, Option, None, Some}
use Rattle.std.proofs.Math.Path.{refl}
use Rattle.std.proofs.Common.{ap, ◌∙◌, ne_eqb}
use Rattle.service.specs.declared.Service.{Service}
use Rattle.service.specs.Tests.{if, alike}
use Rattle.values.specs.Numbers.{value_in}
use Rattle.values.specs.Text.{text}
use Rattle.values.specs.Forms.Values.{code_from, code_of}
use Rattle.values.specs.Forms.Codes as codes
use Rattle.values.specs.Laws.TextLaws.{says_code}
use Rattle.faults.specs.Firsts.{lesser, place_unless}
use Rattle.faults.specs.Laws.FirstsLaws.{lesser_last}
use Rattle.message.specs.Segs.{seg_at}
use Rattle.message.specs.Advices.{date_holds}
use Rattle.message.specs.Forms.Run.{test_step, level_step}
use Rattle.message.specs.Forms.Counts.{some_step}
use Rattle.advice.specs.declared.Dates.{Dates}
use Rattle.advice.specs.declared.Sequence.{Sequence}
use Rattle.advice.specs.declared.Line.{Line}
use Rattle.advice.specs.declared.References.{References}
use Rattle.advice.specs.Forms.Steps.{dates_of, date_by, date_step, sequence_of, line_of, line_comes, refer_step, line_inner, line_tells, references_of, reference_step, first_reference}

-- ---- 30
or_if : (a b : Bool) → a || b ≡ if b true a
or_if true true = refl
or_if true false = refl
or_if false true = refl
or_if false false = refl

by_code : (pre : Bool) (l : List ℕ) → date_by pre (code_of l) ≡ date_holds pre l
unfolding date_by date_holds text code_from
by_code pre l = rw (says_code l "202" refl, says_code l "209" refl, says_code l "455" refl) refl

module _ (st : Dates) (v : Service) (m : List ℕ) (nth row i x : ℕ) (q : x ≡ code_of (value_in v i m 1 0)) where
  pub date_title : row ≡ 2 → dates_of (st.pre || eqb x codes.THREE_HUNDRED_FORTY_TWO) st.coming st.booked ≡ date_step st (seg_at v m nth row i)
  unfolding date_step some_step test_step text code_from
  date_title e = rw (e, q, says_code (value_in v i m 1 0) "342" refl, or_if) refl

  pub date_line : row ≡ 18 → (t u : Bool) → t ≡ date_by true x → u ≡ date_by false x
      → dates_of st.pre (lesser st.coming (place_unless t nth)) (lesser st.booked (place_unless u nth)) ≡ date_step st (seg_at v m nth row i)
  unfolding date_step some_step test_step
  date_line e t u a b = rw (e, a, b, q, by_code true (value_in v i m 1 0), by_code false (value_in v i m 1 0)) refl

pub date_other : (st : Dates) (v : Service) (m : List ℕ) (nth row i : ℕ) → (row ≡ 2 → ⊥) → (row ≡ 18 → ⊥) → st ≡ date_step st (seg_at v m nth row i)
unfolding date_step some_step test_step
date_other st v m nth row i a b = rw (ne_eqb row 2 a, ne_eqb row 18 b)

-- ---- 31
pub line_none : (a : Option Line) → a ≡ None → None ≡ line_comes a
line_none a e = rw e refl

module _ (o : Option Line) (a : Line) (e : o ≡ Some a) where
  pub sequence_none : a.sequence ≡ None → None ≡ line_comes o
  sequence_none h = rw (e, h) refl

  pub sequence_some : (q : Sequence) → a.sequence ≡ Some q → (f : Option ℕ) → f ≡ place_unless (alike q.referenced a.detailed) q.nth → f ≡ line_comes o
  sequence_some q h f p = rw (e, h, p) refl

module _ (st : References) (v : Service) (m : List ℕ) (nth row i : ℕ) where
  pub reference_lin : row ≡ 17 → (x : ℕ) → x ≡ code_of (value_in v i m 2 0) → (f : Option ℕ) → f ≡ first_reference st → references_of (Some (line_of (not (eqb x codes.HUNDRED_SIX)) None), f) ≡ reference_step st (seg_at v m nth row i)
  unfolding reference_step level_step text code_from
  reference_lin e x q f p = rw (e, q, p, says_code (value_in v i m 2 0) "106" refl) refl

  pub reference_seq : row ≡ 43 → (f : Option ℕ) → f ≡ first_reference st → (a : Line) → st.line ≡ Some a → references_of (Some (line_of a.detailed (Some (sequence_of nth false))), f) ≡ reference_step st (seg_at v m nth row i)
  unfolding reference_step level_step line_inner line_tells
  reference_seq e f p a q = rw (p, e, q) refl

  pub reference_seq_none : row ≡ 43 → (f : Option ℕ) → f ≡ first_reference st → st.line ≡ None → references_of (st.line, f) ≡ reference_step st (seg_at v m nth row i)
  unfolding reference_step level_step line_inner line_tells
  reference_seq_none e f p q = rw (p, e, q) refl

  pub reference_rff : row ≡ 48 → (a : Line) → st.line ≡ Some a → (q : Sequence) → a.sequence ≡ Some q
      → references_of (Some (line_of a.detailed (Some (sequence_of q.nth true))), st.first31) ≡ reference_step st (seg_at v m nth row i)
  unfolding reference_step level_step line_inner line_tells refer_step some_step
  reference_rff e a p q h = rw (e, p, h, lesser_last st.first31) refl

  pub reference_rff_line : row ≡ 48 → st.line ≡ None → st ≡ reference_step st (seg_at v m nth row i)
  unfolding reference_step level_step line_inner line_tells
  reference_rff_line e p = ap (λ (l : Option Line). references_of (l, st.first31)) p ∙ rw (e, p, lesser_last st.first31) refl

  pub reference_rff_none : row ≡ 48 → (a : Line) → st.line ≡ Some a → a.sequence ≡ None → references_of (Some a, st.first31) ≡ reference_step st (seg_at v m nth row i)
  unfolding reference_step level_step line_inner line_tells refer_step
  reference_rff_none e a p h = rw (e, p, h, lesser_last st.first31) refl

  other_line : (o : Option Line) → (row ≡ 43 → ⊥) → (row ≡ 48 → ⊥) → (line_inner o (seg_at v m nth row i) ≡ o) × (line_tells o (seg_at v m nth row i) ≡ None)
  unfolding line_inner line_tells refer_step some_step
  other_line None b c = (refl, refl)
  other_line (Some a) b c = go a.sequence refl
    where
      go : (q : Option Sequence) → a.sequence ≡ q → (line_inner (Some a) (seg_at v m nth row i) ≡ Some a) × (line_tells (Some a) (seg_at v m nth row i) ≡ None)
      go None h = (rw (ne_eqb row 43 b, h) refl, rw (ne_eqb row 43 b) refl)
      go (Some q) h = (rw (h, ne_eqb row 43 b, ne_eqb row 48 c) refl, rw (ne_eqb row 43 b) refl)

  pub reference_other : (row ≡ 17 → ⊥) → (row ≡ 43 → ⊥) → (row ≡ 48 → ⊥) → st ≡ reference_step st (seg_at v m nth row i)
  unfolding reference_step level_step
  reference_other a b c = let o = other_line st.line b c in rw (ne_eqb row 17 a, o.0, o.1, lesser_last st.first31) refl
