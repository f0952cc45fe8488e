-- What the runs of an advice's rules come to: the first faults under 30 and 31. Assumes nothing.
use Rattle.std.specs.Prelude.{ℕ, ◌≡◌, Bool, not, Option, None, Some}
use Rattle.std.proofs.Math.Path.{refl}
use Rattle.std.proofs.Common.{sym, ap, ◌∙◌}
use mathlib.Core.List.{List, [], ◌∷◌}
use Rattle.std.proofs.Math.Bool.{true, false}
use Rattle.service.specs.Tests.{if}
use Rattle.values.specs.Text.{says}
use Rattle.faults.specs.Firsts.{lesser}
use Rattle.faults.specs.Laws.FirstsLaws.{lesser_group}
use Rattle.message.specs.Segs.{Seg, those}
use Rattle.message.specs.Rules.{some, failing}
use Rattle.message.specs.Advices.{DTM4, SEQ, RFF11, is, pre_advice, rule30, fault31_c, fault31, rule31}
use Rattle.message.specs.Forms.Run.{run, first_of, test_step, Level, level_step, close}
use Rattle.message.specs.Forms.Counts.{some_step}
use Rattle.message.proofs.Laws.FirstLaws.{none_lesser, first_unless, test_tells}
use Rattle.message.proofs.Laws.LevelLaws.{goes, goes_late, Tells, level_tells}
use Rattle.message.proofs.Laws.CountLaws.{some_came}
use Rattle.advice.specs.declared.Dates.{Dates}
use Rattle.advice.specs.declared.Sequence.{Sequence}
use Rattle.advice.specs.declared.References.{References}
use Rattle.advice.specs.Forms.Steps.{dates_of, dates_start, announces, date_is, date_step, first_date, sequence_of, line_of, sequence_comes, refer_step, line_inner, line_tells, level31, references_of, line_part, references_start, reference_step, first_reference}

-- ---- 30
dates_run : (st : Dates) (ss : List Seg) → run date_step st ss ≡ dates_of (run (some_step announces) st.pre ss) (run (test_step (is DTM4) (date_is true)) st.coming ss) (run (test_step (is DTM4) (date_is false)) st.booked ss)
unfolding run date_step
dates_run st [] = refl
dates_run st (s ∷ ss) = dates_run (date_step st s) ss

by_title : (b : Bool) (ss : List Seg) → if b (first_of (failing (date_is true) ss)) (first_of (failing (date_is false) ss)) ≡ first_of (failing (date_is b) ss)
by_title true ss = refl
by_title false ss = refl

pub agree30 : (m : List Seg) → first_date (run date_step dates_start m) ≡ first_of (rule30 m)
unfolding rule30 pre_advice
agree30 m = rw (dates_run dates_start m, some_came announces m, test_tells (is DTM4) (date_is true) m, test_tells (is DTM4) (date_is false) m) (by_title (some announces m) (those (is DTM4) m))

-- ---- 31: under one LIN the SEQ are a level by themselves
abbrev level31_c : Bool → Level (Option Sequence)
level31_c d = record { opens = is SEQ; ends = is SEQ; start = λ s. Some (sequence_of s.nth false); idle = None; inner = refer_step; tells = λ a s. None; comes = sequence_comes d }

sequence_run : (n : ℕ) (r : Bool) (ss : List Seg) → run refer_step (Some (sequence_of n r)) ss ≡ Some (sequence_of n (run (some_step (is RFF11)) r ss))
unfolding run refer_step
sequence_run n r [] = refl
sequence_run n r (s ∷ ss) = sequence_run n (some_step (is RFF11) r s) ss

sequence_none : (ss : List Seg) → run refer_step None ss ≡ None
unfolding run refer_step
sequence_none [] = refl
sequence_none (s ∷ ss) = sequence_none ss

tells31_c : (code : List ℕ) → Tells (level31_c (not (says code "106"))) (fault31_c code)
tells31_c code = let L = level31_c (not (says code "106")) in record {
  sound = λ s ss. rw (first_unless, goes_late L (λ a s. refl) (L.start s) ss, sequence_run, some_came (is RFF11));
  quiet = λ ss. goes_late L (λ a s. refl) L.idle ss ∙ rw (sequence_none ss);
  ended = λ s e. e;
}

-- and what the level of the LIN tells of them
module _ (d : Bool) where
  line_turn : (a : Option Sequence) (f : Option ℕ) (s : Seg) (ss : List Seg) (b : Bool) → is SEQ s ≡ b
      → ((a' : Option Sequence) (f' : Option ℕ) → close (level31_c d) (run (level_step (level31_c d)) (a', f') ss) ≡ lesser f' (goes level31 (Some (line_of d a')) ss))
      → close (level31_c d) (run (level_step (level31_c d)) (level_step (level31_c d) (a, f) s) ss) ≡ lesser f (goes level31 (Some (line_of d a)) (s ∷ ss))
  unfolding level_step goes line_inner line_tells
  line_turn a f s ss true e ih = rw e (ih (Some (sequence_of s.nth false)) (lesser f (sequence_comes d a)) ∙ lesser_group _ _ _)
  line_turn a f s ss false e ih = rw e (ih (refer_step a s) (lesser f None) ∙ lesser_group _ _ _)

  line_goes : (a : Option Sequence) (f : Option ℕ) (ss : List Seg) → close (level31_c d) (run (level_step (level31_c d)) (a, f) ss) ≡ lesser f (goes level31 (Some (line_of d a)) ss)
  unfolding run close goes
  line_goes a f [] = refl
  line_goes a f (s ∷ ss) = line_turn a f s ss (is SEQ s) refl (λ a' f'. line_goes a' f' ss)

-- before the first LIN nothing is told
quiet : (ss : List Seg) → goes level31 None ss ≡ None
unfolding goes line_inner line_tells
quiet [] = refl
quiet (s ∷ ss) = none_lesser _ ∙ quiet ss

tells31 : Tells level31 fault31
tells31 = record {
  sound = λ s ss. let d = not (says (s.value 2 0) "106") in sym (level_tells (level31_c d) (fault31_c (s.value 2 0)) (tells31_c (s.value 2 0)) ss) ∙ line_goes d None None ss ∙ none_lesser _;
  quiet = quiet;
  ended = λ s e. e;
}

references_run : (st : References) (ss : List Seg) → run reference_step st ss ≡ references_of (run (level_step level31) (line_part st) ss)
unfolding run reference_step
references_run st [] = refl
references_run st (s ∷ ss) = references_run (reference_step st s) ss

pub agree31 : (m : List Seg) → first_reference (run reference_step references_start m) ≡ first_of (rule31 m)
unfolding rule31 close
agree31 m = rw (references_run references_start m) (level_tells level31 fault31 tells31 m)
