-- What the run of details comes to: the first fault under 28. Assumes nothing.
use Rattle.std.specs.Prelude.{ℕ, ◌≡◌, refl, List, [], ◌∷◌, Bool, true, false, not, ◌||◌, Option, None, Some}
use Rattle.std.proofs.Common.{sym, ap, ◌∙◌}
use Rattle.service.specs.Tests.{if}
use Rattle.values.specs.Text.{text}
use Rattle.values.specs.Forms.Values.{code_from, code_of}
use Rattle.values.specs.Laws.TextLaws.{says_code}
use Rattle.message.specs.Segs.{Seg, LIN, SEQ, PRC10, PRC16, FTX16, DOC17, is, those}
use Rattle.message.specs.Rules.{some, failing, details_hold, fault28_b, fault28_c, rule28}
use Rattle.message.specs.Forms.Run.{run, first_of, test_step, level_step}
use Rattle.message.proofs.Laws.FirstLaws.{first_append, first_unless, test_tells}
use Rattle.message.proofs.Laws.LevelLaws.{goes_late, Tells, level_tells}
use Rattle.message.specs.Forms.Counts.{some_step}
use Rattle.message.proofs.Laws.CountLaws.{some_came}
use Rattle.details.specs.declared.Details.{Details}
use Rattle.details.specs.Forms.Steps.{common_of, group_of, common_inner, group_inner, common_comes, group_holds, group_comes, level28_b, level28_c, details_of, order_part, group_part, details_start, details_step, details_close}

-- each part runs by itself, and where there is no level nothing comes
common_run : (c : Bool) (f : Option ℕ) (ss : List Seg) → run common_inner (Some (common_of c f)) ss ≡ Some (common_of (run (some_step (is PRC10)) c ss) (run (test_step (is PRC16) (λ s. false)) f ss))
unfolding run common_inner
common_run c f [] = refl
common_run c f (s ∷ ss) = common_run (some_step (is PRC10) c s) (test_step (is PRC16) (λ s. false) f s) ss

common_none : (ss : List Seg) → run common_inner None ss ≡ None
unfolding run common_inner
common_none [] = refl
common_none (s ∷ ss) = common_none ss

group_run : (n x : ℕ) (t d : Bool) (ss : List Seg) → run group_inner (Some (group_of n x t d)) ss ≡ Some (group_of n x (run (some_step (is FTX16)) t ss) (run (some_step (is DOC17)) d ss))
unfolding run group_inner
group_run n x t d [] = refl
group_run n x t d (s ∷ ss) = group_run n x (some_step (is FTX16) t s) (some_step (is DOC17) d s) ss

group_none : (ss : List Seg) → run group_inner None ss ≡ None
unfolding run group_inner
group_none [] = refl
group_none (s ∷ ss) = group_none ss

-- all segments, or none
passing : (ss : List Seg) → failing (λ s. true) ss ≡ []
unfolding failing
passing [] = refl
passing (s ∷ ss) = passing ss

all_or_none : (b : Bool) (ss : List Seg) → first_of (failing (λ s. not b) ss) ≡ if b (first_of (failing (λ s. false) ss)) None
unfolding first_of
all_or_none true ss = refl
all_or_none false ss = ap first_of (passing ss)

tells28_b : Tells level28_b fault28_b
unfolding common_comes
tells28_b = record {
  sound = λ s ss. all_or_none (some (is PRC10) ss) (those (is PRC16) ss) ∙ sym (goes_late level28_b (λ o s. refl) (level28_b.start s) ss ∙ rw (common_run, some_came (is PRC10), test_tells (is PRC16) (λ s. false)));
  quiet = λ ss. goes_late level28_b (λ o s. refl) level28_b.idle ss ∙ rw (common_none ss);
  ended = λ s e. e;
}

neither : (a b c : Bool) → a || b || c ≡ false → c ≡ false
neither true b c e = cc
neither false true c e = cc
neither false false c e = e

by_code : (l : List ℕ) (t d : Bool) → details_hold l t d ≡ group_holds (code_of l) t d
unfolding details_hold group_holds text code_from
by_code l t d = rw (says_code l "8" refl, says_code l "9" refl, says_code l "10" refl, says_code l "11" refl)

tells28_c : Tells level28_c fault28_c
unfolding group_comes
tells28_c = record {
  sound = λ s ss. rw (first_unless, by_code, goes_late level28_c (λ g s. refl) (level28_c.start s) ss, group_run, some_came (is FTX16), some_came (is DOC17));
  quiet = λ ss. goes_late level28_c (λ g s. refl) level28_c.idle ss ∙ rw (group_none ss);
  ended = λ s e. neither (is LIN s) (is SEQ s) (is PRC16 s) e;
}

-- the run of both is the two runs
parts : (st : Details) (ss : List Seg) → run details_step st ss ≡ details_of (run (level_step level28_b) (order_part st) ss) (run (level_step level28_c) (group_part st) ss)
unfolding run details_step
parts st [] = refl
parts st (s ∷ ss) = parts (details_step st s) ss

pub agree28 : (m : List Seg) → details_close (run details_step details_start m) ≡ first_of (rule28 m)
unfolding rule28 details_close
agree28 m = rw (parts details_start m, level_tells level28_b fault28_b tells28_b m, level_tells level28_c fault28_c tells28_c m) (sym (first_append _ _))
