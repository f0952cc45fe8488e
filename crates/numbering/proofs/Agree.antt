-- What the run of numbering comes to: the first faults under 20, 21 and 29. Assumes nothing.
use Rattle.std.specs.Prelude.{ℕ, suc, ◌+◌, min, ◌≡◌, refl, List, [], ◌∷◌, Bool, true, false, ◌&&◌, Option, None, Some}
use Rattle.std.proofs.Common.{arith, sym, ◌∙◌}
use Rattle.values.specs.Text.{says}
use Rattle.faults.specs.Firsts.{lesser, place_unless}
use Rattle.faults.specs.Laws.FirstsLaws.{lesser_last}
use Rattle.message.specs.Segs.{Seg, SEQ, CNT, is, on_row, those}
use Rattle.message.specs.Rules.{writes, unless, misnumbered, fault21, rule20, rule21, rule29}
use Rattle.message.specs.Forms.Run.{run, first_of, close}
use Rattle.message.proofs.Laws.FirstLaws.{none_lesser, first_append, first_unless, first_more, test_tells}
use Rattle.message.proofs.Laws.LevelLaws.{goes, Tells, level_tells}
use Rattle.message.specs.Forms.Counts.{most}
use Rattle.message.proofs.Laws.ValueLaws.{writes_capped}
use Rattle.numbering.specs.Steps.{line_step, lines_after, count_seq, tell_seq, level21, sequence_step, sequences_after, control_step, control_after}

-- a number that stopped at the end, and the next
next_capped : (k : ℕ) → min (min k most + 1) most ≡ min (suc k) most
next_capped k = omega arith

-- ---- 20
line_turn : (lin : ℕ) (k : ℕ) (f : Option ℕ) (s : Seg) (ss : List Seg) (b : Bool) → on_row lin s ≡ b
    → ((k' : ℕ) (f' : Option ℕ) → (run (line_step lin) (min k' most, f') ss).1 ≡ lesser f' (first_of (misnumbered 1 (suc k') (those (on_row lin) ss))))
    → (run (line_step lin) (line_step lin (min k most, f) s) ss).1 ≡ lesser f (first_of (misnumbered 1 (suc k) (those (on_row lin) (s ∷ ss))))
unfolding line_step those misnumbered
line_turn lin k f s ss false e ih = rw e (ih k f)
line_turn lin k f s ss true e ih =
    rw (e, next_capped k, writes_capped (s.value 1 0) (suc k))
    (ih (suc k) (lesser f (place_unless (writes (s.value 1 0) (suc k)) s.nth)) ∙ first_more f (writes (s.value 1 0) (suc k)) s (misnumbered 1 (suc (suc k)) (those (on_row lin) ss)))

line_run : (lin : ℕ) (k : ℕ) (f : Option ℕ) (ss : List Seg) → (run (line_step lin) (min k most, f) ss).1 ≡ lesser f (first_of (misnumbered 1 (suc k) (those (on_row lin) ss)))
unfolding run those misnumbered first_of
line_run lin k f [] = sym (lesser_last f)
line_run lin k f (s ∷ ss) = line_turn lin k f s ss (on_row lin s) refl (λ k' f'. line_run lin k' f' ss)

pub agree20 : (lin : ℕ) (m : List Seg) → (lines_after lin m).1 ≡ first_of (rule20 lin m)
unfolding rule20
agree20 lin m = line_run lin 0 None m ∙ none_lesser _

-- ---- 21
sequence_turn : (k : ℕ) (s : Seg) (ss : List Seg) (b : Bool) → is SEQ s ≡ b
    → ((k' : ℕ) → goes level21 (Some (min k' most)) ss ≡ first_of (misnumbered 2 (suc k') (those (is SEQ) ss)))
    → lesser (tell_seq (Some (min k most)) s) (goes level21 (count_seq (Some (min k most)) s) ss) ≡ first_of (misnumbered 2 (suc k) (those (is SEQ) (s ∷ ss)))
unfolding count_seq tell_seq those misnumbered
sequence_turn k s ss false e ih = rw (e, none_lesser) (ih k)
sequence_turn k s ss true e ih =
    rw (e, next_capped k, writes_capped (s.value 2 0) (suc k), ih (suc k))
    (sym (first_append (unless (writes (s.value 2 0) (suc k)) s) _ ∙ rw (first_unless (writes (s.value 2 0) (suc k)) s)))

sequence_goes : (k : ℕ) (ss : List Seg) → goes level21 (Some (min k most)) ss ≡ first_of (misnumbered 2 (suc k) (those (is SEQ) ss))
unfolding goes those misnumbered first_of
sequence_goes k [] = refl
sequence_goes k (s ∷ ss) = sequence_turn k s ss (is SEQ s) refl (λ k'. sequence_goes k' ss)

quiet : (ss : List Seg) → goes level21 None ss ≡ None
unfolding goes count_seq tell_seq
quiet [] = refl
quiet (s ∷ ss) = none_lesser _ ∙ quiet ss

tells21 : Tells level21 fault21
tells21 = record { sound = λ s ss. sym (sequence_goes 0 ss); quiet = quiet; ended = λ s e. e }

pub agree21 : (m : List Seg) → (sequences_after m).1 ≡ first_of (rule21 m)
unfolding sequence_step rule21 close
agree21 m = sym (lesser_last _) ∙ level_tells level21 fault21 tells21 m

-- ---- 29
pub agree29 : (n : ℕ) (m : List Seg) → control_after n m ≡ first_of (rule29 n m)
unfolding control_step rule29
agree29 n m = test_tells (λ s. is CNT s && says (s.value 1 0) "2") (λ s. writes (s.value 1 1) n) m
