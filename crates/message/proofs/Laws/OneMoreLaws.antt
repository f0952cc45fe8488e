-- One segment more: what a run and a test of each segment come to. Assumes nothing.
use Rattle.std.specs.Prelude.{◌≡◌, refl, List, [], ◌∷◌, ◌++◌, Bool, true, false, ℕ, Option, None}
use Rattle.std.proofs.Common.{sym, ap, ◌∙◌}
use Rattle.faults.specs.Firsts.{lesser, place_unless}
use Rattle.message.specs.Segs.{Seg, those}
use Rattle.message.specs.Rules.{failing}
use Rattle.message.specs.Forms.Run.{run, first_of, test_step}
use Rattle.message.proofs.Laws.FirstLaws.{test_tells}

pub run_more : {S : Type 0} (f : S → Seg → S) (st : S) (ss : List Seg) (s : Seg) → run f st (ss ++ (s ∷ [])) ≡ f (run f st ss) s
unfolding run
run_more f st [] s = refl
run_more f st (r ∷ ss) s = run_more f (f st r) ss s

pub test_more : (t ok : Seg → Bool) (ss : List Seg) (s : Seg) → first_of (failing ok (those t (ss ++ (s ∷ [])))) ≡ test_step t ok (first_of (failing ok (those t ss))) s
test_more t ok ss s = sym (test_tells t ok (ss ++ (s ∷ []))) ∙ run_more (test_step t ok) None ss s ∙ ap (λ f. test_step t ok f s) (test_tells t ok ss)

-- at a segment of the kind the test adds its place, and elsewhere nothing
module _ (t ok : Seg → Bool) (ss : List Seg) (s : Seg) (f : Option ℕ) (h : f ≡ first_of (failing ok (those t ss))) where
  pub test_here : t s ≡ true → (b : Bool) → b ≡ ok s → (g : Option ℕ) → g ≡ lesser f (place_unless b s.nth) → g ≡ first_of (failing ok (those t (ss ++ (s ∷ []))))
  unfolding test_step
  test_here e b p g q = rw (test_more t ok ss s, e, q, p, h) refl

  pub test_else : t s ≡ false → f ≡ first_of (failing ok (those t (ss ++ (s ∷ []))))
  unfolding test_step
  test_else e = rw (test_more t ok ss s, e) h

pub run_on : {S : Type 0} (f : S → Seg → S) (z : S) (ss : List Seg) (s : Seg) (st u : S) → st ≡ run f z ss → u ≡ f st s → u ≡ run f z (ss ++ (s ∷ []))
run_on f z ss s st u h e = rw (run_more f z ss s, ← h) e
