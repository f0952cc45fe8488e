-- The first of some places, and what a test of each segment comes to. Assumes nothing.
use Rattle.std.specs.Prelude.{ℕ, ◌<◌, ◌≡◌, Bool, Option, None, Some}
use Rattle.std.proofs.Common.{arith, ap, ◌∙◌, le-leb}
use Rattle.std.proofs.Math.Decide.{dec_lt}
use Rattle.std.proofs.Math.Path.{refl, sym}
use mathlib.Core.List.{List, [], ◌∷◌, ◌++◌}
use Rattle.std.proofs.Math.Bool.{true, false}
use Rattle.std.proofs.lemmas.Bool.{lt-leb}
use Rattle.faults.specs.Firsts.{lesser, place_unless}
use Rattle.faults.specs.Laws.FirstsLaws.{lesser_last, lesser_group}
use Rattle.message.specs.Segs.{Seg, those}
use Rattle.message.specs.Rules.{unless, failing}
use Rattle.message.specs.Forms.Run.{run, first_of, test_step}

pub none_lesser : (a : Option ℕ) → lesser None a ≡ a
unfolding lesser
none_lesser a = refl

-- which of two places comes first does not hang on their order
lesser_both : (p q : ℕ) → Dec (p < q) → Dec (q < p) → lesser (Some p) (Some q) ≡ lesser (Some q) (Some p)
unfolding lesser
lesser_both p q (yes h) y = rw (le-leb p q (omega arith), lt-leb q p h)
lesser_both p q (no g) (yes h) = rw (lt-leb p q h, le-leb q p (omega arith))
lesser_both p q (no g) (no h) = let e : p ≡ q = omega arith in rw e

pub lesser_swap : (a b : Option ℕ) → lesser a b ≡ lesser b a
unfolding lesser
lesser_swap None b = sym (lesser_last b)
lesser_swap (Some p) None = lesser_last (Some p)
lesser_swap (Some p) (Some q) = lesser_both p q (dec_lt p q) (dec_lt q p)

pub first_append : (xs ys : List ℕ) → first_of (xs ++ ys) ≡ lesser (first_of xs) (first_of ys)
unfolding first_of
first_append [] ys = sym (none_lesser (first_of ys))
first_append (x ∷ xs) ys = rw (first_append xs ys) (sym (lesser_group (Some x) (first_of xs) (first_of ys)))

pub first_unless : (b : Bool) (s : Seg) → first_of (unless b s) ≡ place_unless b s.nth
unfolding first_of
first_unless true s = refl
first_unless false s = lesser_last (Some s.nth)

-- one place more, before the others
pub first_more : (f : Option ℕ) (b : Bool) (s : Seg) (ps : List ℕ) → lesser (lesser f (place_unless b s.nth)) (first_of ps) ≡ lesser f (first_of (unless b s ++ ps))
first_more f b s ps = lesser_group f (place_unless b s.nth) (first_of ps) ∙ ap (lesser f) (sym (first_append (unless b s) ps ∙ ap (λ (g : Option ℕ). lesser g (first_of ps)) (first_unless b s)))

module _ (t ok : Seg → Bool) where
  test_turn : (f : Option ℕ) (s : Seg) (ss : List Seg) (b : Bool) → t s ≡ b → ((f' : Option ℕ) → run (test_step t ok) f' ss ≡ lesser f' (first_of (failing ok (those t ss))))
      → run (test_step t ok) (test_step t ok f s) ss ≡ lesser f (first_of (failing ok (those t (s ∷ ss))))
  unfolding test_step those failing
  test_turn f s ss false e ih = rw e (ih f)
  test_turn f s ss true e ih = rw e (ih (lesser f (place_unless (ok s) s.nth)) ∙ first_more f (ok s) s (failing ok (those t ss)))

  test_run : (f : Option ℕ) (ss : List Seg) → run (test_step t ok) f ss ≡ lesser f (first_of (failing ok (those t ss)))
  unfolding run those failing first_of
  test_run f [] = sym (lesser_last f)
  test_run f (s ∷ ss) = test_turn f s ss (t s) refl (λ f'. test_run f' ss)

  -- a test of each segment of a kind comes to the first that fails it
  pub test_tells : (m : List Seg) → run (test_step t ok) None m ≡ first_of (failing ok (those t m))
  test_tells m = test_run None m ∙ none_lesser _
