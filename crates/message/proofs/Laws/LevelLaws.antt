-- A level's run comes to the first fault of its stretches. Assumes nothing.
use Rattle.std.specs.Prelude.{ℕ, ◌≡◌, Bool, Option, None}
use Rattle.std.proofs.Math.Path.{refl}
use Rattle.std.proofs.Common.{◌∙◌}
use mathlib.Core.List.{List, [], ◌∷◌}
use Rattle.std.proofs.Math.Bool.{true, false}
use Rattle.faults.specs.Firsts.{lesser}
use Rattle.faults.specs.Laws.FirstsLaws.{lesser_last, lesser_group}
use Rattle.message.specs.Segs.{Seg, Stretch, stretches, until, each}
use Rattle.message.specs.Forms.Run.{run, first_of, Level, level_step, close}
use Rattle.message.proofs.Laws.FirstLaws.{none_lesser, first_append}

-- what a level tells of the segments of one stretch
unfoldable pub goes : {A : Type 0} → Level A → A → List Seg → Option ℕ
goes L a [] = L.comes a
goes L a (s ∷ ss) = lesser (L.tells a s) (goes L (L.inner a s) ss)

-- what a level owes to stand for the faults f of a stretch
pub record Tells {A : Type 0} (L : Level A) (f : Stretch → List ℕ) : Type 0 where
  pub sound : (s : Seg) (ss : List Seg) → first_of (f (record { head = s; body = ss })) ≡ goes L (L.start s) ss
  pub quiet : (ss : List Seg) → goes L L.idle ss ≡ None
  pub ended : (s : Seg) → L.ends s ≡ false → L.opens s ≡ false

module _ {A : Type 0} (L : Level A) (f : Stretch → List ℕ) (T : Tells L f) where
  -- what is told from here on, with `a` gathered and g the first so far
  abbrev owed : A → Option ℕ → List Seg → Option ℕ
  owed a g ss = lesser g (lesser (goes L a (until L.ends ss)) (first_of (each f (stretches L.opens L.ends ss))))

  turn : (a : A) (g : Option ℕ) (s : Seg) (ss : List Seg) (e o : Bool) → L.ends s ≡ e → L.opens s ≡ o
      → ((a' : A) (g' : Option ℕ) → close L (run (level_step L) (a', g') ss) ≡ owed a' g' ss)
      → close L (run (level_step L) (level_step L (a, g) s) ss) ≡ owed a g (s ∷ ss)
  unfolding level_step until stretches each goes
  turn a g s ss false false p q ih = rw (p, q) (ih (L.inner a s) (lesser g (L.tells a s)) ∙ rw (lesser_group, lesser_group))
  turn a g s ss false true p q ih = cc (T.ended s p)
  turn a g s ss true true p q ih =
      rw (p, q) (ih (L.start s) (lesser g (L.comes a)) ∙ rw (first_append, T.sound s (until L.ends ss), lesser_group g))
  turn a g s ss true false p q ih =
      rw (p, q) (ih L.idle (lesser g (L.comes a)) ∙ rw (T.quiet (until L.ends ss), none_lesser, lesser_group))

  level_owes : (a : A) (g : Option ℕ) (ss : List Seg) → close L (run (level_step L) (a, g) ss) ≡ owed a g ss
  unfolding run close until stretches each first_of goes
  level_owes a g [] = rw (lesser_last (L.comes a))
  level_owes a g (s ∷ ss) = turn a g s ss (L.ends s) (L.opens s) refl refl (λ a' g'. level_owes a' g' ss)

  pub level_tells : (m : List Seg) → close L (run (level_step L) (L.idle, None) m) ≡ first_of (each f (stretches L.opens L.ends m))
  level_tells m = level_owes L.idle None m ∙ rw (T.quiet (until L.ends m), none_lesser, none_lesser)

-- a level that tells nothing before its stretch ends
module _ {A : Type 0} (L : Level A) (h : (a : A) (s : Seg) → L.tells a s ≡ None) where
  pub goes_late : (a : A) (ss : List Seg) → goes L a ss ≡ L.comes (run L.inner a ss)
  unfolding goes run
  goes_late a [] = refl
  goes_late a (s ∷ ss) = rw (h a s, none_lesser) (goes_late (L.inner a s) ss)
