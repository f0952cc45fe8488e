-- Counts that stop at two, and whether one came: what their runs come to. Assumes nothing.
use Rattle.std.specs.Prelude.{ℕ, ◌+◌, ◌≤◌, ◌<◌, min, ◌≡◌, Bool, ◌||◌, eqb, leb}
use native.Mathlib.Omega.{arith}
use Rattle.std.proofs.Math.Decide.{dec_le, ℕ_discrete}
use Rattle.std.proofs.Math.Path.{refl}
use Rattle.std.proofs.Common.{sym, ◌∙◌, eq-eqb, ne_eqb, le-leb}
use mathlib.Core.List.{List, [], ◌∷◌}
use Rattle.std.proofs.Math.Bool.{true, false}
use Rattle.std.proofs.lemmas.Bool.{lt-leb}
use Rattle.message.specs.Segs.{Seg, those}
use Rattle.message.specs.Rules.{count, some}
use Rattle.message.specs.Forms.Run.{run}
use Rattle.message.specs.Forms.Counts.{cap_step, some_step}

module _ (t : Seg → Bool) where
  cap_turn : (k : ℕ) (s : Seg) (ss : List Seg) (b : Bool) → t s ≡ b → k ≤ 2 → ((k' : ℕ) → k' ≤ 2 → run (cap_step t) k' ss ≡ min (k' + count t ss) 2)
      → run (cap_step t) (cap_step t k s) ss ≡ min (k + count t (s ∷ ss)) 2
  unfolding cap_step those
  cap_turn k s ss false e h ih = rw e (ih k h)
  cap_turn k s ss true e h ih = rw e (ih (min (k + 1) 2) (omega arith) ∙ omega arith)

  cap_run : (k : ℕ) (ss : List Seg) → k ≤ 2 → run (cap_step t) k ss ≡ min (k + count t ss) 2
  unfolding run those
  cap_run k [] h = omega arith
  cap_run k (s ∷ ss) h = cap_turn k s ss (t s) refl h (λ k' g. cap_run k' ss g)

  pub capped : (ss : List Seg) → run (cap_step t) 0 ss ≡ min (count t ss) 2
  capped ss = cap_run 0 ss (omega arith) ∙ omega arith

  some_turn : (b : Bool) (s : Seg) (ss : List Seg) (c : Bool) → t s ≡ c → ((b' : Bool) → run (some_step t) b' ss ≡ b' || some t ss) → run (some_step t) (some_step t b s) ss ≡ b || some t (s ∷ ss)
  unfolding some_step some
  some_turn b s ss false e ih = rw e (ih b)
  some_turn true s ss true e ih = rw e (ih true)
  some_turn false s ss true e ih = rw e (ih true)

  some_run : (b : Bool) (ss : List Seg) → run (some_step t) b ss ≡ b || some t ss
  unfolding run some
  some_run true [] = refl
  some_run false [] = refl
  some_run b (s ∷ ss) = some_turn b s ss (t s) refl (λ b'. some_run b' ss)

  pub some_came : (ss : List Seg) → run (some_step t) false ss ≡ some t ss
  some_came ss = some_run false ss

-- no rule tells two from more
pub cap_eq : (k a : ℕ) → k < 2 → eqb (min a 2) k ≡ eqb a k
cap_eq k a l = go (ℕ_discrete a k)
  where
    go : Dec (a ≡ k) → eqb (min a 2) k ≡ eqb a k
    go (yes e) = eq-eqb (min a 2) k (omega arith) ∙ sym (eq-eqb a k e)
    go (no g) = ne_eqb (min a 2) k (λ e. g (omega arith)) ∙ sym (ne_eqb a k g)

pub cap_one : (a : ℕ) → leb (min a 2) 1 ≡ leb a 1
cap_one a = go (dec_le a 1)
  where
    go : Dec (a ≤ 1) → leb (min a 2) 1 ≡ leb a 1
    go (yes h) = le-leb (min a 2) 1 (omega arith) ∙ sym (le-leb a 1 h)
    go (no g) = lt-leb (min a 2) 1 (omega arith) ∙ sym (lt-leb a 1 (omega arith))
