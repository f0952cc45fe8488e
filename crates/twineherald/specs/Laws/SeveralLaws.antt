-- The walk from each of several positions: the ways through the loop, and that no second answer meets `SteppedEach`. Assumes nothing.
use Rattle.std.specs.Prelude.{ℕ, suc, ◌+◌, ◌≤◌, ◌<◌, ◌≡◌, refl, List, [], ◌∷◌, length, get_or, set}
use Rattle.std.proofs.Common.{arith, sym, ap, ◌∙◌, subst}
use Rattle.walk.specs.Steps.{Walked}
use Rattle.walk.specs.Walks.{Judges, judges}
use Rattle.walk.specs.Laws.JudgesLaws.{one_judge}
use Rattle.twineherald.specs.declared.StepNumbers.{StepNumbers}
use Rattle.twineherald.specs.Numbers.{step_of, stepped}
use Rattle.twineherald.specs.Several.{numbers_of, Answered, answered, AnsweredEach, no_more, one_more_lem, SteppedEach, given, shorter}
use Rattle.twineherald.specs.Forms.Upto.{AnsweredUpto, none_yet, one_yet}

pub answer_by : (b : List ℕ) (at : ℕ) (w : Walked) → Judges b at w → (y : StepNumbers) → y ≡ step_of w → (r : List ℕ) → r ≡ numbers_of y → Answered b at r
answer_by b at w (judges x x' l h) y e r q = answered x x' y l (stepped w h e) q

-- ---- the loop
module _ (b : List ℕ) where
  pub upto_none : (ps : List ℕ) (a : List (List ℕ)) → AnsweredUpto b 0 ps a a
  upto_none ps a = none_yet ps a a refl

  upto_long : (i : ℕ) (ps : List ℕ) (a a' : List (List ℕ)) → AnsweredUpto b i ps a a' → length a' ≡ length a
  upto_long i ps a a' (none_yet qs c c' e) = ap length e
  upto_long i ps a a' (one_yet j at qs q r c c' h w) = let z = upto_long j qs c c' w in omega arith

  upto_on : (i : ℕ) (ps : List ℕ) (a a' : List (List ℕ)) → AnsweredUpto b i ps a a' → i < length ps → length ps ≤ length a → (r : List ℕ) → Answered b (get_or ps i 0) r → AnsweredUpto b (suc i) ps a (set a' i r)
  upto_on i [] a a' w h l r k = absurd (omega arith)
  upto_on i (at ∷ ps) [] a' w h l r k = absurd (omega arith)
  upto_on i (at ∷ ps) (q ∷ a) a' (none_yet qs c c' e) h l r k = subst (λ (z : List (List ℕ)). AnsweredUpto b 1 (at ∷ ps) (q ∷ a) (set z 0 r)) (sym e) (one_yet 0 at ps q r a a k (none_yet ps a a refl))
  upto_on i (at ∷ ps) (q ∷ a) a' (one_yet j at' qs q' s c c' g w) h l r k = one_yet (suc j) at ps q s a (set c' j r) g (upto_on j ps a c' w (omega arith) (omega arith) r k)

  upto_end : (i : ℕ) (ps : List ℕ) (a a' : List (List ℕ)) → AnsweredUpto b i ps a a' → length ps ≤ i → AnsweredEach b ps a a'
  upto_end i [] a a' (none_yet qs c c' e) h = no_more a a' e
  upto_end i (at ∷ ps) a a' (none_yet qs c c' e) h = absurd (omega arith)
  upto_end i ps a a' (one_yet j at qs q r c c' g w) h = one_more_lem at qs q r c c' g (upto_end j qs c c' w (omega arith))

module _ (b : List ℕ) (i : ℕ) (ps : List ℕ) (a a' : List (List ℕ)) (w : AnsweredUpto b i ps a a') (l : length ps ≤ length a) where
  pub upto_room : i < length ps → i < length a'
  upto_room h = let z = upto_long b i ps a a' w in omega arith

  pub upto_next : i < length ps → (at : ℕ) → at ≡ get_or ps i 0 → (r : List ℕ) → Answered b at r → AnsweredUpto b (i + 1) ps a (set a' i r)
  upto_next h at e r k = let z : i + 1 ≡ suc i = omega arith in rw z (upto_on b i ps a a' w h l r (subst (λ (n : ℕ). Answered b n r) e k))

  pub upto_all : length ps ≤ i → AnsweredEach b ps a a'
  upto_all h = upto_end b i ps a a' w h

  pub upto_same : length a' ≡ length a
  upto_same = upto_long b i ps a a' w

-- ---- the call
module _ (b ps : List ℕ) (a : List (List ℕ)) where
  pub each_short : length a < length ps → SteppedEach b ps a a 14
  each_short h = shorter h refl refl

  pub each_given : (a' : List (List ℕ)) → AnsweredEach b ps a a' → SteppedEach b ps a a' 0
  each_given a' w = given w refl

-- the numbers are the step's own
pub numbers_one : (y z : StepNumbers) → numbers_of y ≡ numbers_of z → y ≡ z
numbers_one y z q = λ i. record {
  found = get_or (q i) 0 0;
  start = get_or (q i) 1 0;
  end = get_or (q i) 2 0;
  report = record { number = get_or (q i) 3 0; segment = get_or (q i) 4 0; offset = get_or (q i) 5 0; segments = get_or (q i) 6 0; orders = get_or (q i) 7 0; payments = get_or (q i) 8 0 };
}

-- ---- no second answer
pub walked_by : (b : List ℕ) (at : ℕ) (r : List ℕ) → Answered b at r → (w : Walked) × Judges b at w × (r ≡ numbers_of (step_of w))
walked_by b at r (answered x x' y l (stepped w h e) q) = (w, judges x x' l h, q ∙ ap numbers_of e)

pub one_answered : (b : List ℕ) (at : ℕ) (r q : List ℕ) → Answered b at r → Answered b at q → r ≡ q
one_answered b at r q h g =
    let x = walked_by b at r h in
    let y = walked_by b at q g in
    x.2 ∙ ap (λ (w : Walked). numbers_of (step_of w)) (one_judge b at x.0 y.0 x.1 y.1) ∙ sym y.2

pub each_long : (b ps : List ℕ) (a a' : List (List ℕ)) → AnsweredEach b ps a a' → length ps ≤ length a
each_long b ps a a' (no_more c c' e) = omega arith
each_long b ps a a' (one_more_lem at qs q r c c' k w) = let z = each_long b qs c c' w in omega arith

one_each : (b ps : List ℕ) (a c d : List (List ℕ)) → AnsweredEach b ps a c → AnsweredEach b ps a d → c ≡ d
one_each b [] a c d (no_more a1 c1 e) (no_more a2 d1 f) = e ∙ sym f
one_each b (at ∷ ps) (q ∷ a) (r ∷ c) (s ∷ d) (one_more_lem at1 ps1 q1 r1 a1 c1 k w) (one_more_lem at2 ps2 q2 r2 a2 d2 l u) =
    let x = one_answered b at r s k l in
    let y = one_each b ps a c d w u in
    rw (x, y)
one_each b (at ∷ ps) [] c d x4 _ = elim x4 [ ]
one_each b (at ∷ ps) (q ∷ a) [] d x7 _ = elim x7 [ ]
one_each b (at ∷ ps) (q ∷ a) (r ∷ c) [] _ x11 = elim x11 [ ]

pub one_steps : (b ps : List ℕ) (a c d : List (List ℕ)) (x y : ℕ) → SteppedEach b ps a c x → SteppedEach b ps a d y → (x ≡ y) × (c ≡ d)
one_steps b ps a c d x y (given h e) (given g f) = (e ∙ sym f, one_each b ps a c d h g)
one_steps b ps a c d x y (given h e) (shorter l q f) = absurd (let z = each_long b ps a c h in omega arith)
one_steps b ps a c d x y (shorter l q e) (given g f) = absurd (let z = each_long b ps a d g in omega arith)
one_steps b ps a c d x y (shorter l q e) (shorter k p f) = (e ∙ sym f, q ∙ sym p)
