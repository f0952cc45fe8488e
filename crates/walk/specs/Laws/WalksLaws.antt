-- A step of the walk from what was found, and that no second answer meets `Walks`. Assumes nothing.
use Rattle.std.specs.Prelude.{ℕ, ◌-◌, ◌≡◌, refl, List, take, drop, Option, None, Some, Result, Ok, Err}
use Rattle.std.proofs.Common.{arith, sym, ◌∙◌, ap, subst}
use Rattle.service.specs.declared.Characters.{Characters}
use Rattle.service.specs.declared.Service.{Service}
use Rattle.service.specs.Service.{Fit}
use Rattle.service.specs.Laws.ServiceLaws.{same_fit}
use Rattle.interchange.specs.Answers.{Refusal}
use Rattle.interchange.specs.declared.Span.{Span}
use Rattle.interchange.specs.Answers.{Found}
use Rattle.lent.specs.Lists.{Lists, left}
use Rattle.report.specs.Answers.{Report}
use Rattle.report.specs.Reported.{Reported}
use Rattle.report.specs.Laws.ReportedLaws.{one_report}
use Rattle.interchange.specs.Forms.Answers.{read_by}
use Rattle.walk.specs.Steps.{Walked}
use Rattle.walk.specs.Steps as walked
use Rattle.walk.specs.Frame.{message, nothing, refused, step_at, step_from}
use Rattle.walk.specs.Walks.{between, Walks, walks_message, walks_nothing, walks_refused}
use Rattle.walk.specs.Laws.FrameLaws.{read, unread, one_start, one_end}
use Rattle.walk.specs.Laws.PlaceLaws.{sought}

-- ---- a step is what was found, checked
module _ (s : List ℕ) (at : ℕ) (x : Lists) (r : Result Characters Refusal) (c : r ≡ read_by s) where
  pub walk_unread : (f : Refusal) → r ≡ Err f → Walks s at x x (Err f)
  walk_unread f e = walks_refused f (unread s r c f e at) refl

  module _ (c' : Characters) (h : r ≡ Ok c') (k : Found) (d : k ≡ step_at c'.service s at) where
    pub walk_refused : (f : Refusal) → k ≡ Err f → Walks s at x x (Err f)
    walk_refused f e = let w = read s r c c' h in walks_refused f (sym e ∙ d ∙ w.steps at) refl

    module _ (o : Option Span) (q : k ≡ Ok o) where
      pub walk_nothing : o ≡ None → Walks s at x x (Ok None)
      walk_nothing e = let w = read s r c c' h in walks_nothing (sym (ap Ok e) ∙ sym q ∙ d ∙ w.steps at) refl

      pub walk_message : (m : Span) → o ≡ Some m → (x' : Lists) (y : Report) → Reported c'.service (take (m.end - m.start) (drop m.start s)) x x' y → Walks s at x x' (Ok (Some (record { start = m.start; end = m.end; report = y })))
      walk_message m i x' y z = let w = read s r c c' h in walks_message c'.service w.una m.start m.end y w.named (sought c'.service s at k d o q m i ∙ w.steps at) z

-- ---- no second answer
pub other : (a e : ℕ) → message a e ≡ nothing → ⊥
other a e p = let z : ◌≡◌ {A = ℕ} 0 1 = cc in omega arith

pub other' : (a e : ℕ) (f : Refusal) → message a e ≡ refused f → ⊥
other' a e f p = let z : ◌≡◌ {A = ℕ} 0 1 = cc in omega arith

pub other'' : (f : Refusal) → nothing ≡ refused f → ⊥
other'' f p = let z : ◌≡◌ {A = ℕ} 0 1 = cc in omega arith

module _ (s : List ℕ) (x x' : Lists) (y : Report) where
  reported_at : (v v' : Service) (a a' e e' : ℕ) → v ≡ v' → a ≡ a' → e ≡ e' → Reported v (between s a e) x x' y → Reported v' (between s a' e') x x' y
  reported_at v v' a a' e e' p q w z =
      subst (λ (u : Service). Reported u (between s a' e') x x' y) p
      (subst (λ (i : ℕ). Reported v (between s i e') x x' y) q (subst (λ (i : ℕ). Reported v (between s a i) x x' y) w z))

pub one_walk : (s : List ℕ) (at : ℕ) (x x1 x2 : Lists) (w u : Walked) → Walks s at x x1 w → Walks s at x x2 u → left w x1 ≡ left u x2
one_walk s at x x1 x2 w u (walks_message v una a e y c p z) (walks_message v' una' a' e' y' c' p' z') =
    let n : Fit v una ≡ Fit v' una' = sym c ∙ c' in
    let m : message a e ≡ message a' e' = p ∙ sym p' in
    let i : v ≡ v' = (same_fit v v' una una' n).0 in
    let j = one_start a e a' e' m in
    let k = one_end a e a' e' m in
    let g = one_report v' (between s a' e') x x1 x2 y y' (reported_at s x x1 y v v' a a' e e' i j k z) z' in
    λ d. left (walked.Message (j d) (k d) (g d).answer) (g d).lists
one_walk s at x x1 x2 w u (walks_message v una a e y c p z) (walks_nothing p' b) = absurd (other a e (p ∙ sym p'))
one_walk s at x x1 x2 w u (walks_message v una a e y c p z) (walks_refused g p' b) = absurd (other' a e g (p ∙ sym p'))
one_walk s at x x1 x2 w u (walks_nothing p b) (walks_message v una a e y c p' z) = absurd (other a e (p' ∙ sym p))
one_walk s at x x1 x2 w u (walks_nothing p b) (walks_nothing p' b') = rw (b, b')
one_walk s at x x1 x2 w u (walks_nothing p b) (walks_refused g p' b') = absurd (other'' g (p ∙ sym p'))
one_walk s at x x1 x2 w u (walks_refused g p b) (walks_message v una a e y c p' z) = absurd (other' a e g (p' ∙ sym p))
one_walk s at x x1 x2 w u (walks_refused g p b) (walks_nothing p' b') = absurd (other'' g (p' ∙ sym p))
one_walk s at x x1 x2 w u (walks_refused g p b) (walks_refused g' p' b') =
    let m : refused g ≡ refused g' = p ∙ sym p' in
    let i : g ≡ g' = cc in
    rw (b, b', i)
