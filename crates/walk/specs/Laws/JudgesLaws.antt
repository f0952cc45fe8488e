-- Judging at a position, from what was found, and that no second answer meets `Judges`. Assumes nothing.
use Rattle.std.specs.Prelude.{ℕ, ◌-◌, ◌≤◌, ◌≡◌, refl, List, [], length, take, drop, Option, None, Some, Result, Ok, Err}
use Rattle.std.proofs.Common.{arith, sym, ◌∙◌, ap, subst}
use Rattle.service.specs.declared.Characters.{Characters}
use Rattle.service.specs.declared.Service.{Service}
use Rattle.service.specs.Service.{Fit}
use Rattle.service.specs.Laws.ServiceLaws.{same_fit}
use Rattle.service.specs.Service.{characters_of}
use Rattle.interchange.specs.Answers.{Refusal}
use Rattle.interchange.specs.declared.Span.{Span}
use Rattle.interchange.specs.Answers.{Found}
use Rattle.lent.specs.Lists.{Lists, lists}
use Rattle.report.specs.Answers.{Report}
use Rattle.report.specs.Judged.{Enough, Judged, judged}
use Rattle.report.specs.Laws.JudgeLaws.{one_judged}
use Rattle.report.specs.Laws.LongLaws.{long_judged}
use Rattle.interchange.specs.Forms.Answers.{read_by}
use Rattle.walk.specs.Steps.{Walked}
use Rattle.walk.specs.Steps as walked
use Rattle.walk.specs.Frame.{message, nothing, refused, step_at, step_from}
use Rattle.walk.specs.Walks.{between, Walks, walks_message, walks_nothing, walks_refused, LongEnough, Judges, judges}
use Rattle.walk.specs.Laws.FrameLaws.{read, unread, one_start, one_end}
use Rattle.walk.specs.Laws.PlaceLaws.{sought, walked_start, walked_end, walked_report}
use Rattle.walk.specs.Laws.WalksLaws.{other, other', other''}

-- no lists at all
abbrev none : Lists
none = lists [] [] []

module _ (s : List ℕ) (at : ℕ) where
  -- with the characters and the place of the one message that is found
  pub enough_at : (v : Service) (una a e : ℕ) → characters_of s ≡ Fit v una → message a e ≡ step_from s at → (x : Lists) → Enough v (between s a e) x → LongEnough s at x
  enough_at v una a e n p x w u una' b c n' p' =
      let i : v ≡ u = (same_fit v u una una' (sym n ∙ n')).0 in
      let m : message a e ≡ message b c = p ∙ sym p' in
      let j = one_start a e b c m in
      let k = one_end a e b c m in
      rw (← i, ← j, ← k) w

  module _ (r : Result Characters Refusal) (c : r ≡ read_by s) where
    no_message : (f : Refusal) → refused f ≡ step_from s at → LongEnough s at none
    no_message f p v una a e n h = absurd (other' a e f (h ∙ sym p))

    pub judge_unread : (f : Refusal) → r ≡ Err f → Judges s at (Err f)
    judge_unread f e = judges none none (no_message f (unread s r c f e at)) (walks_refused f (unread s r c f e at) refl)

    module _ (c' : Characters) (h : r ≡ Ok c') (k : Found) (d : k ≡ step_at c'.service s at) where
      pub judge_refused : (f : Refusal) → k ≡ Err f → Judges s at (Err f)
      judge_refused f e = let w = read s r c c' h in let p = sym e ∙ d ∙ w.steps at in judges none none (no_message f p) (walks_refused f p refl)

      module _ (o : Option Span) (q : k ≡ Ok o) where
        pub judge_nothing : o ≡ None → Judges s at (Ok None)
        judge_nothing e =
            let w = read s r c c' h in
            let p : nothing ≡ step_from s at = sym (ap Ok e) ∙ sym q ∙ d ∙ w.steps at in
            judges none none (λ v una a e n h. absurd (other a e (h ∙ sym p))) (walks_nothing p refl)

        pub judge_message : (m : Span) → o ≡ Some m → (y : Report) → Judged c'.service (take (m.end - m.start) (drop m.start s)) y → Judges s at (Ok (Some (record { start = m.start; end = m.end; report = y })))
        judge_message m i y (judged x x' z l) =
            let w = read s r c c' h in
            let p = sought c'.service s at k d o q m i ∙ w.steps at in
            judges x x' (enough_at c'.service w.una m.start m.end w.named p x z) (walks_message c'.service w.una m.start m.end y w.named p l)

-- what is judged at a position is what is judged of the bytes that are found there
pub data JudgesAs (s : List ℕ) (at : ℕ) : Walked → Type 0 where
  as_message : (v : Service) (una a e : ℕ) (y : Report) → characters_of s ≡ Fit v una → message a e ≡ step_from s at → Judged v (between s a e) y → JudgesAs s at (walked.Message a e y)
  as_nothing : nothing ≡ step_from s at → JudgesAs s at walked.Nothing
  as_refused : (f : Refusal) → refused f ≡ step_from s at → JudgesAs s at (walked.Refused f)

judged_by : (s : List ℕ) (at : ℕ) (x x' : Lists) (w : Walked) → LongEnough s at x → Walks s at x x' w → JudgesAs s at w
judged_by s at x x' w l (walks_message v una a e y c p z) = as_message v una a e y c p (judged x x' (l v una a e c p) z)
judged_by s at x x' w l (walks_nothing p b) = as_nothing p
judged_by s at x x' w l (walks_refused g p b) = as_refused g p

pub judges_as : (s : List ℕ) (at : ℕ) (w : Walked) → Judges s at w → JudgesAs s at w
judges_as s at w (judges x x' l z) = judged_by s at x x' w l z

one_as : (s : List ℕ) (at : ℕ) (w u : Walked) → JudgesAs s at w → JudgesAs s at u → w ≡ u
one_as s at w u (as_message v una a e y c p z) (as_message v' una' a' e' y' c' p' z') =
    let n : Fit v una ≡ Fit v' una' = sym c ∙ c' in
    let m : message a e ≡ message a' e' = p ∙ sym p' in
    let i : v ≡ v' = (same_fit v v' una una' n).0 in
    let j = one_start a e a' e' m in
    let k = one_end a e a' e' m in
    let g : y ≡ y' = one_judged v' (between s a' e') y y' (rw (← i, ← j, ← k) z) z' in
    rw (j, k, g)
one_as s at w u (as_message v una a e y c p z) (as_nothing p') = absurd (other a e (p ∙ sym p'))
one_as s at w u (as_message v una a e y c p z) (as_refused g p') = absurd (other' a e g (p ∙ sym p'))
one_as s at w u (as_nothing p) (as_message v una a e y c p' z) = absurd (other a e (p' ∙ sym p))
one_as s at w u (as_nothing p) (as_nothing p') = refl
one_as s at w u (as_nothing p) (as_refused g p') = absurd (other'' g (p ∙ sym p'))
one_as s at w u (as_refused g p) (as_message v una a e y c p' z) = absurd (other' a e g (p' ∙ sym p))
one_as s at w u (as_refused g p) (as_nothing p') = absurd (other'' g (p' ∙ sym p))
one_as s at w u (as_refused g p) (as_refused g' p') =
    let m : refused g ≡ refused g' = p ∙ sym p' in
    let i : g ≡ g' = cc in
    rw i

message_as : (s : List ℕ) (at : ℕ) (w : Walked) → JudgesAs s at w → (v : Service) (una : ℕ) → characters_of s ≡ Fit v una → (a e : ℕ) (y : Report) → w ≡ walked.Message a e y → Judged v (between s a e) y
message_as s at w (as_message u una' b c z n p j) v una f a e y q =
    let g : Fit u una' ≡ Fit v una = sym n ∙ f in
    let i : u ≡ v = (same_fit u v una' una g).0 in
    let k = walked_start b c z a e y q in
    let l = walked_end b c z a e y q in
    let m = walked_report b c z a e y q in
    rw (← i, ← k, ← l, ← m) j
message_as s at w (as_nothing p) v una f a e y q = absurd (let z : ◌≡◌ {A = ℕ} 0 1 = cc in omega arith)
message_as s at w (as_refused g p) v una f a e y q = absurd (let z : ◌≡◌ {A = ℕ} 0 1 = cc in omega arith)

-- the same bytes, read by the same characters, are judged alike, from whatever positions they are found
pub judged_alike : (s s' : List ℕ) (v : Service) (una una' : ℕ) → characters_of s ≡ Fit v una → characters_of s' ≡ Fit v una' → (at at' a e a' e' : ℕ) (y y' : Report) → between s a e ≡ between s' a' e'
    → Judges s at (walked.Message a e y) → Judges s' at' (walked.Message a' e' y') → y ≡ y'
judged_alike s s' v una una' f f' at at' a e a' e' y y' q h h' =
    one_judged v (between s' a' e') y y' (subst (λ (m : List ℕ). Judged v m y) q (message_as s at (walked.Message a e y) (judges_as s at (walked.Message a e y) h) v una f a e y refl))
    (message_as s' at' (walked.Message a' e' y') (judges_as s' at' (walked.Message a' e' y') h') v una' f' a' e' y' refl)

-- no second answer
pub one_judge : (s : List ℕ) (at : ℕ) (w u : Walked) → Judges s at w → Judges s at u → w ≡ u
one_judge s at w u a b = one_as s at w u (judges_as s at w a) (judges_as s at u b)

-- lists of 9,999 entries are as good as long enough ones
pub long_judges : (s : List ℕ) (at : ℕ) (x x' : Lists) (w : Walked) → (9999 ≤ length x.rows) × (9999 ≤ length x.starts) × (9999 ≤ length x.totals) → Walks s at x x' w → Judges s at w
long_judges s at x x' w l (walks_message v una a e y c p z) = go (long_judged v (between s a e) x x' y l z)
  where
    go : Judged v (between s a e) y → Judges s at (walked.Message a e y)
    go (judged k k' f r) = judges k k' (enough_at s at v una a e c p k f) (walks_message v una a e y c p r)
long_judges s at x x' w l (walks_nothing p b) = judges x x' (λ v una a e n h. absurd (other a e (h ∙ sym p))) (walks_nothing p b)
long_judges s at x x' w l (walks_refused g p b) = judges x x' (λ v una a e n h. absurd (other' a e g (h ∙ sym p))) (walks_refused g p b)
