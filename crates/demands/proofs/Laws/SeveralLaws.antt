-- What W-203 says of the call for several positions. Assumes nothing.
use Rattle.std.specs.Prelude.{ℕ, zero, suc, ◌≤◌, ◌<◌, ◌≡◌, refl, List, [], ◌∷◌, length, get_or, drop, None, Some, Ok, Err}
use Rattle.std.proofs.Common.{arith, sym, ap, ◌∙◌, true≢false, le-ltb, lt-ltb}
use Rattle.numbers.specs.declared.Number.TheVariants as numbers
use Rattle.service.specs.declared.Service.{Service}
use Rattle.service.specs.Service.{Fit, among, characters_of}
use Rattle.interchange.specs.Envelope.{refusal}
use Rattle.lent.specs.Lists.{Lists, lists}
use Rattle.report.specs.Answers.{Report}
use Rattle.walk.specs.Steps.{Walked}
use Rattle.walk.specs.Steps as walked
use Rattle.walk.specs.Frame.{refused, step_at, step_with, step_from}
use Rattle.walk.specs.Walks.{between, walks_refused, Judges, judges}
use Rattle.walk.specs.Laws.WalksLaws.{other'}
use Rattle.walk.specs.Laws.JudgesLaws.{long_judges, judged_alike, JudgesAs, as_message, as_nothing, as_refused, judges_as}
use Rattle.report.specs.Laws.JudgeLaws.{not_fourteen}
use Rattle.twineherald.specs.declared.StepNumbers.{StepNumbers}
use Rattle.twineherald.specs.Numbers.{report_of, step_of, Stepped, stepped}
use Rattle.twineherald.specs.Several.{numbers_of, Answered, AnsweredEach, no_more, one_more_lem, SteppedEach, given, shorter}
use Rattle.twineherald.specs.Laws.SeveralLaws.{answer_by, one_answered, each_long, numbers_one, walked_by}
use Rattle.demands.specs.Refusals.{by_walking}
use Rattle.demands.specs.Several.{Ample, Several}
use Rattle.demands.proofs.Laws.RefusalsLaws.{refusals}

-- ---- in the order listed
each_at : (b ps : List ℕ) (a a' : List (List ℕ)) → AnsweredEach b ps a a' → (i : ℕ) → i < length ps → Answered b (get_or ps i 0) (get_or a' i [])
each_at b ps a a' (no_more c c' e) i h = absurd (omega arith)
each_at b ps a a' (one_more_lem at qs q r c c' k w) zero h = k
each_at b ps a a' (one_more_lem at qs q r c c' k w) (suc i) h = each_at b qs c c' w i (omega arith)

each_given : (b ps : List ℕ) (a a' : List (List ℕ)) (x : ℕ) → SteppedEach b ps a a' x → x ≡ 0 → AnsweredEach b ps a a'
each_given b ps a a' x (given w e) q = w
each_given b ps a a' x (shorter l p f) q = absurd (omega arith)

each_beyond : (b ps : List ℕ) (a a' : List (List ℕ)) → AnsweredEach b ps a a' → drop (length ps) a' ≡ drop (length ps) a
each_beyond b ps a a' (no_more c c' e) = e
each_beyond b ps a a' (one_more_lem at qs q r c c' k w) = each_beyond b qs c c' w

beyond : (b ps : List ℕ) (a a' : List (List ℕ)) (x : ℕ) → SteppedEach b ps a a' x → drop (length ps) a' ≡ drop (length ps) a
beyond b ps a a' x (given w e) = each_beyond b ps a a' w
beyond b ps a a' x (shorter l q f) = ap (drop (length ps)) q

short : (b ps : List ℕ) (a a' : List (List ℕ)) (x : ℕ) → length a < length ps → SteppedEach b ps a a' x → (x ≡ 14) × (a' ≡ a)
short b ps a a' x h (given w e) = absurd (let z = each_long b ps a a' w in omega arith)
short b ps a a' x h (shorter l q f) = (f, q)

long : (b ps : List ℕ) (a a' : List (List ℕ)) (x : ℕ) → length ps ≤ length a → SteppedEach b ps a a' x → x ≡ 0
long b ps a a' x h (given w e) = e
long b ps a a' x h (shorter l q f) = absurd (omega arith)

none : (b : List ℕ) (a a' : List (List ℕ)) (x : ℕ) → SteppedEach b [] a a' x → (x ≡ 0) × (a' ≡ a)
none b a a' x w = (long b [] a a' x (omega arith) w, beyond b [] a a' x w)

-- ---- one answer
as_walked : (b : List ℕ) (at : ℕ) (x x' : Lists) (y : StepNumbers) (r : List ℕ) → Ample x → Stepped b at x x' y → Answered b at r → r ≡ numbers_of y
as_walked b at x x' y r l (stepped w h e) k =
    one_answered b at r (numbers_of y) k (answer_by b at w (long_judges b at x x' w (l.rows, l.starts, l.totals) h) y e (numbers_of y) refl)

answer_walked : (b : List ℕ) (at : ℕ) (y : StepNumbers) → Answered b at (numbers_of y) → (w : Walked) × Judges b at w × (y ≡ step_of w)
answer_walked b at y h = let k = walked_by b at (numbers_of y) h in (k.0, k.1, numbers_one y (step_of k.0) k.2)

-- 14 is neither the walk's nor a message's
not_walked : (b : List ℕ) (at : ℕ) (w : Walked) → JudgesAs b at w → (step_of w).report.number ≡ 14 → ⊥
unfolding among
not_walked b at w (as_message v una a e (Ok c) n p j) q = omega arith
not_walked b at w (as_message v una a e (Err f) n p j) q = not_fourteen v (between b a e) f j q
not_walked b at w (as_nothing p) q = omega arith
not_walked b at w (as_refused f p) q =
    let k = (refusals.walking b at (lists [] [] []) (lists [] [] []) f (walks_refused f p refl)).0.number in
    true≢false (sym k ∙ ap (λ (n : ℕ). among n by_walking) q)

not_short : (b : List ℕ) (at : ℕ) (y : StepNumbers) → Answered b at (numbers_of y) → y.report.number ≡ 14 → ⊥
not_short b at y h q =
    let k = answer_walked b at y h in
    not_walked b at k.0 (judges_as b at k.0 k.1) (sym (ap (λ (z : StepNumbers). z.report.number) k.2) ∙ q)

-- a position past the end
past_step : (b : List ℕ) (at : ℕ) (v : Service) (una : ℕ) → length b ≤ 1048576 → characters_of b ≡ Fit v una → length b < at → step_from b at ≡ refused (refusal numbers.Position)
unfolding step_from step_at
past_step b at v una l c h = rw (le-ltb 1048576 (length b) l) (ap (step_with b at) c ∙ rw (lt-ltb (length b) at h))

past : (b : List ℕ) (at : ℕ) (v : Service) (una : ℕ) (r : List ℕ) → length b ≤ 1048576 → characters_of b ≡ Fit v una → length b < at → Answered b at r → r ≡ 0 ∷ 0 ∷ 0 ∷ 8 ∷ 0 ∷ 0 ∷ 0 ∷ 0 ∷ 0 ∷ []
past b at v una r l c h k =
    let e = sym (past_step b at v una l c h) in
    let w : Walked = walked.Refused (refusal numbers.Position) in
    let j : Judges b at w = judges (lists [] [] []) (lists [] [] []) (λ u i a d n q. absurd (other' a d (refusal numbers.Position) (q ∙ sym e))) (walks_refused (refusal numbers.Position) e refl) in
    one_answered b at r (numbers_of (step_of w)) k (answer_by b at w j (step_of w) refl (numbers_of (step_of w)) refl)

-- ---- demand 3
found_by_lem : (b : List ℕ) (at : ℕ) (w : Walked) → Judges b at w → (y : StepNumbers) → y ≡ step_of w → y.found ≡ 1 → (r : Report) × Judges b at (walked.Message y.start y.end r) × (y.report ≡ report_of r)
found_by_lem b at (Ok (Some m)) j y q f =
    let i : y.start ≡ m.start = ap (λ (z : StepNumbers). z.start) q in
    let k : y.end ≡ m.end = ap (λ (z : StepNumbers). z.end) q in
    (m.report, rw (i, k) j, ap (λ (z : StepNumbers). z.report) q)
found_by_lem b at (Ok None) j y q f = absurd (let z = ap (λ (z : StepNumbers). z.found) q in omega arith)
found_by_lem b at (Err g) j y q f = absurd (let z = ap (λ (z : StepNumbers). z.found) q in omega arith)

own_bytes : (b b' : List ℕ) (at at' : ℕ) (v : Service) (una una' : ℕ) (y y' : StepNumbers) → characters_of b ≡ Fit v una → characters_of b' ≡ Fit v una' → y.found ≡ 1 → y'.found ≡ 1
    → between b y.start y.end ≡ between b' y'.start y'.end → Answered b at (numbers_of y) → Answered b' at' (numbers_of y') → y.report ≡ y'.report
own_bytes b b' at at' v una una' y y' c c' f f' e h h' =
    let k = answer_walked b at y h in
    let k' = answer_walked b' at' y' h' in
    let w = found_by_lem b at k.0 k.1 y k.2 f in
    let w' = found_by_lem b' at' k'.0 k'.1 y' k'.2 f' in
    w.2 ∙ ap report_of (judged_alike b b' v una una' c c' at at' y.start y.end y'.start y'.end w.0 w'.0 e w.1 w'.1) ∙ sym w'.2

pub several : Several
several = record {
  each = λ b ps a a' w i h. each_at b ps a a' (each_given b ps a a' 0 w refl) i h;
  as_walked = as_walked;
  not_short = not_short;
  past = past;
  short = short;
  long = long;
  none = none;
  beyond = beyond;
  own_bytes = own_bytes;
}
