-- Demand 3. Assumes nothing.
use Rattle.std.specs.Prelude.{ℕ, ◌≤◌, ◌≡◌, refl, ◌⊎◌, Bool, true, false, length}
use Rattle.std.proofs.Common.{arith, sym, ◌∙◌, ap, subst, inl, inr, ⊎_elim}
use Rattle.numbers.specs.declared.Number.TheVariants as numbers
use mathlib.Core.List.{List, [], ◌∷◌, ◌++◌, map}
use Rattle.service.specs.declared.Service.{Service}
use Rattle.service.specs.Tests.{last_of}
use Rattle.interchange.specs.Answers.{Opens, Refused}
use Rattle.interchange.specs.Messages.{Extent, closed, is_closed, starts_at, ends_at, bytes_of, messages_of}
use Rattle.interchange.specs.Envelope.{refusal, body_of}
use Rattle.interchange.specs.Opened.{Opened, OpenedAs}
use Rattle.interchange.specs.Forms.Answers.{opening_of}
use Rattle.interchange.specs.Laws.OpenedLaws.{is_opening, opened, opens}
use Rattle.interchange.specs.Laws.WalkTheorems.{owns}
use Rattle.interchange.specs.Laws.ZeroTheorems.{walks_zero}
use Rattle.damage.specs.Damage.{last_closed, Stretch, Mark, whole, next, hit, replaced, damaged, Within, Hits, Beside}
use Rattle.damage.specs.Damage as hits
use Rattle.damage.proofs.Laws.DamageTheorem.{damage, before_unt, opens_or_refused}
use Rattle.report.specs.Laws.ReportedLaws.{one_report}
use Rattle.walk.specs.Laws.JudgesLaws.{judged_alike}
use Rattle.demands.proofs.Laws.RunLaws.{inside_all, steps, owned, step_message, run_over, walked_again}
use Rattle.demands.specs.OtherMessages.{Chosen, SameReport, SameJudged, Unharmed, One, only}

-- ---- to each whole message belongs its like
beside_as : {A : Type 0} {P Q : ℕ → ℕ → A → A → Type 0} → ((n n' : ℕ) (x x' : A) → P n n' x x' → Q n n' x x') → {n n' : ℕ} {k : List Mark} {l l' : List A} → Beside P n n' k l l' → Beside Q n n' k l l'
beside_as g (hits.none n n') = hits.none n n'
beside_as g (hits.spared n n' x x' k l l' p b) = hits.spared n n' x x' k l l' (g n n' x x' p) (beside_as g b)
beside_as g (hits.struck n n' c x k l new l' b) = hits.struck n n' c x k l new l' (beside_as g b)
beside_as g (hits.passed n n' x k l new l' b) = hits.passed n n' x k l new l' (beside_as g b)

-- ---- the same bytes, the same report, from whatever position the message is found
same_report : (s : List ℕ) (v : Service) (first : ℕ) → opening_of s ≡ Opens v first → (s' : List ℕ) → opening_of s' ≡ Opens v first → (m m' : Extent) → bytes_of s' m' ≡ bytes_of s m → SameReport s s' m m'
same_report s v first o s' o' m m' e x at at' g g' p q =
    let a = step_message s v first o p (starts_at m) (ends_at m) g.answer refl in
    let b = step_message s' v first o' q (starts_at m') (ends_at m') g'.answer refl in
    one_report v (bytes_of s m) x g.lists g'.lists g.answer g'.answer a.1 (rw (← e) b.1)

same_judged : (s : List ℕ) (v : Service) (first : ℕ) → opening_of s ≡ Opens v first → (s' : List ℕ) → opening_of s' ≡ Opens v first → (m m' : Extent) → bytes_of s' m' ≡ bytes_of s m → SameJudged s s' m m'
same_judged s v first o s' o' m m' e at at' y y' h h' =
    let f = opened s v first o in
    let f' = opened s' v first o' in
    judged_alike s s' v f.una f'.una f.named f'.named at at' (starts_at m) (ends_at m) (starts_at m') (ends_at m') y y' (sym e) h h'

-- demand 3, of any number of messages
pub other_messages : (s : List ℕ) (v : Service) (first : ℕ) (k : List Mark) → Chosen s v first k → Unharmed v s (damaged s k) first k
other_messages s v first k c =
    let s' : List ℕ = damaged s k in
    let o = opens s v first c.opens in
    let w = damage s v first o k c.hits c.short in
    let o' : opening_of s' ≡ Opens v first = w.0 in
    let i = inside_all s' v first o' in
    record {
      opens = opened s' v first o';
      found = messages_of v s' (body_of v s' first);
      steps = steps s' v first o' (omega arith) i (walks_zero s' v first o');
      owned = owned s' v first o' i (owns s' v first o');
      told = λ x l r. run_over s' v first o' x (walks_zero s' v first o') r;
      each = beside_as (λ n n' m m' y. record { stays = y; report = same_report s v first o s' o' m m' y.bytes; judged = same_judged s v first o s' o' m m' y.bytes }) w.1;
      same = λ x l l' r r'. walked_again v s s' x w.1 (run_over s v first o x (walks_zero s v first o) r) (run_over s' v first o' x (walks_zero s' v first o') r');
    }

-- ---- one message
module _ (v : Service) (s : List ℕ) where
  hits_none : (b : Bool) (ms : List Extent) → Hits v s b false ms (map (λ (m : Extent). whole) ms)
  hits_none b [] = hits.none b
  hits_none b (m ∷ ms) = hits.spared b m ms (map (λ (m : Extent). whole) ms) (hits_none (is_closed m) ms)

  hits_after : (b : Bool) (before ms : List Extent) (k : List Mark) → Hits v s (last_closed b before) false ms k → Hits v s b false (before ++ ms) (map (λ (m : Extent). whole) before ++ k)
  unfolding last_of
  hits_after b [] ms k w = w
  hits_after b (m ∷ l) ms k w = hits.spared b m (l ++ ms) (map (λ (m : Extent). whole) l ++ k) (hits_after (is_closed m) l ms k w)

  whole_none : (ms : List Extent) → damaged s (map (λ (m : Extent). whole) ms) ≡ s
  whole_none [] = refl
  whole_none (m ∷ ms) = whole_none ms

  whole_after : (before : List Extent) (k : List Mark) → damaged s (map (λ (m : Extent). whole) before ++ k) ≡ damaged s k
  whole_after [] k = refl
  whole_after (m ∷ l) k = whole_after l k

  one_stretch : (before after : List Extent) (c : Stretch) → damaged s (only before (hit c ∷ []) after) ≡ replaced s c
  one_stretch before after c = whole_after before (hit c ∷ map (λ (m : Extent). whole) after) ∙ ap (λ (x : List ℕ). replaced x c) (whole_none after)

  one_reaching : (before after : List Extent) (c : Stretch) → damaged s (only before (hit c ∷ next ∷ []) after) ≡ replaced s c
  one_reaching before after c = whole_after before (hit c ∷ next ∷ map (λ (m : Extent). whole) after) ∙ ap (λ (x : List ℕ). replaced x c) (whole_none after)

module _ (s : List ℕ) (v : Service) (first : ℕ) (before : List Extent) (a t z e : ℕ) (after : List Extent) (o : One s v first before a t z e after) where
  -- whatever follows
  unharmed_by : (k : List Mark) (s' : List ℕ) → Hits v s true false (closed a e ∷ after) k → damaged s (map (λ (m : Extent). whole) before ++ k) ≡ s' → length s' ≤ 1048576
      → Unharmed v s s' first (map (λ (m : Extent). whole) before ++ k)
  unharmed_by k s' w i h =
      let g : Hits v s (last_closed true before) false (closed a e ∷ after) k = rw o.closes w in
      let u : Hits v s true false (messages_of v s (body_of v s first)) (map (λ (m : Extent). whole) before ++ k) = rw o.messages (hits_after v s true before (closed a e ∷ after) k g) in
      let j : length (damaged s (map (λ (m : Extent). whole) before ++ k)) ≤ 1048576 = rw i h in
      subst (λ (x : List ℕ). Unharmed v s x first (map (λ (m : Extent). whole) before ++ k)) i
      (other_messages s v first (map (λ (m : Extent). whole) before ++ k) (record { opens = o.opens; hits = u; short = j }))

  -- demand 3, of one message
  pub single : (c : Stretch) → Within a t c → length (replaced s c) ≤ 1048576 → Unharmed v s (replaced s c) first (only before (hit c ∷ []) after)
  single c w h =
      unharmed_by (hit c ∷ map (λ (m : Extent). whole) after) (replaced s c) (hits.near false a t z e c after _ o.ends o.precedes w (hits_none v s true after)) (one_stretch v s before after c) h

-- up to the terminator of its UNT, and it is not the last
pub reaching : (s : List ℕ) (v : Service) (first : ℕ) (before : List Extent) (a t z e : ℕ) (m : Extent) (after : List Extent) → One s v first before a t z e (m ∷ after)
    → (c : Stretch) → Within a z c → length (replaced s c) ≤ 1048576 → Unharmed v s (replaced s c) first (only before (hit c ∷ next ∷ []) after)
reaching s v first before a t z e m after o c w h =
    unharmed_by s v first before a t z e (m ∷ after) o (hit c ∷ next ∷ map (λ (m : Extent). whole) after) (replaced s c)
    (hits.far false a z e c (m ∷ after) _ o.ends w (hits.passed true m after _ (hits_none v s (is_closed m) after))) (one_reaching v s before after c) h

-- the last one
pub last_hit : (s : List ℕ) (v : Service) (first : ℕ) (before : List Extent) (a t z e : ℕ) → One s v first before a t z e [] → (c : Stretch) → Within a z c → length (replaced s c) ≤ 1048576
    → Opened (replaced s c) v first ⊎ OpenedAs (replaced s c) (Refused (refusal numbers.End))
last_hit s v first before a t z e o c w h =
    ⊎_elim (λ x. inl (opened (replaced s c) v first x)) (λ x. inr (is_opening (replaced s c) (Refused (refusal numbers.End)) (sym x)))
    (opens_or_refused s v first (opens s v first o.opens) before a e [] o.messages z o.ends c w h)

-- every message that has its own UNT, as has the one before it, if there is one, is such a message
pub any_one : (s : List ℕ) (v : Service) (first : ℕ) (before : List Extent) (a e : ℕ) (after : List Extent) → Opened s v first
    → messages_of v s (body_of v s first) ≡ before ++ (closed a e ∷ after) → last_closed true before ≡ true → (t z : ℕ) × One s v first before a t z e after
any_one s v first before a e after o m c =
    let w = before_unt s v first (opens s v first o) before a e after m in
    (w.0, w.1, record { opens = o; messages = m; closes = c; precedes = w.3; ends = w.2 })
