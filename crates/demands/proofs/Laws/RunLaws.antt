-- A walk over an interchange that opens finds exactly its messages, and tells of each what its own bytes say. Assumes nothing.
use Rattle.std.specs.Prelude.{ℕ, ◌+◌, ◌≤◌, ◌<◌, ◌≡◌, refl, List, [], ◌∷◌, ◌++◌, length}
use Rattle.std.proofs.Common.{arith, sym, ◌∙◌, ap, ap₂, subst, lt-ltb, le-ltb}
use Rattle.std.proofs.Math.Decide.{dec_lt}
use Rattle.numbers.specs.declared.Number.TheVariants as numbers
use Rattle.service.specs.declared.Service.{Service}
use Rattle.service.specs.Laws.ServiceLaws.{same_fit}
use Rattle.segments.specs.declared.Piece.{Piece}
use Rattle.segments.specs.declared.Piece.TheVariants.{Finished as finished}
use Rattle.segments.specs.SegmentList.{segments_after}
use Rattle.segments.specs.Laws.ListLaws.{segments_after_lem}
use Rattle.segments.specs.Laws.ClearLaws.{passed, upto_start}
use Rattle.interchange.specs.Finds as found
use Rattle.interchange.specs.Answers.{Opens}
use Rattle.interchange.specs.Messages.{kind_of, Extent, starts_at, ends_at, bytes_of, extent_of, messages_by, messages_of, found_from}
use Rattle.interchange.specs.declared.Kind.{Kind}
use Rattle.interchange.specs.declared.Kind.TheVariants.{Head as head, Trailer as trailer, Last as last, Other as other, Cut as cut}
use Rattle.interchange.specs.Envelope.{refusal, body_of}
use Rattle.interchange.specs.Forms.Answers.{opening_of}
use Rattle.interchange.specs.Laws.OpenedLaws.{opened}
use Rattle.interchange.specs.Laws.FindLaws.{extent_starts}
use Rattle.interchange.specs.Laws.SurveyLaws.{past_within}
use Rattle.interchange.specs.Walk.{Visits, Own}
use Rattle.interchange.specs.Walk as walk
use Rattle.interchange.specs.Laws.WalkLaws.{Placed}
use Rattle.interchange.specs.Laws.WalkLaws as placed
use Rattle.interchange.specs.Laws.WalkTheorems.{header, body_is}
use Rattle.interchange.specs.Laws.OwnLaws.{message_holds}
use Rattle.damage.specs.Damage.{Mark, hit, Beside, Stays}
use Rattle.damage.specs.Damage as damage
use Rattle.lent.specs.Lists.{Lists}
use Rattle.report.specs.Answers.{Report}
use Rattle.report.specs.Reported.{Reported}
use Rattle.report.specs.Laws.ReportedLaws.{one_report}
use Rattle.walk.specs.Steps.{Walked}
use Rattle.walk.specs.Steps as walked
use Rattle.walk.specs.Frame.{message, nothing, refused, step_at, step_with, step_from}
use Rattle.walk.specs.Laws.FrameLaws.{one_start, one_end}
use Rattle.walk.specs.Laws.PlaceLaws.{walked_start, walked_end, walked_report}
use Rattle.walk.specs.Walks.{between, Walks}
use Rattle.walk.specs.Walks as stepping
use Rattle.demands.specs.Runs.{Visit, Run, done, next, Steps, Owned, Told, Over, none, also}
use Rattle.demands.specs.OtherMessages.{Again}

-- ---- messages lie within the bytes
pub data Inside (n : ℕ) : List Extent → Type 0 where
  nil : Inside n []
  cons : (m : Extent) (ms : List Extent) → starts_at m ≤ n → ends_at m ≤ n → Inside n ms → Inside n (m ∷ ms)

inside_by : (v : Service) (s : List ℕ) (c : ℕ) (l : List Piece) → c ≤ length s → ends_at (extent_of v s c l) ≤ length s → Inside (length s) (messages_of v s l)
    → (k : Kind) → Inside (length s) (messages_by k (extent_of v s c l) (messages_of v s l))
inside_by v s c l h g w head = cons (extent_of v s c l) (messages_of v s l) (let e = extent_starts v s c l in omega arith) g w
inside_by v s c l h g w trailer = w
inside_by v s c l h g w last = w
inside_by v s c l h g w other = w
inside_by v s c l h g w cut = w

inside : (v : Service) (s : List ℕ) {l : List Piece} → Placed v s l → (i : ℕ) → i ≤ length s → segments_after v s i ≡ l → Inside (length s) (messages_of v s l)
unfolding messages_of
inside v s placed.end i h q = nil
inside v s (placed.at c t l x y w) i h q =
    let f = (passed v s i c t l h q).past.high in
    inside_by v s c l (upto_start v s i c t l h q).high (message_holds v s w c (t + 1) f y).high (inside v s w (t + 1) f y) (kind_of v s (finished c t) l)

module _ (s : List ℕ) (v : Service) (first : ℕ) (o : opening_of s ≡ Opens v first) where
  pub inside_all : Inside (length s) (messages_of v s (body_of v s first))
  inside_all =
      let h = header s v first o in
      subst (λ (l : List Piece). Inside (length s) (messages_of v s l)) (body_is s v first o)
      (inside v s h.body h.next (past_within v s first h.next h.past) (segments_after_lem v s h.next h.next (sym h.rests)))

  -- ---- a step of the walk is what is found
  step_is : (at : ℕ) → step_from s at ≡ step_at v s at
  unfolding step_from
  step_is at = let f = opened s v first o in rw (le-ltb _ _ f.short) (ap (step_with s at) f.named)

  step_in : (at : ℕ) → at ≤ length s → step_from s at ≡ found_from v s at
  unfolding step_at
  step_in at h = step_is at ∙ rw (le-ltb _ _ h)

  step_out : (at : ℕ) → length s < at → step_from s at ≡ refused (refusal numbers.Position)
  unfolding step_at
  step_out at h = step_is at ∙ rw (lt-ltb _ _ h)

  pub steps : {at : ℕ} {ms : List Extent} → at ≤ length s → Inside (length s) ms → Visits v s at ms → Steps s at ms
  steps h w (walk.done at e) = done at (step_in at h ∙ e)
  steps h (cons _ _ a b w) (walk.step at m ms e r) = next at m ms (step_in at h ∙ e) (steps b w r)

  pub owned : {ms : List Extent} → Inside (length s) ms → Own v s ms → Owned s ms
  owned w walk.none = none
  owned (cons _ _ a b w) (walk.also m ms e r) = also m ms (step_in (starts_at m) a ∙ e) (owned w r)

  -- ---- what the calls give
  pub step_message : {at : ℕ} {k k' : Lists} {y : Walked} → Walks s at k k' y → (a e : ℕ) (x : Report) → y ≡ walked.Message a e x
      → (step_from s at ≡ message a e) × Reported v (between s a e) k k' x
  step_message (stepping.walks_message v' una b c z n p q) a e x f =
      let i = walked_start b c z a e x f in
      let j = walked_end b c z a e x f in
      let l = walked_report b c z a e x f in
      let g = opened s v first o in
      let u = (same_fit v' v una g.una (sym n ∙ g.named)).0 in
      (sym p ∙ ap₂ message i j, rw (← u, ← i, ← j, ← l) q)
  step_message (stepping.walks_nothing p q) a e x f = absurd (let z : ◌≡◌ {A = ℕ} 0 1 = cc in omega arith)
  step_message (stepping.walks_refused c p q) a e x f = absurd (let z : ◌≡◌ {A = ℕ} 0 1 = cc in omega arith)

  step_nothing : {at : ℕ} {k k' : Lists} {y : Walked} → Walks s at k k' y → y ≡ walked.Nothing → step_from s at ≡ nothing
  step_nothing (stepping.walks_message v' una b c z n p q) f = absurd (let z : ◌≡◌ {A = ℕ} 0 1 = cc in omega arith)
  step_nothing (stepping.walks_nothing p q) f = sym p
  step_nothing (stepping.walks_refused c p q) f = absurd (let z : ◌≡◌ {A = ℕ} 0 1 = cc in omega arith)

  -- a step that finds a message, and what is found from there
  found_message : (at a e b c : ℕ) → step_from s at ≡ message a e → found_from v s at ≡ found.Message b c → (a ≡ b) × (e ≡ c)
  found_message at a e b c p q = go (dec_lt (length s) at)
    where
      go : Dec (length s < at) → (a ≡ b) × (e ≡ c)
      go (yes h) = absurd (let w = step_out at h in let z : ◌≡◌ {A = ℕ} 0 1 = cc in omega arith)
      go (no g) =
          let h : at ≤ length s = omega arith in
          let w : message a e ≡ message b c = sym p ∙ step_in at h ∙ q in
          (one_start a e b c w, one_end a e b c w)

  found_none : (at a e : ℕ) → step_from s at ≡ message a e → found_from v s at ≡ found.Nothing → ⊥
  found_none at a e p q = go (dec_lt (length s) at)
    where
      go : Dec (length s < at) → ⊥
      go (yes h) = let w = step_out at h in let z : ◌≡◌ {A = ℕ} 0 1 = cc in omega arith
      go (no g) =
          let h : at ≤ length s = omega arith in
          let w : message a e ≡ nothing = sym p ∙ step_in at h ∙ q in
          let z : ◌≡◌ {A = ℕ} 0 1 = cc in omega arith

  none_found : (at b c : ℕ) → step_from s at ≡ nothing → found_from v s at ≡ found.Message b c → ⊥
  none_found at b c p q = go (dec_lt (length s) at)
    where
      go : Dec (length s < at) → ⊥
      go (yes h) = let w = step_out at h in let z : ◌≡◌ {A = ℕ} 0 1 = cc in omega arith
      go (no g) =
          let h : at ≤ length s = omega arith in
          let w : nothing ≡ message b c = sym p ∙ step_in at h ∙ q in
          let z : ◌≡◌ {A = ℕ} 0 1 = cc in omega arith

  -- calls one after the other tell of exactly the messages that are found
  pub run_over : (x : Lists) {at : ℕ} {ms : List Extent} {l : List Visit} → Visits v s at ms → Run s x at l → Over v s x ms l
  run_over x (walk.done at e) (done _ x' j) = none
  run_over x (walk.done at e) (next _ w l j g) = absurd (let p = step_message j w.start w.end w.given.answer refl in found_none at w.start w.end p.0 e)
  run_over x (walk.step at m ms e r) (done _ _ j) = absurd (none_found at (starts_at m) (ends_at m) (step_nothing j refl) e)
  run_over x (walk.step at m ms e r) (next _ w l j g) =
      let p = step_message j w.start w.end w.given.answer refl in
      let q = found_message at w.start w.end (starts_at m) (ends_at m) p.0 e in
      let a = q.0 in
      let b = q.1 in
      also m w ms l (record { start = a; end = b; report = rw (← a, ← b) p.1 }) (run_over x r (subst (λ (n : ℕ). Run s x n l) b g))

-- ---- one part of the messages after the other
pub record Split (v : Service) (s : List ℕ) (x : Lists) (ms ns : List Extent) (l : List Visit) : Type 0 where
  pub front : List Visit
  pub back : List Visit
  pub is : l ≡ front ++ back
  pub over_front : Over v s x ms front
  pub over_back : Over v s x ns back

over_split : (v : Service) (s : List ℕ) (x : Lists) (ms ns : List Extent) {k : List Extent} {l : List Visit} → Over v s x k l → k ≡ ms ++ ns → Split v s x ms ns l
over_split v s x [] ns {k} {l} w e = record { front = []; back = l; is = refl; over_front = none; over_back = subst (λ (i : List Extent). Over v s x i l) e w }
over_split v s x (m ∷ ms) ns none e = absurd (let z : ◌≡◌ {A = ℕ} 0 1 = cc in omega arith)
over_split v s x (m ∷ ms) ns (also m' w k l t r) e =
    let p : m' ≡ m = cc in
    let q : k ≡ ms ++ ns = cc in
    let f = over_split v s x ms ns r q in
    record {
      front = w ∷ f.front;
      back = f.back;
      is = ap (λ (i : List Visit). w ∷ i) f.is;
      over_front = also m w ms f.front (subst (λ (n : Extent). Told v s x n w) p t) f.over_front;
      over_back = f.over_back;
    }

-- ---- two walks, before and after damage: the same bytes, the same lists, the same report
module _ (v : Service) (s s' : List ℕ) (x : Lists) where
  same_given : (m m' : Extent) (w w' : Visit) → Told v s x m w → Told v s' x m' w' → bytes_of s' m' ≡ bytes_of s m → w'.given ≡ w.given
  same_given m m' w w' t t' e =
      sym (one_report v (bytes_of s m) x w.given.lists w'.given.lists w.given.answer w'.given.answer t.report (rw (← e) t'.report))

  again : (n n' : ℕ) (m m' : Extent) (w w' : Visit) → Stays s s' n n' m m' → Told v s x m w → Told v s' x m' w' → Again n n' w w'
  again n n' m m' w w' y t t' =
      let a = y.start in
      let b = y.end in
      let c = t.start in
      let d = t.end in
      let c' = t'.start in
      let d' = t'.end in
      record { start = omega arith; end = omega arith; given = same_given m m' w w' t t' y.bytes }

  pub walked_again : {n n' : ℕ} {k : List Mark} {ms ms' : List Extent} → Beside (Stays s s') n n' k ms ms' → {l l' : List Visit} → Over v s x ms l → Over v s' x ms' l' → Beside Again n n' k l l'
  walked_again (damage.none n n') none none = damage.none n n'
  walked_again (damage.spared n n' m m' k ms ms' y b) (also _ w _ l t r) (also _ w' _ l' t' r') = damage.spared n n' w w' k l l' (again n n' m m' w w' y t t') (walked_again b r r')
  walked_again (damage.struck n n' c m k ms new ms' b) (also _ w _ l t r) o =
      let f = over_split v s' x new ms' o refl in
      subst (Beside Again n n' (hit c ∷ k) (w ∷ l)) (sym f.is) (damage.struck n n' c w k l f.front f.back (walked_again b r f.over_back))
  walked_again (damage.passed n n' m k ms new ms' b) (also _ w _ l t r) o =
      let f = over_split v s' x new ms' o refl in
      subst (Beside Again n n' (damage.next ∷ k) (w ∷ l)) (sym f.is) (damage.passed n n' w k l f.front f.back (walked_again b r f.over_back))
