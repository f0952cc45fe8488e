-- For any chart: what one step and a run of the machine say of what can be placed. Assumes nothing.
use mathlib.Core.Path.{◌≡◌, refl, sym, ap, subst, ◌∙◌}
use mathlib.Core.Bool.{Bool, true, false, not, ◌&&◌ as and, ◌||◌ as or}
use mathlib.Core.List.{List, [], ◌∷◌, ◌++◌}
use Prim.Native.Nat.{ℕ, zero, suc, ◌+◌, ◌<◌, ◌≤◌}
use native.Mathlib.Omega.{arith}
use lib.Dec.{T, ltb, eqb}
use lib.ListN.{length, take}
use borrow.Author.Tests.{ltb-true, eqb-true, eqb-false, lt-ltb, eq-eqb, ne_eqb}
use Rattle.service.specs.Tests.{if}
use Rattle.chart.specs.Chart.{Rows, none, row}
use Rattle.chart.specs.Forms.Machine.{Goes, stop, skip, have, Frames, done, frame, Ends, ends, goes, Step, at, fail, placed, stuck, choose, takes, owed, step_rows, step, free_rows, free, run, may_rows, may, after, doubt, clash, det, good, det_k, good_k}

-- BOOLEANS
pub and_left : (a b : Bool) → T (and a b) → T a
and_left true b h = tt
and_left false b h = h

pub and_right : (a b : Bool) → T (and a b) → T b
and_right true b h = h
and_right false b h = absurd h

pub or_cases : (a b : Bool) → T (or a b) → (T a → ⊥) → T b
or_cases true b h n = absurd (n tt)
or_cases false b h n = h

or_left : (a b : Bool) → T a → T (or a b)
or_left true b h = tt
or_left false b h = absurd h

or_right : (a b : Bool) → T b → T (or a b)
or_right true b h = tt
or_right false b h = h

pub T_true : {b : Bool} → b ≡ true → T b
T_true {b} e = subst T (sym e) tt

pub true_T : (b : Bool) → T b → b ≡ true
true_T true h = refl
true_T false h = absurd h

not_both : {b : Bool} → b ≡ true → b ≡ false → ⊥
not_both {b} p q = let z : true ≡ false = sym p ∙ q in subst T z tt

-- TESTS
takes_true : (t c tag most : ℕ) → takes t c tag most ≡ true → (t ≡ tag) × (c < most)
unfolding takes
takes_true t c tag most e =
    (eqb-true t tag (true_T _ (and_left (eqb t tag) (ltb c most) (T_true e))), ltb-true c most (true_T _ (and_right (eqb t tag) (ltb c most) (T_true e))))

takes_yes : {t c tag most : ℕ} → t ≡ tag → c < most → takes t c tag most ≡ true
unfolding takes
takes_yes {t} {c} {tag} {most} e h = rw (eq-eqb t tag e, lt-ltb c most h)

owed_true : (req : Bool) (c : ℕ) → owed req c ≡ true → (T req → 1 ≤ c) → ⊥
unfolding owed
owed_true true c e h = let z : c ≡ 0 = eqb-true c 0 e in let y = h tt in omega arith
owed_true false c e h = not_both {b = false} e refl

not_owed : (req : Bool) (c : ℕ) → owed req c ≡ false → T req → 1 ≤ c
unfolding owed
not_owed true c e h = let z : (c ≡ 0 → ⊥) = eqb-false c 0 e in omega arith
not_owed false c e h = absurd h

owed_no : (req : Bool) (c : ℕ) → (T req → 1 ≤ c) → owed req c ≡ false
unfolding owed
owed_no true c h = ne_eqb c 0 (λ e. let y = h tt in omega arith)
owed_no false c h = refl

-- the three ways of a row at a tag
pub data View (t c tag : ℕ) (req : Bool) (most : ℕ) : Type 0 where
  place : t ≡ tag → c < most → takes t c tag most ≡ true → View t c tag req most
  owe : takes t c tag most ≡ false → owed req c ≡ true → View t c tag req most
  pass : takes t c tag most ≡ false → owed req c ≡ false → View t c tag req most

pub view : (t c tag : ℕ) (req : Bool) (most : ℕ) → View t c tag req most
view t c tag req most = go (takes t c tag most) refl (owed req c) refl
  where
    go : (a : Bool) → takes t c tag most ≡ a → (b : Bool) → owed req c ≡ b → View t c tag req most
    go true e b f = place (takes_true t c tag most e).0 (takes_true t c tag most e).1 e
    go false e true f = owe e f
    go false e false f = pass e f

-- `at` and `fail` are apart
abbrev IsAt : Step → Type 0
IsAt (at num L) = Unit {0}
IsAt fail = ⊥

pub at_fail : {num : ℕ} {L : Frames} {st : Step} → st ≡ at num L → st ≡ fail → ⊥
at_fail p q = subst IsAt (sym p ∙ q) tt

abbrev AtNum : Step → ℕ → ℕ
AtNum (at num L) d = num
AtNum fail d = d

abbrev AtFrames : Step → Frames → Frames
AtFrames (at num L) d = L
AtFrames fail d = d

pub at_num : {n m : ℕ} {K L : Frames} → at n K ≡ at m L → n ≡ m
at_num {n} e = ap (λ (st : Step). AtNum st n) e

pub at_frames : {n m : ℕ} {K L : Frames} → at n K ≡ at m L → K ≡ L
at_frames {K} e = ap (λ (st : Step). AtFrames st K) e

module _ (t c num tag : ℕ) (req : Bool) (most : ℕ) (kids rest : Rows) (K : Frames) (s : Step) where
  pub step_place : takes t c tag most ≡ true → step_rows t c (row num tag req most kids rest) K s ≡ at num (frame zero kids (frame (suc c) (row num tag req most kids rest) K))
  unfolding step_rows choose
  step_place e = rw (e, choose)

  pub step_owe : takes t c tag most ≡ false → owed req c ≡ true → step_rows t c (row num tag req most kids rest) K s ≡ fail
  unfolding step_rows choose
  step_owe e f = rw (e, f, choose)

  pub step_pass : takes t c tag most ≡ false → owed req c ≡ false → step_rows t c (row num tag req most kids rest) K s ≡ step_rows t zero rest K s
  unfolding step_rows choose
  step_pass e f = rw (e, f, choose)

  -- what the row's case makes of a step
  fail_skip : View t c tag req most → (step_rows t zero rest K s ≡ fail → ⊥) → (T req → 1 ≤ c)
      → step_rows t c (row num tag req most kids rest) K s ≡ fail → ⊥
  fail_skip (place p lt e) k o h = at_fail (step_place e) h
  fail_skip (owe e f) k o h = owed_true _ _ f o
  fail_skip (pass e f) k o h = k (sym (step_pass e f) ∙ h)

  back : (m : ℕ) (L : Frames) (ts ns : List ℕ) → View t c tag req most
      → (step_rows t zero rest K s ≡ at m L → Ends (frame zero rest K) (t ∷ ts) (m ∷ ns))
      → Ends L ts ns → step_rows t c (row num tag req most kids rest) K s ≡ at m L
      → Ends (frame c (row num tag req most kids rest) K) (t ∷ ts) (m ∷ ns)
  back m L ts ns (place p lt e) k h q =
      let w = sym (step_place e) ∙ q in
      let h2 : Ends (frame zero kids (frame (suc c) (row num tag req most kids rest) K)) ts ns = rw (← at_frames w) at h in
      rw (p, ← at_num w) (both h2)
    where
      both : Ends (frame zero kids (frame (suc c) (row num tag req most kids rest) K)) ts ns → Ends (frame c (row num tag req most kids rest) K) (tag ∷ ts) (num ∷ ns)
      both (goes g (goes g' h)) = goes (have lt g g') h
  back m L ts ns (owe e f) k h q = absurd (at_fail q (step_owe e f))
  back m L ts ns (pass e f) k h q = under (k (sym (step_pass e f) ∙ q))
    where
      under : Ends (frame zero rest K) (t ∷ ts) (m ∷ ns) → Ends (frame c (row num tag req most kids rest) K) (t ∷ ts) (m ∷ ns)
      under (goes g h) = goes (skip (not_owed req c f) g) h

-- A STEP THAT FAILS: no message goes on with the tag
rows_fail : (t c : ℕ) (rows : Rows) (K : Frames) (st : Step)
    → ((s ns : List ℕ) → st ≡ fail → Ends K (t ∷ s) ns → ⊥)
    → {s ns us ms : List ℕ} → Goes c rows (t ∷ s) ns us ms → Ends K us ms → step_rows t c rows K st ≡ fail → ⊥
unfolding step_rows
rows_fail t c none K st below stop h e = below _ _ e h
rows_fail t c (row num tag req most kids rest) K st below (skip o g) h e =
    fail_skip t c num tag req most kids rest K st (view t c tag req most) (rows_fail t zero rest K st below g h) o e
rows_fail t c (row num tag req most kids rest) K st below (have lt g g') h e =
    at_fail (step_place t c num tag req most kids rest K st (takes_yes refl lt)) e

pub step_fail : (K : Frames) (t : ℕ) (s ns : List ℕ) → step K t ≡ fail → Ends K (t ∷ s) ns → ⊥
unfolding step
step_fail done t s ns e h = elim h [ ]
step_fail (frame c rows K) t s ns e (goes g h) = rows_fail t c rows K (step K t) (step_fail K t) g h e

-- A STEP BACK
rows_back : (t c : ℕ) (rows : Rows) (K : Frames) (st : Step) (m : ℕ) (L : Frames) (s ns : List ℕ)
    → (st ≡ at m L → Ends K (t ∷ s) (m ∷ ns)) → Ends L s ns → step_rows t c rows K st ≡ at m L → Ends (frame c rows K) (t ∷ s) (m ∷ ns)
unfolding step_rows
rows_back t c none K st m L s ns below h e = goes stop (below e)
rows_back t c (row num tag req most kids rest) K st m L s ns below h e =
    back t c num tag req most kids rest K st m L s ns (view t c tag req most) (rows_back t zero rest K st m L s ns below h) h e

pub step_back : (K : Frames) (t m : ℕ) (L : Frames) (s ns : List ℕ) → Ends L s ns → step K t ≡ at m L → Ends K (t ∷ s) (m ∷ ns)
unfolding step
step_back done t m L s ns h e = absurd (at_fail (sym e ∙ e) (sym e))
step_back (frame c rows K) t m L s ns h e = rows_back t c rows K (step K t) m L s ns (step_back K t m L s ns h) h e

-- DETERMINISM
pub and_make : (a b : Bool) → T a → T b → T (and a b)
and_make true b p q = q
and_make false b p q = absurd p

pub nots : (a : Bool) → T (not a) → T a → ⊥
nots true h k = h
nots false h k = k

pub not_make : (a : Bool) → (T a → ⊥) → T (not a)
not_make true h = h tt
not_make false h = tt

pub false_of : (a : Bool) → (T a → ⊥) → a ≡ false
false_of true h = absurd (h tt)
false_of false h = refl

module _ (t c num tag : ℕ) (req : Bool) (most : ℕ) (kids rest : Rows) (b : Bool) where
  may_place : takes t c tag most ≡ true → may_rows t c (row num tag req most kids rest) b ≡ true
  unfolding may_rows choose
  may_place e = rw (e, choose)

  may_owe : takes t c tag most ≡ false → owed req c ≡ true → may_rows t c (row num tag req most kids rest) b ≡ false
  unfolding may_rows choose
  may_owe e f = rw (e, f, choose)

  may_pass : takes t c tag most ≡ false → owed req c ≡ false → may_rows t c (row num tag req most kids rest) b ≡ may_rows t zero rest b
  unfolding may_rows choose
  may_pass e f = rw (e, f, choose)

  may_fail_row : (K : Frames) (st : Step) → View t c tag req most → (may_rows t zero rest b ≡ false → step_rows t zero rest K st ≡ fail)
      → may_rows t c (row num tag req most kids rest) b ≡ false → step_rows t c (row num tag req most kids rest) K st ≡ fail
  may_fail_row K st (place p lt e) k h = absurd (not_both (may_place e) h)
  may_fail_row K st (owe e f) k h = step_owe t c num tag req most kids rest K st e f
  may_fail_row K st (pass e f) k h = step_pass t c num tag req most kids rest K st e f ∙ k (sym (may_pass e f) ∙ h)

  may_mono_row : (b' : Bool) → View t c tag req most → (T (may_rows t zero rest b) → T (may_rows t zero rest b'))
      → T (may_rows t c (row num tag req most kids rest) b) → T (may_rows t c (row num tag req most kids rest) b')
  unfolding may_rows choose
  may_mono_row b' (place p lt e) k h = rw (e, choose) tt
  may_mono_row b' (owe e f) k h = absurd (subst T (may_owe e f) h)
  may_mono_row b' (pass e f) k h = rw (e, f, choose) (k (subst T (may_pass e f) h))

may_fail_rows : (t c : ℕ) (rows : Rows) (b : Bool) (K : Frames) (st : Step) → (b ≡ false → st ≡ fail) → may_rows t c rows b ≡ false → step_rows t c rows K st ≡ fail
unfolding may_rows step_rows
may_fail_rows t c none b K st k h = k h
may_fail_rows t c (row num tag req most kids rest) b K st k h =
    may_fail_row t c num tag req most kids rest b K st (view t c tag req most) (may_fail_rows t zero rest b K st k) h

may_fail : (t : ℕ) (K : Frames) → may t K ≡ false → step K t ≡ fail
unfolding may step
may_fail t done h = refl
may_fail t (frame c rows K) h = may_fail_rows t c rows (may t K) K (step K t) (may_fail t K) h

-- what begins with a tag may begin with it
may_of : (K : Frames) (t : ℕ) (s ns : List ℕ) → Ends K (t ∷ s) ns → (T (may t K) → ⊥) → ⊥
may_of K t s ns h n = step_fail K t s ns (may_fail t K (false_of (may t K) n)) h

may_mono : (t c : ℕ) (rows : Rows) (b b' : Bool) → (T b → T b') → T (may_rows t c rows b) → T (may_rows t c rows b')
unfolding may_rows
may_mono t c none b b' k h = k h
may_mono t c (row num tag req most kids rest) b b' k h =
    may_mono_row t c num tag req most kids rest b b' (view t c tag req most) (may_mono t zero rest b b' k) h

or_mono : (a b a' b' : Bool) → (T a → T a') → (T b → T b') → T (or a b) → T (or a' b')
or_mono true b a' b' f g h = or_left a' b' (f tt)
or_mono false b a' b' f g h = or_right a' b' (g h)

-- fewer tags after the rows: still no doubt
det_anti : (rows : Rows) (F G : ℕ → Bool) → ((t : ℕ) → T (G t) → T (F t)) → T (det rows F) → T (det rows G)
unfolding det
det_anti none F G k h = tt
det_anti (row num tag req most kids rest) F G k h =
    let h1 = and_right (not (clash tag req most rest F)) _ h in
    and_make (not (clash tag req most rest G)) _
    (not_make (clash tag req most rest G) (λ x.
    nots (clash tag req most rest F) (and_left (not (clash tag req most rest F)) _ h)
    (and_make (doubt req most) _ (and_left (doubt req most) _ x) (may_mono tag zero rest (G tag) (F tag) (k tag) (and_right (doubt req most) _ x)))))
    (and_make (det kids (after tag most (λ t. may_rows t zero rest (G t)))) (det rest G)
    (det_anti kids (after tag most (λ t. may_rows t zero rest (F t))) (after tag most (λ t. may_rows t zero rest (G t)))
    (λ t. or_mono (takes t 1 tag most) (may_rows t zero rest (G t)) (takes t 1 tag most) (may_rows t zero rest (F t)) (λ x. x) (may_mono t zero rest (G t) (F t) (k t)))
    (and_left (det kids (after tag most (λ t. may_rows t zero rest (F t)))) (det rest F) h1))
    (det_anti rest F G k (and_right (det kids (after tag most (λ t. may_rows t zero rest (F t)))) (det rest F) h1)))

-- ONE STEP ON
abbrev pub On : ℕ → Frames → List ℕ → List ℕ → Type 0
On m L s ns = (ms : List ℕ) × (ns ≡ m ∷ ms) × Ends L s ms

det_tag : (num tag : ℕ) (req : Bool) (most : ℕ) (kids rest : Rows) (F : ℕ → Bool) → T (det (row num tag req most kids rest) F) → T (doubt req most) → T (may_rows tag zero rest (F tag)) → ⊥
unfolding det
det_tag num tag req most kids rest F h x y = nots (clash tag req most rest F) (and_left (not (clash tag req most rest F)) _ h) (and_make (doubt req most) _ x y)

in_doubt : (req : Bool) (most c : ℕ) → c < most → (T req → 1 ≤ c) → T (doubt req most)
unfolding doubt
in_doubt true most c lt o = or_left (ltb 1 most) _ (let y = o tt in T_true (lt-ltb 1 most (omega arith)))
in_doubt false most c lt o = or_right (ltb 1 most) _ (T_true (lt-ltb 0 most (omega arith)))

det_kids : (num tag : ℕ) (req : Bool) (most : ℕ) (kids rest : Rows) (F : ℕ → Bool) → T (det (row num tag req most kids rest) F) → T (det kids (after tag most (λ t. may_rows t zero rest (F t))))
unfolding det
det_kids num tag req most kids rest F h =
    and_left (det kids (after tag most (λ t. may_rows t zero rest (F t)))) (det rest F) (and_right (not (clash tag req most rest F)) _ h)

det_rest : (num tag : ℕ) (req : Bool) (most : ℕ) (kids rest : Rows) (F : ℕ → Bool) → T (det (row num tag req most kids rest) F) → T (det rest F)
unfolding det
det_rest num tag req most kids rest F h =
    and_right (det kids (after tag most (λ t. may_rows t zero rest (F t)))) (det rest F) (and_right (not (clash tag req most rest F)) _ h)

module _ (t c num tag : ℕ) (req : Bool) (most : ℕ) (kids rest : Rows) (K : Frames) (st : Step) (m : ℕ) (L : Frames) (d : T (det (row num tag req most kids rest) (λ t. may t K))) where
  on_skip : {s ns us ms : List ℕ} → View t c tag req most → (T req → 1 ≤ c) → Goes zero rest (t ∷ s) ns us ms → Ends K us ms
      → (step_rows t zero rest K st ≡ at m L → On m L s ns) → step_rows t c (row num tag req most kids rest) K st ≡ at m L → On m L s ns
  unfolding may
  on_skip {s} {ns} (place p lt e) o g h k q =
      absurd (may_of (frame zero rest K) t s ns (goes g h) (λ x. det_tag num tag req most kids rest (λ t. may t K) d (in_doubt req most c lt o) (subst (λ (u : ℕ). T (may_rows u zero rest (may u K))) p x)))
  on_skip (owe e f) o g h k q = absurd (owed_true req c f o)
  on_skip (pass e f) o g h k q = k (sym (step_pass t c num tag req most kids rest K st e f) ∙ q)

  on_have : {s ns us ms vs ls : List ℕ} → t ≡ tag → c < most → Goes zero kids s ns us ms → Goes (suc c) (row num tag req most kids rest) us ms vs ls → Ends K vs ls
      → step_rows t c (row num tag req most kids rest) K st ≡ at m L → On m L s (num ∷ ns)
  on_have {s} {ns} p lt g g' h q =
      let w = sym (step_place t c num tag req most kids rest K st (takes_yes p lt)) ∙ q in
      (ns, ap (λ (n : ℕ). n ∷ ns) (at_num w), subst (λ (M : Frames). Ends M s ns) (at_frames w) (goes g (goes g' h)))

rows_on : (t c : ℕ) (rows : Rows) (K : Frames) (st : Step) (m : ℕ) (L : Frames)
    → ((s ns : List ℕ) → st ≡ at m L → Ends K (t ∷ s) ns → On m L s ns) → T (det rows (λ t. may t K))
    → {s ns us ms : List ℕ} → Goes c rows (t ∷ s) ns us ms → Ends K us ms → step_rows t c rows K st ≡ at m L → On m L s ns
unfolding step_rows
rows_on t c none K st m L below d stop h e = below _ _ e h
rows_on t c (row num tag req most kids rest) K st m L below d (skip o g) h e =
    on_skip t c num tag req most kids rest K st m L d (view t c tag req most) o g h
    (rows_on t zero rest K st m L below (det_rest num tag req most kids rest (λ t. may t K) d) g h) e
rows_on t c (row num tag req most kids rest) K st m L below d (have lt g g') h e =
    on_have t c num tag req most kids rest K st m L d refl lt g g' h e

pub step_on : (K : Frames) (t m : ℕ) (L : Frames) (s ns : List ℕ) → T (det_k K) → step K t ≡ at m L → Ends K (t ∷ s) ns → On m L s ns
unfolding step det_k
step_on done t m L s ns d e h = elim h [ ]
step_on (frame c rows K) t m L s ns d e (goes g h) =
    rows_on t c rows K (step K t) m L (λ s ns. step_on K t m L s ns (and_right (det rows (λ t. may t K)) (det_k K) d)) (and_left (det rows (λ t. may t K)) (det_k K) d) g h e

-- A STEP KEEPS BOTH PROPERTIES
after_have : (t c num tag : ℕ) (req : Bool) (most : ℕ) (kids rest : Rows) (b : Bool) → View t (suc c) tag req most
    → T (may_rows t (suc c) (row num tag req most kids rest) b) → T (or (takes t 1 tag most) (may_rows t zero rest b))
after_have t c num tag req most kids rest b (place p lt e) h = or_left (takes t 1 tag most) _ (T_true (takes_yes p (omega arith)))
after_have t c num tag req most kids rest b (owe e f) h = absurd (owed_true req (suc c) f (λ x. omega arith))
after_have t c num tag req most kids rest b (pass e f) h = or_right (takes t 1 tag most) _ (subst T (may_pass t (suc c) num tag req most kids rest b e f) h)

abbrev pub Fine : Frames → Type 0
Fine K = T (det_k K) × T (good_k K)

fine_have : (c num tag : ℕ) (req : Bool) (most : ℕ) (kids rest : Rows) (K : Frames)
    → Fine (frame c (row num tag req most kids rest) K) → Fine (frame zero kids (frame (suc c) (row num tag req most kids rest) K))
unfolding det_k good_k may good
fine_have c num tag req most kids rest K f =
    let R : Rows = row num tag req most kids rest in
    let d = and_left (det R (λ t. may t K)) (det_k K) f.0 in
    let g = and_left (good R) (good_k K) f.1 in (
      and_make (det kids (λ t. may t (frame (suc c) R K))) _
          (det_anti kids (after tag most (λ t. may_rows t zero rest (may t K))) (λ t. may t (frame (suc c) R K))
          (λ t. after_have t c num tag req most kids rest (may t K) (view t (suc c) tag req most))
          (det_kids num tag req most kids rest (λ t. may t K) d))
          f.0,
      and_make (good kids) _ (and_left (good kids) (good rest) (and_right (or (not req) (ltb 0 most)) _ g)) f.1,
    )

fine_rest : (c num tag : ℕ) (req : Bool) (most : ℕ) (kids rest : Rows) (K : Frames)
    → Fine (frame c (row num tag req most kids rest) K) → Fine (frame zero rest K)
unfolding det_k good_k good
fine_rest c num tag req most kids rest K f =
    let R : Rows = row num tag req most kids rest in
    let d = and_left (det R (λ t. may t K)) (det_k K) f.0 in
    let g = and_left (good R) (good_k K) f.1 in (
      and_make (det rest (λ t. may t K)) _ (det_rest num tag req most kids rest (λ t. may t K) d) (and_right (det R (λ t. may t K)) (det_k K) f.0),
      and_make (good rest) _ (and_right (good kids) (good rest) (and_right (or (not req) (ltb 0 most)) _ g)) (and_right (good R) (good_k K) f.1),
    )

fine_below : (c : ℕ) (rows : Rows) (K : Frames) → Fine (frame c rows K) → Fine K
unfolding det_k good_k
fine_below c rows K f = (and_right (det rows (λ t. may t K)) (det_k K) f.0, and_right (good rows) (good_k K) f.1)

fine_row : (t c num tag : ℕ) (req : Bool) (most : ℕ) (kids rest : Rows) (K : Frames) (st : Step) (m : ℕ) (L : Frames) → View t c tag req most
    → Fine (frame c (row num tag req most kids rest) K) → (step_rows t zero rest K st ≡ at m L → Fine L)
    → step_rows t c (row num tag req most kids rest) K st ≡ at m L → Fine L
fine_row t c num tag req most kids rest K st m L (place p lt e) f k q =
    subst Fine (at_frames (sym (step_place t c num tag req most kids rest K st e) ∙ q)) (fine_have c num tag req most kids rest K f)
fine_row t c num tag req most kids rest K st m L (owe e g) f k q = absurd (at_fail q (step_owe t c num tag req most kids rest K st e g))
fine_row t c num tag req most kids rest K st m L (pass e g) f k q = k (sym (step_pass t c num tag req most kids rest K st e g) ∙ q)

fine_rows : (t c : ℕ) (rows : Rows) (K : Frames) (st : Step) (m : ℕ) (L : Frames) → (st ≡ at m L → Fine L) → Fine (frame c rows K) → step_rows t c rows K st ≡ at m L → Fine L
unfolding step_rows
fine_rows t c none K st m L k f e = k e
fine_rows t c (row num tag req most kids rest) K st m L k f e =
    fine_row t c num tag req most kids rest K st m L (view t c tag req most) f (fine_rows t zero rest K st m L k (fine_rest c num tag req most kids rest K f)) e

pub step_fine : (K : Frames) (t m : ℕ) (L : Frames) → Fine K → step K t ≡ at m L → Fine L
unfolding step
step_fine done t m L f e = absurd (at_fail (sym e ∙ e) (sym e))
step_fine (frame c rows K) t m L f e = fine_rows t c rows K (step K t) m L (step_fine K t m L (fine_below c rows K f)) f e

-- COMPLETION: what is begun can be finished
abbrev pub Finish : ℕ → Rows → List ℕ → List ℕ → Type 0
Finish c rows us ms = (ts : List ℕ) × (ns : List ℕ) × Goes c rows ts ns us ms

finish_row : (c num tag : ℕ) (req : Bool) (most : ℕ) (kids rest : Rows) (us ms : List ℕ) → T (or (not req) (ltb 0 most))
    → ((us ms : List ℕ) → Finish zero kids us ms) → Finish zero rest us ms → (b : Bool) → owed req c ≡ b → Finish c (row num tag req most kids rest) us ms
unfolding owed
finish_row c num tag true most kids rest us ms g k r true e =
    let z : c ≡ 0 = eqb-true c 0 e in
    let lt : 0 < most = ltb-true 0 most (true_T (ltb 0 most) g) in
    let lt2 : c < most = omega arith in
    let o : (T true → 1 ≤ suc c) = λ x. omega arith in
    let f = k r.0 r.1 in
    (tag ∷ f.0, num ∷ f.1, have lt2 f.2 (skip o r.2))
finish_row c num tag false most kids rest us ms g k r true e = absurd (not_both {b = false} e refl)
finish_row c num tag req most kids rest us ms g k r false e = (r.0, r.1, skip (not_owed req c e) r.2)

finish : (rows : Rows) → T (good rows) → (c : ℕ) (us ms : List ℕ) → Finish c rows us ms
unfolding good
finish none g c us ms = (us, ms, stop)
finish (row num tag req most kids rest) g c us ms =
    let h = and_right (or (not req) (ltb 0 most)) _ g in
    finish_row c num tag req most kids rest us ms (and_left (or (not req) (ltb 0 most)) _ g)
    (finish kids (and_left (good kids) (good rest) h) zero)
    (finish rest (and_right (good kids) (good rest) h) zero us ms)
    (owed req c) refl

pub completes : (K : Frames) → T (good_k K) → (ts : List ℕ) × (ns : List ℕ) × Ends K ts ns
unfolding good_k
completes done g = ([], [], ends)
completes (frame c rows K) g =
    let k = completes K (and_right (good rows) (good_k K) g) in
    let f = finish rows (and_left (good rows) (good_k K) g) c k.0 k.1 in
    (f.0, f.1, goes f.2 k.2)

-- THE END OF THE TAGS
pub free_owe : (c num tag : ℕ) (req : Bool) (most : ℕ) (kids rest : Rows) (b : Bool) → owed req c ≡ true → free_rows c (row num tag req most kids rest) b ≡ false
unfolding free_rows choose
free_owe c num tag req most kids rest b e = rw (e, choose)

pub free_pass : (c num tag : ℕ) (req : Bool) (most : ℕ) (kids rest : Rows) (b : Bool) → owed req c ≡ false → free_rows c (row num tag req most kids rest) b ≡ free_rows zero rest b
unfolding free_rows choose
free_pass c num tag req most kids rest b e = rw (e, choose)

free_rows_lem : (c : ℕ) (rows : Rows) (K : Frames) (ns us ms : List ℕ) → ((ns : List ℕ) → Ends K [] ns → T (free K) × (ns ≡ [])) → Goes c rows [] ns us ms → Ends K us ms
    → T (free_rows c rows (free K)) × (ns ≡ [])
unfolding free_rows
free_rows_lem c none K ns us ms k stop h = k ns h
free_rows_lem c (row num tag req most kids rest) K ns us ms k (skip o g) h =
    let r = free_rows_lem zero rest K ns us ms k g h in
    (subst T (sym (free_pass c num tag req most kids rest (free K) (owed_no req c o))) r.0, r.1)

pub ends_free : (K : Frames) (ns : List ℕ) → Ends K [] ns → T (free K) × (ns ≡ [])
unfolding free
ends_free done ns ends = (tt, refl)
ends_free (frame c rows K) ns (goes g h) = free_rows_lem c rows K _ _ _ (ends_free K) g h

free_go : (c num tag : ℕ) (req : Bool) (most : ℕ) (kids rest : Rows) (K : Frames) (b : Bool) → owed req c ≡ b
    → (T (free_rows zero rest (free K)) → Ends (frame zero rest K) [] []) → T (free_rows c (row num tag req most kids rest) (free K)) → Ends (frame c (row num tag req most kids rest) K) [] []
free_go c num tag req most kids rest K true e k h = absurd (subst T (free_owe c num tag req most kids rest (free K) e) h)
free_go c num tag req most kids rest K false e k h = under (k (subst T (free_pass c num tag req most kids rest (free K) e) h))
  where
    under : Ends (frame zero rest K) [] [] → Ends (frame c (row num tag req most kids rest) K) [] []
    under (goes g h) = goes (skip (not_owed req c e) g) h

free_gos : (c : ℕ) (rows : Rows) (K : Frames) → (T (free K) → Ends K [] []) → T (free_rows c rows (free K)) → Ends (frame c rows K) [] []
unfolding free_rows
free_gos c none K k h = goes stop (k h)
free_gos c (row num tag req most kids rest) K k h = free_go c num tag req most kids rest K (owed req c) refl (free_gos zero rest K k) h

pub free_ends : (K : Frames) → T (free K) → Ends K [] []
unfolding free
free_ends done h = ends
free_ends (frame c rows K) h = free_gos c rows K (free_ends K) h

-- THE RUN
pub run_at : (t : ℕ) (ts : List ℕ) (K : Frames) (i m : ℕ) (L : Frames) → step K t ≡ at m L → run (t ∷ ts) K i ≡ run ts L (suc i)
unfolding run
run_at t ts K i m L e = rw (e, run)

pub run_fail : (t : ℕ) (ts : List ℕ) (K : Frames) (i : ℕ) → step K t ≡ fail → run (t ∷ ts) K i ≡ stuck i
unfolding run
run_fail t ts K i e = rw (e, run)

pub run_end : (K : Frames) (i : ℕ) → free K ≡ true → run [] K i ≡ placed
unfolding run
run_end K i e = ap (λ (b : Bool). if b placed (stuck i)) e

pub run_short : (K : Frames) (i : ℕ) → free K ≡ false → run [] K i ≡ stuck i
unfolding run
run_short K i e = ap (λ (b : Bool). if b placed (stuck i)) e

-- what has a placement is placed
run_of_step : (t : ℕ) (ts : List ℕ) (K : Frames) (i : ℕ) (ns : List ℕ) → Fine K → Ends K (t ∷ ts) ns
    → ((L : Frames) (i : ℕ) (ns : List ℕ) → Fine L → Ends L ts ns → run ts L i ≡ placed)
    → (st : Step) → step K t ≡ st → run (t ∷ ts) K i ≡ placed
run_of_step t ts K i ns f h k (at m L) e =
    let o = step_on K t m L ts ns f.0 e h in
    run_at t ts K i m L e ∙ k L (suc i) o.0 (step_fine K t m L f e) o.2
run_of_step t ts K i ns f h k fail e = absurd (step_fail K t ts ns e h)

pub run_of : (ts : List ℕ) (K : Frames) (i : ℕ) (ns : List ℕ) → Fine K → Ends K ts ns → run ts K i ≡ placed
run_of [] K i ns f h = run_end K i (true_T (free K) (ends_free K ns h).0)
run_of (t ∷ ts) K i ns f h = run_of_step t ts K i ns f h (run_of ts) (step K t) refl

-- WHAT THE RUN SAYS
-- the whole message: j tags can begin a message, and either they are all, and are none, or with one more they cannot
pub record Stuck (K : Frames) (ts : List ℕ) (j : ℕ) : Type 0 where
  pub within : j ≤ length ts
  pub begins : (tail : List ℕ) × (ns : List ℕ) × Ends K (take j ts ++ tail) ns
  pub never : j < length ts → (tail ns : List ℕ) → Ends K (take (suc j) ts ++ tail) ns → ⊥

pub data Said (K : Frames) (ts : List ℕ) (i : ℕ) : Type 0 where
  all : (ns : List ℕ) → Ends K ts ns → run ts K i ≡ placed → Said K ts i
  part : (j : ℕ) → Stuck K ts j → run ts K i ≡ stuck (i + j) → Said K ts i

said_more : (t : ℕ) (ts : List ℕ) (K : Frames) (i m : ℕ) (L : Frames) → Fine K → step K t ≡ at m L → Said L ts (suc i) → Said K (t ∷ ts) i
said_more t ts K i m L f e (all ns h r) = all (m ∷ ns) (step_back K t m L ts ns h e) (run_at t ts K i m L e ∙ r)
said_more t ts K i m L f e (part j s r) =
    part (suc j)
    (record {
      within = omega (arith, s.within);
      begins = (s.begins.0, m ∷ s.begins.1, step_back K t m L _ _ s.begins.2 e);
      never = λ q tail ns h. let o = step_on K t m L (take (suc j) ts ++ tail) ns f.0 e h in s.never (omega arith) tail o.0 o.2;
    })
    (run_at t ts K i m L e ∙ r ∙ ap stuck (omega arith))

said_step : (t : ℕ) (ts : List ℕ) (K : Frames) (i : ℕ) → Fine K → ((L : Frames) (i : ℕ) → Fine L → Said L ts i) → (st : Step) → step K t ≡ st → Said K (t ∷ ts) i
said_step t ts K i f k (at m L) e = said_more t ts K i m L f e (k L (suc i) (step_fine K t m L f e))
said_step t ts K i f k fail e =
    part 0
    (record {
      within = omega arith;
      begins = completes K f.1;
      never = λ q tail ns h. step_fail K t (take 0 ts ++ tail) ns e h;
    })
    (run_fail t ts K i e ∙ ap stuck (omega arith))

said_end : (K : Frames) (i : ℕ) → Fine K → (b : Bool) → free K ≡ b → Said K [] i
said_end K i f true e = all [] (free_ends K (T_true e)) (run_end K i e)
said_end K i f false e =
    part 0
    (record { within = omega arith; begins = completes K f.1; never = λ q. omega arith })
    (run_short K i e ∙ ap stuck (omega arith))

pub said : (ts : List ℕ) (K : Frames) (i : ℕ) → Fine K → Said K ts i
said [] K i f = said_end K i f (free K) refl
said (t ∷ ts) K i f = said_step t ts K i f (said ts) (step K t) refl
