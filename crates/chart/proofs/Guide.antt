-- For any chart: where G guides, the rows of a placement come one by one, each from the one before it and its tag. Assumes nothing.
use mathlib.Core.Path.{◌≡◌, refl, sym, ap, ◌∙◌}
use mathlib.Core.Bool.{Bool, ◌&&◌ as and, ◌||◌ as or}
use mathlib.Core.List.{List, [], ◌∷◌}
use Prim.Native.Nat.{ℕ, zero, suc, ◌<◌}
use native.Mathlib.Omega.{arith}
use lib.Dec.{T, eqb, eqb→eq}
use lib.ListN.{length, get_or}
use Rattle.chart.specs.Chart.{Rows, none, row, Placement}
use Rattle.chart.specs.Forms.Machine.{only, Ends, Frames, done, frame, Step, at, fail, step, step_rows, agree_rows, agree, guides, guides_k, rows_by, row_after}
use Rattle.chart.proofs.Theory.{View, place, owe, pass, view, at_fail, at_num, at_frames, step_place, step_owe, step_pass, and_left, and_right, and_make, or_cases, step_fail, step_on, step_fine, ends_free, Fine}
use Rattle.chart.proofs.Plain.{placement_ends}

module _ (G : ℕ → ℕ → ℕ) where
  -- after a step to m: what G says from m on is right
  pub record Guided (m : ℕ) (L : Frames) : Type 0 where
    pub near : T (agree (G m) L)
    pub far : T (guides_k G L)

  abbrev pub To : (ℕ → ℕ) → ℕ → ℕ → Frames → Type 0
  To g t m L = (g t ≡ m) × Guided m L

  to_place : (g : ℕ → ℕ) (c num tag : ℕ) (req : Bool) (most : ℕ) (kids rest : Rows) (K : Frames) → c < most
      → T (guides G (row num tag req most kids rest) (λ g. agree g K)) → T (guides_k G K) → T (agree_rows g (row num tag req most kids rest) (agree g K))
      → To g tag num (frame zero kids (frame (suc c) (row num tag req most kids rest) K))
  unfolding agree agree_rows guides guides_k
  to_place g c num tag req most kids rest K lt d f a =
      let R : Rows = row num tag req most kids rest in
      let had : (T (eqb most 0) → ⊥) = λ x. let z : most ≡ 0 = eqb→eq most 0 x in omega arith in
      let d1 = or_cases (eqb most 0) _ (and_left (or (eqb most 0) (and (agree_rows (G num) kids (agree_rows (G num) R (agree (G num) K))) _)) _ d) had in (
        eqb→eq (g tag) num (or_cases (eqb most 0) _ (and_left (or (eqb most 0) (eqb (g tag) num)) _ a) had),
        record {
          near = and_left (agree_rows (G num) kids (agree_rows (G num) R (agree (G num) K))) _ d1;
          far = and_make (guides G kids (λ g. agree_rows g R (agree g K))) _
              (and_right (agree_rows (G num) kids (agree_rows (G num) R (agree (G num) K))) _ d1)
              (and_make (guides G R (λ g. agree g K)) (guides_k G K) d f);
        },
      )

  to_row : (g : ℕ → ℕ) (t c num tag : ℕ) (req : Bool) (most : ℕ) (kids rest : Rows) (K : Frames) (st : Step) (m : ℕ) (L : Frames) → View t c tag req most
      → (c < most → To g tag num (frame zero kids (frame (suc c) (row num tag req most kids rest) K)))
      → (step_rows t zero rest K st ≡ at m L → To g t m L)
      → step_rows t c (row num tag req most kids rest) K st ≡ at m L → To g t m L
  to_row g t c num tag req most kids rest K st m L (place p lt e) h k q =
      let w = sym (step_place t c num tag req most kids rest K st e) ∙ q in
      rw (p, ← at_num w, ← at_frames w) (h lt)
  to_row g t c num tag req most kids rest K st m L (owe e f) h k q = absurd (at_fail q (step_owe t c num tag req most kids rest K st e f))
  to_row g t c num tag req most kids rest K st m L (pass e f) h k q = k (sym (step_pass t c num tag req most kids rest K st e f) ∙ q)

  to_rows : (g : ℕ → ℕ) (t c : ℕ) (rows : Rows) (K : Frames) (st : Step) (m : ℕ) (L : Frames) → (T (agree g K) → st ≡ at m L → To g t m L)
      → T (guides G rows (λ g. agree g K)) → T (guides_k G K) → T (agree_rows g rows (agree g K)) → step_rows t c rows K st ≡ at m L → To g t m L
  unfolding step_rows agree_rows guides
  to_rows g t c none K st m L k d f a e = k a e
  to_rows g t c (row num tag req most kids rest) K st m L k d f a e =
      to_row g t c num tag req most kids rest K st m L (view t c tag req most)
      (λ lt. to_place g c num tag req most kids rest K lt d f a)
      (to_rows g t zero rest K st m L k
      (and_right (or (eqb most 0) (and (agree_rows (G num) kids (agree_rows (G num) (row num tag req most kids rest) (agree (G num) K))) _)) _ d) f
      (and_right (or (eqb most 0) (eqb (g tag) num)) _ a)) e

  -- ONE STEP: where g is right, it is the step's row
  pub step_to : (g : ℕ → ℕ) (K : Frames) (t m : ℕ) (L : Frames) → T (agree g K) → T (guides_k G K) → step K t ≡ at m L → To g t m L
  unfolding step agree guides_k
  step_to g done t m L a f e = absurd (at_fail (sym e ∙ e) (sym e))
  step_to g (frame c rows K) t m L a f e =
      let f2 = and_right (guides G rows (λ g. agree g K)) (guides_k G K) f in
      to_rows g t c rows K (step K t) m L (λ b. step_to g K t m L b f2) (and_left (guides G rows (λ g. agree g K)) (guides_k G K) f) f2 a e

  -- THE ROWS OF WHAT IS PLACED
  rows_step : (t : ℕ) (ts : List ℕ) (p : ℕ) (K : Frames) (ns : List ℕ) → Fine K → Guided p K → Ends K (t ∷ ts) ns
      → ((m : ℕ) (L : Frames) (ns : List ℕ) → Fine L → Guided m L → Ends L ts ns → ns ≡ rows_by G m ts)
      → (st : Step) → step K t ≡ st → ns ≡ rows_by G p (t ∷ ts)
  unfolding rows_by
  rows_step t ts p K ns f d h k (at m L) e =
      let o = step_on K t m L ts ns f.0 e h in
      let w = step_to (G p) K t m L d.near d.far e in
      o.1 ∙ rw (w.0, ← k m L o.0 (step_fine K t m L f e) w.1 o.2)
  rows_step t ts p K ns f d h k fail e = absurd (step_fail K t ts ns e h)

  pub ends_rows : (ts : List ℕ) (p : ℕ) (K : Frames) (ns : List ℕ) → Fine K → Guided p K → Ends K ts ns → ns ≡ rows_by G p ts
  unfolding rows_by
  ends_rows [] p K ns f d h = (ends_free K ns h).1
  ends_rows (t ∷ ts) p K ns f d h = rows_step t ts p K ns f d h (ends_rows ts) (step K t) refl

  pub placement_rows : (rows : Rows) (p : ℕ) (ts ns : List ℕ) → Fine (only rows) → Guided p (only rows) → Placement rows ts ns → ns ≡ rows_by G p ts
  placement_rows rows p ts ns f d h = ends_rows ts p (only rows) ns f d (placement_ends h)

  -- ROW BY ROW
  pub rows_length : (p : ℕ) (ts : List ℕ) → length (rows_by G p ts) ≡ length ts
  unfolding rows_by
  rows_length p [] = refl
  rows_length p (t ∷ ts) = ap suc (rows_length (G p t) ts)

  pub rows_first : (p : ℕ) (ts : List ℕ) → 0 < length ts → get_or (rows_by G p ts) 0 0 ≡ G p (get_or ts 0 0)
  unfolding rows_by
  rows_first p [] h = absurd (omega arith)
  rows_first p (t ∷ ts) h = refl

  pub rows_next : (p : ℕ) (ts : List ℕ) (k : ℕ) → suc k < length ts → get_or (rows_by G p ts) (suc k) 0 ≡ G (get_or (rows_by G p ts) k 0) (get_or ts (suc k) 0)
  unfolding rows_by
  rows_next p [] k h = absurd (omega arith)
  rows_next p (t ∷ ts) zero h = rows_first (G p t) ts (omega arith)
  rows_next p (t ∷ ts) (suc k) h = rows_next (G p t) ts k (omega arith)

  pub rows_after : (p : ℕ) (ts : List ℕ) (i : ℕ) → i < length ts → row_after G p ts (suc i) ≡ get_or (rows_by G p ts) i 0
  unfolding row_after
  rows_after p ts zero h = sym (rows_first p ts h)
  rows_after p ts (suc i) h = ap (λ (m : ℕ). G m (get_or ts (suc i) 0)) (rows_after p ts i (omega arith)) ∙ sym (rows_next p ts i h)
