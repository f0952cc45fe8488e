-- The segments of two texts one after the other and of a text further on; and how segments are found again after any damage: from the second
-- terminator on, what stood before does not matter. Assumes nothing.
use Rattle.std.specs.Prelude.{ℕ, suc, ◌+◌, ◌≡◌, ◌⊎◌, Bool, true, false, not, length, T, eqb}
use Rattle.std.proofs.Common.{zero-add, add-zero, add-suc, suc-add, arith, ◌∙◌, subst, inl, inr, ⊎_elim, eqb-true}
use Rattle.std.proofs.Math.Path.{refl, sym, ap}
use mathlib.Core.List.{List, [], ◌∷◌, ◌++◌, map}
use Rattle.service.specs.declared.Service.{Service}
use Rattle.service.specs.Tests.{if}
use Rattle.segments.specs.declared.Class.{Class}
use Rattle.segments.specs.declared.Class.TheVariants.{Plain, Comp, Elem, Rel, Term}
use Rattle.segments.specs.Classes.{class_of, is_break}
use Rattle.segments.specs.declared.Piece.{Piece}
use Rattle.segments.specs.SegmentList.{Mode, gap, first, inside, held, mode, ended, after, ends, start_in, emit, left, pieces}
use Rattle.segments.specs.Sync.{run, shift, rel_by, rel_next, rel_after, Sound}

-- ---- two texts one after the other
emit_append : (t : Bool) (a b : ℕ) (l r : List Piece) → emit t a b (l ++ r) ≡ emit t a b l ++ r
emit_append true a b l r = refl
emit_append false a b l r = refl

pub gap_start : (v : Service) (st st' i : ℕ) (s : List ℕ) → pieces v gap st i s ≡ pieces v gap st' i s
unfolding pieces
gap_start v st st' i [] = refl
gap_start v st st' i (b ∷ s) = refl

pub run_append : (v : Service) (m : Mode) (a b : List ℕ) → run v m (a ++ b) ≡ run v (run v m a) b
unfolding run
run_append v m [] b = refl
run_append v m (x ∷ a) b = run_append v (after v m x) a b

-- where the first leaves nothing open
pub pieces_append : (v : Service) (m : Mode) (st i : ℕ) (a b : List ℕ) → run v m a ≡ gap → pieces v m st i (a ++ b) ≡ pieces v m st i a ++ pieces v gap 0 (i + length a) b
unfolding pieces run
pieces_append v m st i [] b e = rw (e, add-zero) (gap_start v st 0 i b)
pieces_append v m st i (x ∷ a) b e =
    rw (add-suc, ← suc-add)
    (ap (emit (ends v m x) (start_in m st i) i) (pieces_append v (after v m x) (start_in m st i) (suc i) a b e)
    ∙ emit_append (ends v m x) _ _ _ _)

-- ---- a text further on
shift_start : (m : Mode) (k st i : ℕ) → start_in m (k + st) (k + i) ≡ k + start_in m st i
shift_start gap k st i = refl
shift_start first k st i = refl
shift_start inside k st i = refl
shift_start held k st i = refl

shift_emit : (t : Bool) (k a b : ℕ) (l : List Piece) → emit t (k + a) (k + b) (map (shift k) l) ≡ map (shift k) (emit t a b l)
shift_emit true k a b l = refl
shift_emit false k a b l = refl

shift_left : (m : Mode) (k st i : ℕ) → left m (k + st) (k + i) ≡ map (shift k) (left m st i)
shift_left gap k st i = refl
shift_left first k st i = refl
shift_left inside k st i = refl
shift_left held k st i = refl

pub pieces_shift : (v : Service) (m : Mode) (k st i : ℕ) (s : List ℕ) → pieces v m (k + st) (k + i) s ≡ map (shift k) (pieces v m st i s)
unfolding pieces
pieces_shift v m k st i [] = shift_left m k st i
pieces_shift v m k st i (b ∷ s) =
    rw (shift_start m k st i, ← add-suc)
    (ap (emit (ends v m b) _ _) (pieces_shift v (after v m b) k (start_in m st i) (suc i) s) ∙ shift_emit (ends v m b) k _ _ _)

-- ---- after a terminator, bytes that hold back nothing, and a terminator
-- whether the next byte is released
abbrev loose : Mode → Bool
loose gap = false
loose first = false
loose inside = false
loose held = true

moved : (v : Service) (k : ℕ) (s : List ℕ) → pieces v gap 0 (0 + k) s ≡ map (shift k) (pieces v gap 0 0 s)
moved v k s = rw (zero-add k) (rw (add-zero k) at (gap_start v 0 (k + 0) (k + 0) s) ∙ rw (add-zero k) at (pieces_shift v gap k 0 0 s))

-- two tests that a byte is a break
pub break_is : (b : ℕ) (t u : Bool) → eqb b 13 ≡ t → eqb b 10 ≡ u → if t true u ≡ true → (b ≡ 13) ⊎ (b ≡ 10)
break_is b true u p q e = inl (eqb-true b 13 p)
break_is b false true p q e = inr (eqb-true b 10 q)
break_is b false false p q e = absurd (subst T (sym e) tt)

rel_mode : (k : Class) → rel_by k ≡ loose (mode k)
rel_mode Plain = refl
rel_mode Comp = refl
rel_mode Elem = refl
rel_mode Rel = refl
rel_mode Term = refl

module _ (v : Service) (ok : Sound v) where
  rel_gap : (b : ℕ) (t : Bool) → is_break b ≡ t → rel_by (class_of v b) ≡ loose (if t gap (mode (class_of v b)))
  rel_gap b true e = ⊎_elim (λ (q : b ≡ 13). rw (q, ok.cr)) (λ (q : b ≡ 10). rw (q, ok.lf)) (break_is b (eqb b 13) (eqb b 10) refl refl e)
  rel_gap b false e = rel_mode (class_of v b)

  loose_next : (m : Mode) (b : ℕ) → rel_next v (loose m) b ≡ loose (after v m b)
  loose_next gap b = rel_gap b (is_break b) refl
  loose_next first b = rel_mode (class_of v b)
  loose_next inside b = rel_mode (class_of v b)
  loose_next held b = refl

  loose_run : (m : Mode) (s : List ℕ) → rel_after v (loose m) s ≡ loose (run v m s)
  unfolding rel_after run
  loose_run m [] = refl
  loose_run m (b ∷ s) = ap (λ (r : Bool). rel_after v r s) (loose_next m b) ∙ loose_run (after v m b) s

  not_held : (m : Mode) (b : ℕ) → after v m b ≡ gap → loose m ≡ false
  not_held gap b e = refl
  not_held first b e = refl
  not_held inside b e = refl
  not_held held b e = absurd (let z : ◌≡◌ {A = ℕ} 0 1 = cc in omega arith)

  -- what stands before a byte that ends a segment leaves nothing released
  pub loose_before : (u : List ℕ) (b : ℕ) → run v gap (u ++ b ∷ []) ≡ gap → rel_after v false u ≡ false
  unfolding run
  loose_before u b e = loose_run gap u ∙ not_held (run v gap u) b (sym (run_append v gap u (b ∷ [])) ∙ e)

  module _ (t : ℕ) (c : class_of v t ≡ Term) (n : is_break t ≡ false) where
    -- a terminator leaves nothing released; where nothing is released it ends a segment
    term_loose : (m : Mode) → loose (after v m t) ≡ false
    term_loose gap = simp (n, c)
    term_loose first = simp c
    term_loose inside = simp c
    term_loose held = refl

    term_gap : (m : Mode) → loose m ≡ false → after v m t ≡ gap
    term_gap gap e = simp (n, c)
    term_gap first e = simp c
    term_gap inside e = simp c
    term_gap held e = absurd (subst T e tt)

    -- whatever was read before
    pub settles : (m : Mode) (p u : List ℕ) → rel_after v false u ≡ false → run v m (p ++ (t ∷ u) ++ t ∷ []) ≡ gap
    unfolding run
    settles m p u e =
        run_append v m (p ++ (t ∷ u)) (t ∷ [])
        ∙ term_gap (run v m (p ++ (t ∷ u)))
        (ap loose (run_append v m p (t ∷ u)) ∙ sym (loose_run (after v (run v m p) t) u) ∙ ap (λ (r : Bool). rel_after v r u) (term_loose (run v m p)) ∙ e)

    -- the segments after the second terminator are those of the rest, moved to where it stands: the unfinished last one too
    pub resync : (m : Mode) (p u rest : List ℕ) → rel_after v false u ≡ false
        → let x : List ℕ = p ++ (t ∷ u) ++ t ∷ [] in pieces v m 0 0 (x ++ rest) ≡ pieces v m 0 0 x ++ map (shift (length x)) (pieces v gap 0 0 rest)
    resync m p u rest e =
        let x : List ℕ = p ++ (t ∷ u) ++ t ∷ [] in
        pieces_append v m 0 0 x rest (settles m p u e)
        ∙ ap (λ (l : List Piece). pieces v m 0 0 x ++ l) (moved v (length x) rest)

    -- the same for two beginnings: what follows the second terminator is read alike, at its own place
    pub alike : (a d d' u rest : List ℕ) → rel_after v false u ≡ false
        → (l l' : List Piece) × (k k' : ℕ) × (pieces v gap 0 0 (a ++ d ++ (t ∷ u) ++ t ∷ [] ++ rest) ≡ l ++ map (shift k) (pieces v gap 0 0 rest)) × (pieces v gap 0 0 (a ++ d' ++ (t ∷ u) ++ t ∷ [] ++ rest) ≡ l' ++ map (shift k') (pieces v gap 0 0 rest))
    alike a d d' u rest e =
        let x : List ℕ = a ++ d ++ (t ∷ u) ++ t ∷ [] in
        let x' : List ℕ = a ++ d' ++ (t ∷ u) ++ t ∷ [] in
        (pieces v gap 0 0 x, pieces v gap 0 0 x', length x, length x', resync gap (a ++ d) u rest e, resync gap (a ++ d') u rest e)

-- ---- a text that begins with no break
abbrev pub unbroken : List ℕ → Bool
unbroken [] = true
unbroken (b ∷ l) = not (is_break b)

-- is read alike between segments, at a segment's first byte, and inside one that begins there
module _ (v : Service) (i : ℕ) where
  gap_by : (b : ℕ) (l : List ℕ) (x : Bool) → not x ≡ true
      → emit (if x false (ended (class_of v b))) i i (pieces v (if x gap (mode (class_of v b))) i (suc i) l) ≡ emit (ended (class_of v b)) i i (pieces v (mode (class_of v b)) i (suc i) l)
  gap_by b l true q = absurd (let n : ◌≡◌ {A = ℕ} 0 1 = cc in omega arith)
  gap_by b l false q = refl

  pub gap_first : (st : ℕ) (l : List ℕ) → unbroken l ≡ true → pieces v gap st i l ≡ pieces v first i i l
  unfolding pieces
  gap_first st [] q = refl
  gap_first st (b ∷ l) q = gap_by b l (is_break b) q

  pub gap_inside : (st b : ℕ) (l : List ℕ) → unbroken (b ∷ l) ≡ true → pieces v gap st i (b ∷ l) ≡ pieces v inside i i (b ∷ l)
  unfolding pieces
  gap_inside st b l q = gap_by b l (is_break b) q
