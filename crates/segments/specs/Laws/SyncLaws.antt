-- What the end of a segment and the breaks after it say of the list of segments. Assumes nothing.
use Rattle.std.specs.Prelude.{ℕ, suc, ◌+◌, ◌-◌, ◌≤◌, ◌<◌, ◌≡◌, refl, List, [], ◌∷◌, Bool, true, false, length, drop, eqb}
use Rattle.std.proofs.Common.{add-one, add-zero, arith, sym, ◌∙◌, ap, subst, length-drop, drop_of_length-le, drop-drop}
use Rattle.service.specs.declared.Service.{Service}
use Rattle.service.specs.Tests.{if}
use Rattle.segments.specs.declared.Class.{Class}
use Rattle.segments.specs.declared.Class.TheVariants.{Plain, Comp, Elem, Rel, Term}
use Rattle.std.specs.Prelude.{Option}
use Rattle.std.specs.Prelude.{Some, None}
use Rattle.segments.specs.Classes.{class_of, is_break}
use Rattle.segments.specs.Forms.Bytes.{end_by, end_from, past_breaks}
use Rattle.segments.specs.declared.Piece.{Piece}
use Rattle.segments.specs.declared.Piece.TheVariants.{Finished as finished, Unfinished as unfinished}
use Rattle.segments.specs.SegmentList.{Mode, gap, first, inside, held, emit, left, pieces, segments_from}
use Rattle.segments.specs.Laws.ResyncLaws.{gap_start}

abbrev pub mode_of : Bool → Mode
mode_of true = held
mode_of false = inside

-- the segment that begins at st and goes on in l, the first byte of which stands at i, ends at t
pub record Found (v : Service) (r : Bool) (st i : ℕ) (l : List ℕ) (t : ℕ) : Type 0 where
  pub low : i ≤ t
  pub high : t < i + length l
  pub same : pieces v (mode_of r) st i l ≡ finished st t ∷ pieces v gap 0 (suc t) (drop (suc t - i) l)

-- one byte further
further : (v : Service) (r q : Bool) (st i b : ℕ) (l : List ℕ) (t : ℕ) → pieces v (mode_of r) st i (b ∷ l) ≡ pieces v (mode_of q) st (suc i) l → Found v q st (suc i) l t → Found v r st i (b ∷ l) t
further v r q st i b l t e f =
    let h = f.low in
    let g = f.high in
    let n : suc t - i ≡ suc (suc t - suc i) = omega arith in record {
      low = omega arith;
      high = omega arith;
      same = e ∙ f.same ∙ sym (ap (λ (m : ℕ). emit true st t (pieces v gap 0 (suc t) (drop m (b ∷ l)))) n);
    }

here : (v : Service) (st i b : ℕ) (l : List ℕ) → Term ≡ class_of v b → Found v false st i (b ∷ l) i
unfolding pieces
here v st i b l c =
    let n : suc i - i ≡ suc 0 = omega arith in record {
      low = omega arith;
      high = omega arith;
      same = rw (← c, n) (ap (λ (u : List Piece). emit true st i u) (gap_start v st 0 (suc i) l));
    }

found_by_lem : (v : Service) (st i b : ℕ) (l : List ℕ) (t : ℕ) → ((q : Bool) → end_from v q (suc i) l ≡ Some t → Found v q st (suc i) l t)
    → (k : Class) → k ≡ class_of v b → end_by k i (end_from v true (suc i) l) (end_from v false (suc i) l) ≡ Some t → Found v false st i (b ∷ l) t
unfolding pieces
found_by_lem v st i b l t ih Plain c e = further v false false st i b l t (rw (← c)) (ih false e)
found_by_lem v st i b l t ih Comp c e = further v false false st i b l t (rw (← c)) (ih false e)
found_by_lem v st i b l t ih Elem c e = further v false false st i b l t (rw (← c)) (ih false e)
found_by_lem v st i b l t ih Rel c e = further v false true st i b l t (rw (← c)) (ih true e)
found_by_lem v st i b l t ih Term c e = let q : i ≡ t = cc in subst (Found v false st i (b ∷ l)) q (here v st i b l c)

pub end_found_lem : (v : Service) (r : Bool) (st i : ℕ) (l : List ℕ) (t : ℕ) → end_from v r i l ≡ Some t → Found v r st i l t
unfolding end_from pieces
end_found_lem v r st i [] t e = absurd (let z : ◌≡◌ {A = ℕ} 0 1 = cc in omega arith)
end_found_lem v true st i (b ∷ l) t e = further v true false st i b l t refl (end_found_lem v false st (suc i) l t e)
end_found_lem v false st i (b ∷ l) t e = found_by_lem v st i b l t (λ (q : Bool) w. end_found_lem v q st (suc i) l t w) (class_of v b) refl e

grown : (st i : ℕ) (b : ℕ) (l : List ℕ) (x : List Piece) → x ≡ unfinished st (suc i + length l) ∷ [] → x ≡ unfinished st (i + length (b ∷ l)) ∷ []
grown st i b l x e = let n : suc i + length l ≡ i + suc (length l) = omega arith in e ∙ ap (λ (m : ℕ). unfinished st m ∷ []) n

missing_by : (v : Service) (st i b : ℕ) (l : List ℕ) → ((q : Bool) → end_from v q (suc i) l ≡ None → pieces v (mode_of q) st (suc i) l ≡ unfinished st (suc i + length l) ∷ [])
    → (k : Class) → k ≡ class_of v b → end_by k i (end_from v true (suc i) l) (end_from v false (suc i) l) ≡ None → pieces v inside st i (b ∷ l) ≡ unfinished st (suc i + length l) ∷ []
unfolding pieces
missing_by v st i b l ih Plain c e = rw (← c) (ih false e)
missing_by v st i b l ih Comp c e = rw (← c) (ih false e)
missing_by v st i b l ih Elem c e = rw (← c) (ih false e)
missing_by v st i b l ih Rel c e = rw (← c) (ih true e)
missing_by v st i b l ih Term c e = absurd (let z : ◌≡◌ {A = ℕ} 0 1 = cc in omega arith)

left_by : (r : Bool) (st i : ℕ) → left (mode_of r) st i ≡ unfinished st (i + 0) ∷ []
left_by true st i = rw add-zero
left_by false st i = rw add-zero

pub end_missing : (v : Service) (r : Bool) (st i : ℕ) (l : List ℕ) → end_from v r i l ≡ None → pieces v (mode_of r) st i l ≡ unfinished st (i + length l) ∷ []
unfolding end_from pieces
end_missing v r st i [] e = left_by r st i
end_missing v true st i (b ∷ l) e = grown st i b l _ (end_missing v false st (suc i) l e)
end_missing v false st i (b ∷ l) e = grown st i b l _ (missing_by v st i b l (λ (q : Bool) w. end_missing v q st (suc i) l w) (class_of v b) refl e)

-- a segment's first byte is read as one inside it
pub first_inside : (v : Service) (st i : ℕ) (l : List ℕ) → 0 < length l → pieces v first st i l ≡ pieces v inside i i l
unfolding pieces
first_inside v st i [] h = absurd (omega arith)
first_inside v st i (b ∷ l) h = refl

-- breaks between segments are passed over
pub record Skipped (v : Service) (i : ℕ) (l : List ℕ) (p : ℕ) : Type 0 where
  pub low : i ≤ p
  pub same : pieces v gap 0 i l ≡ pieces v first p p (drop (p - i) l)

skip_on : (v : Service) (i b : ℕ) (l : List ℕ) (p : ℕ) → is_break b ≡ true → Skipped v (suc i) l p → Skipped v i (b ∷ l) p
unfolding pieces
skip_on v i b l p e f =
    let h = f.low in
    let n : p - i ≡ suc (p - suc i) = omega arith in record {
      low = omega arith;
      same = rw (e, n) (gap_start v i 0 (suc i) l ∙ f.same);
    }

skip_end : (v : Service) (i b : ℕ) (l : List ℕ) → is_break b ≡ false → Skipped v i (b ∷ l) i
unfolding pieces
skip_end v i b l e =
    let n : i - i ≡ 0 = omega arith in record {
      low = omega arith;
      same = rw (n, e);
    }

skip_by : (v : Service) (i b : ℕ) (l : List ℕ) → Skipped v (suc i) l (past_breaks (suc i) l) → (t u : Bool) → eqb b 13 ≡ t → eqb b 10 ≡ u → Skipped v i (b ∷ l) (if t (past_breaks (suc i) l) (if u (past_breaks (suc i) l) i))
skip_by v i b l ih true u p q = skip_on v i b l _ (rw p) ih
skip_by v i b l ih false true p q = skip_on v i b l _ (rw (p, q)) ih
skip_by v i b l ih false false p q = skip_end v i b l (rw (p, q))

pub skipped : (v : Service) (i : ℕ) (l : List ℕ) → Skipped v i l (past_breaks i l)
unfolding past_breaks pieces
skipped v i [] = let n : i - i ≡ 0 = omega arith in record { low = omega arith; same = rw n }
skipped v i (b ∷ l) = skip_by v i b l (skipped v (suc i) l) (eqb b 13) (eqb b 10) refl refl

-- ---- at a position of a text
-- the segments from i on, no break at i
pub rest_skip : (v : Service) (s : List ℕ) (i p : ℕ) → p ≡ past_breaks i (drop i s) → pieces v gap 0 i (drop i s) ≡ segments_from v s p
rest_skip v s i p e =
    let f : Skipped v i (drop i s) p = rw e (skipped v i (drop i s)) in
    let h = f.low in
    let n : i + (p - i) ≡ p = omega arith in
    f.same ∙ ap (pieces v first p p) (drop-drop (p - i) i s ∙ ap (λ (m : ℕ). drop m s) n)

pub record Ended (v : Service) (s : List ℕ) (i t : ℕ) : Type 0 where
  pub low : i ≤ t
  pub high : t < length s
  pub same : segments_from v s i ≡ finished i t ∷ pieces v gap 0 (t + 1) (drop (t + 1) s)

pub rest_at : (v : Service) (s : List ℕ) (i : ℕ) (k : Option ℕ) → k ≡ end_from v false i (drop i s) → (t : ℕ) → k ≡ Some t → Ended v s i t
rest_at v s i k c t e =
    let f : Found v false i i (drop i s) t = end_found_lem v false i i (drop i s) t (sym c ∙ e) in
    let h = f.low in
    let g = f.high in
    let p : 0 < length (drop i s) = omega arith in
    let m : i + (suc t - i) ≡ t + 1 = omega arith in record {
      low = h;
      high = omega (arith, length-drop i s);
      same = first_inside v i i (drop i s) p ∙ f.same ∙ ap (emit true i t) (ap (pieces v gap 0 (suc t)) (drop-drop (suc t - i) i s ∙ ap (λ (n : ℕ). drop n s) m) ∙ rw add-one refl);
    }

pub rest_none : (v : Service) (s : List ℕ) (i : ℕ) → i < length s → (k : Option ℕ) → k ≡ end_from v false i (drop i s) → k ≡ None → segments_from v s i ≡ unfinished i (length s) ∷ []
rest_none v s i h k c e =
    let n = length-drop i s in
    let p : 0 < length (drop i s) = omega arith in
    let m : i + length (drop i s) ≡ length s = omega arith in
    first_inside v i i (drop i s) p ∙ end_missing v false i i (drop i s) (sym c ∙ e) ∙ ap (λ (u : ℕ). unfinished i u ∷ []) m

pub rest_nothing : (v : Service) (s : List ℕ) (i : ℕ) → length s ≤ i → segments_from v s i ≡ []
unfolding pieces
rest_nothing v s i h = rw (drop_of_length-le s)
