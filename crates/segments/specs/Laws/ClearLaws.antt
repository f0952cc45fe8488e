-- Between the segments of a text: up to a segment's first byte, and up to the byte after its terminator, nothing is left open. Assumes nothing.
use Rattle.std.specs.Prelude.{ℕ, suc, ◌+◌, ◌-◌, ◌≤◌, ◌<◌, ◌≡◌, refl, List, [], ◌∷◌, ◌++◌, Bool, true, false, length, drop, take, get_or, T}
use Rattle.std.proofs.Common.{add-one, arith, sym, ◌∙◌, ap, subst, length-drop, drop-drop, take-add, get_or-drop}
use Rattle.service.specs.declared.Service.{Service}
use Rattle.service.specs.Tests.{if}
use Rattle.segments.specs.declared.Class.{Class}
use Rattle.segments.specs.declared.Class.TheVariants.{Plain, Comp, Elem, Rel, Term}
use Rattle.segments.specs.Classes.{class_of, is_break}
use Rattle.segments.specs.declared.Piece.{Piece}
use Rattle.segments.specs.declared.Piece.TheVariants.{Finished as finished, Unfinished as unfinished}
use Rattle.segments.specs.SegmentList.{Mode, gap, first, inside, held, mode, ended, after, ends, start_in, emit, left, pieces, segments_after, all_finished}
use Rattle.segments.specs.Sync.{run}
use Rattle.segments.specs.Laws.BytesLaws.{term_of}
use Rattle.segments.specs.Laws.SyncLaws.{mode_of}
use Rattle.segments.specs.Laws.ResyncLaws.{gap_start, run_append}

-- ---- the byte that ends a segment
ended_term : (k : Class) → ended k ≡ true → k ≡ Term
ended_term Plain e = absurd (subst T (sym e) tt)
ended_term Comp e = absurd (subst T (sym e) tt)
ended_term Elem e = absurd (subst T (sym e) tt)
ended_term Rel e = absurd (subst T (sym e) tt)
ended_term Term e = refl

record Ender (v : Service) (m : Mode) (b : ℕ) : Type 0 where
  gaps : after v m b ≡ gap
  term : b ≡ v.terminator

ender_gap : (v : Service) (b : ℕ) (t : Bool) → is_break b ≡ t → if t false (ended (class_of v b)) ≡ true → Ender v gap b
ender_gap v b true p e = absurd (subst T (sym e) tt)
ender_gap v b false p e = let k = ended_term (class_of v b) e in record { gaps = simp (p, k); term = term_of v b k }

ender : (v : Service) (m : Mode) (b : ℕ) → ends v m b ≡ true → Ender v m b
ender v gap b e = ender_gap v b (is_break b) refl e
ender v first b e = let k = ended_term (class_of v b) e in record { gaps = simp k; term = term_of v b k }
ender v inside b e = let k = ended_term (class_of v b) e in record { gaps = simp k; term = term_of v b k }
ender v held b e = absurd (subst T (sym e) tt)

-- ---- the first segment of some bytes
-- the bytes x, the first of which stands at i, hold the terminator of a segment at t; after it nothing is open, and the segments l follow
pub record Through (v : Service) (m : Mode) (i : ℕ) (x : List ℕ) (t : ℕ) (l : List Piece) : Type 0 where
  pub low : i ≤ t
  pub high : t < i + length x
  pub clear : run v m (take (suc t - i) x) ≡ gap
  pub term : get_or x (t - i) 0 ≡ v.terminator
  pub rest : l ≡ pieces v gap 0 (suc t) (drop (suc t - i) x)

no_left : (m : Mode) (st i c t : ℕ) (l : List Piece) → left m st i ≡ finished c t ∷ l → ⊥
no_left gap st i c t l e = let w : ◌≡◌ {A = ℕ} 0 1 = cc in omega arith
no_left first st i c t l e = let w : ◌≡◌ {A = ℕ} 0 1 = cc in omega arith
no_left inside st i c t l e = let w : ◌≡◌ {A = ℕ} 0 1 = cc in omega arith
no_left held st i c t l e = let w : ◌≡◌ {A = ℕ} 0 1 = cc in omega arith

through_by : (v : Service) (m : Mode) (st i b : ℕ) (x : List ℕ) (c t : ℕ) (l : List Piece)
    → (pieces v (after v m b) (start_in m st i) (suc i) x ≡ finished c t ∷ l → Through v (after v m b) (suc i) x t l)
    → (k : Bool) → ends v m b ≡ k → emit k (start_in m st i) i (pieces v (after v m b) (start_in m st i) (suc i) x) ≡ finished c t ∷ l → Through v m i (b ∷ x) t l
unfolding run
through_by v m st i b x c t l ih true q e =
    let w : i ≡ t = cc in
    let y : pieces v (after v m b) (start_in m st i) (suc i) x ≡ l = cc in
    let d = ender v m b q in
    let n : suc t - i ≡ suc 0 = omega arith in
    let z : t - i ≡ 0 = omega arith in
    record {
      low = omega arith;
      high = omega arith;
      clear = rw n d.gaps;
      term = rw z d.term;
      rest = sym y ∙ ap (λ (o : Mode). pieces v o (start_in m st i) (suc i) x) d.gaps ∙ rw (n, ← w) (gap_start v (start_in m st i) 0 (suc i) x);
    }
through_by v m st i b x c t l ih false q e =
    let f = ih e in
    let h = f.low in
    let g = f.high in
    let n : suc t - i ≡ suc (suc t - suc i) = omega arith in
    let z : t - i ≡ suc (t - suc i) = omega arith in
    record {
      low = omega arith;
      high = omega arith;
      clear = rw n f.clear;
      term = rw z f.term;
      rest = rw n f.rest;
    }

pub through : (v : Service) (m : Mode) (st i : ℕ) (x : List ℕ) (c t : ℕ) (l : List Piece) → pieces v m st i x ≡ finished c t ∷ l → Through v m i x t l
unfolding pieces
through v m st i [] c t l e = absurd (no_left m st i c t l e)
through v m st i (b ∷ x) c t l e = through_by v m st i b x c t l (λ q. through v (after v m b) (start_in m st i) (suc i) x c t l q) (ends v m b) refl e

-- ---- the breaks before it
-- a segment that was begun began where it was said to
started_by : (v : Service) (st i b : ℕ) (x : List ℕ) (c t : ℕ) (l : List Piece) (k : Class) → ((r : Bool) → pieces v (mode_of r) st (suc i) x ≡ finished c t ∷ l → c ≡ st)
    → emit (ended k) st i (pieces v (mode k) st (suc i) x) ≡ finished c t ∷ l → c ≡ st
started_by v st i b x c t l Plain ih e = ih false e
started_by v st i b x c t l Comp ih e = ih false e
started_by v st i b x c t l Elem ih e = ih false e
started_by v st i b x c t l Rel ih e = ih true e
started_by v st i b x c t l Term ih e = cc

started : (v : Service) (r : Bool) (st i : ℕ) (x : List ℕ) (c t : ℕ) (l : List Piece) → pieces v (mode_of r) st i x ≡ finished c t ∷ l → c ≡ st
unfolding pieces
started v r st i [] c t l e = absurd (no_left (mode_of r) st i c t l e)
started v true st i (b ∷ x) c t l e = started v false st (suc i) x c t l e
started v false st i (b ∷ x) c t l e = started_by v st i b x c t l (class_of v b) (λ (r : Bool) q. started v r st (suc i) x c t l q) e

pub record Upto (v : Service) (i : ℕ) (x : List ℕ) (c : ℕ) : Type 0 where
  pub low : i ≤ c
  pub high : c ≤ i + length x
  pub clear : run v gap (take (c - i) x) ≡ gap
  pub same : pieces v gap 0 i x ≡ pieces v gap 0 c (drop (c - i) x)

upto_by : (v : Service) (i b : ℕ) (x : List ℕ) (c t : ℕ) (l : List Piece) → (pieces v gap i (suc i) x ≡ finished c t ∷ l → Upto v (suc i) x c)
    → (k : Bool) → is_break b ≡ k → emit (if k false (ended (class_of v b))) i i (pieces v (if k gap (mode (class_of v b))) i (suc i) x) ≡ finished c t ∷ l → Upto v i (b ∷ x) c
unfolding run pieces
upto_by v i b x c t l ih true q e =
    let f = ih e in
    let h = f.low in
    let g = f.high in
    let n : c - i ≡ suc (c - suc i) = omega arith in
    record { low = omega arith; high = omega arith; clear = rw n (ap (λ (k : Bool). run v (if k gap (mode (class_of v b))) (take (c - suc i) x)) q ∙ f.clear); same = rw (n, q) (gap_start v i 0 (suc i) x ∙ f.same) }
upto_by v i b x c t l ih false q e =
    let w : c ≡ i = started_by v i i b x c t l (class_of v b) (λ (r : Bool) y. started v r i (suc i) x c t l y) e in
    let n : c - i ≡ 0 = omega arith in
    record { low = omega arith; high = omega arith; clear = rw n refl; same = rw n (ap (λ (j : ℕ). pieces v gap 0 j (b ∷ x)) (sym w)) }

pub upto : (v : Service) (st i : ℕ) (x : List ℕ) (c t : ℕ) (l : List Piece) → pieces v gap st i x ≡ finished c t ∷ l → Upto v i x c
unfolding pieces
upto v st i [] c t l e = absurd (no_left gap st i c t l e)
upto v st i (b ∷ x) c t l e = upto_by v i b x c t l (λ q. upto v i (suc i) x c t l q) (is_break b) refl e

-- ---- at a position of a text
-- from i up to j, read from between segments, nothing is left open at j
pub record Clear (v : Service) (s : List ℕ) (i j : ℕ) : Type 0 where
  pub low : i ≤ j
  pub high : j ≤ length s
  pub clear : run v gap (take (j - i) (drop i s)) ≡ gap

pub clear_here : (v : Service) (s : List ℕ) (i : ℕ) → i ≤ length s → Clear v s i i
unfolding run
clear_here v s i h =
    let n : i - i ≡ 0 = omega arith in
    record { low = omega arith; high = h; clear = rw n refl }

pub run_on : (v : Service) (m : Mode) (s : List ℕ) (i j k : ℕ) → i ≤ j → run v m (take (j - i) (drop i s)) ≡ gap → Clear v s j k → run v m (take (k - i) (drop i s)) ≡ gap
run_on v m s i j k h e c =
    let g = c.low in
    let n : k - i ≡ (j - i) + (k - j) = omega arith in
    let o : i + (j - i) ≡ j = omega arith in
    let d : drop (j - i) (drop i s) ≡ drop j s = drop-drop (j - i) i s ∙ ap (λ (x : ℕ). drop x s) o in
    ap (λ (x : ℕ). run v m (take x (drop i s))) n
    ∙ ap (run v m) (take-add (j - i) (k - j) (drop i s) ∙ ap (λ (x : List ℕ). take (j - i) (drop i s) ++ take (k - j) x) d)
    ∙ run_append v m (take (j - i) (drop i s)) (take (k - j) (drop j s))
    ∙ ap (λ (o : Mode). run v o (take (k - j) (drop j s))) e
    ∙ c.clear

pub clear_on : (v : Service) (s : List ℕ) (i j k : ℕ) → Clear v s i j → Clear v s j k → Clear v s i k
clear_on v s i j k a b =
    let h = a.low in
    let g = b.low in
    record { low = omega arith; high = b.high; clear = run_on v gap s i j k h a.clear b }

-- past a segment
pub record Passed (v : Service) (s : List ℕ) (i t : ℕ) (l : List Piece) : Type 0 where
  pub low : i ≤ t
  pub high : t < length s
  pub past : Clear v s i (t + 1)
  pub term : get_or s t 0 ≡ v.terminator
  pub rest : segments_after v s (t + 1) ≡ l

pub passed : (v : Service) (s : List ℕ) (i c t : ℕ) (l : List Piece) → i ≤ length s → segments_after v s i ≡ finished c t ∷ l → Passed v s i t l
passed v s i c t l k e =
    let f = through v gap i i (drop i s) c t l e in
    let h = f.low in
    let g = f.high in
    let d = length-drop i s in
    let n : suc t - i ≡ t + 1 - i = omega arith in
    let o : i + (suc t - i) ≡ t + 1 = omega arith in
    let w : i + (t - i) ≡ t = omega arith in
    record {
      low = h;
      high = omega arith;
      past = record { low = omega arith; high = omega arith; clear = ap (λ (x : ℕ). run v gap (take x (drop i s))) (sym n) ∙ f.clear };
      term = ap (λ (x : ℕ). get_or s x 0) (sym w) ∙ sym (get_or-drop i s (t - i) 0) ∙ f.term;
      rest =
          gap_start v (t + 1) 0 (t + 1) (drop (t + 1) s)
          ∙ ap (λ (x : ℕ). pieces v gap 0 x (drop (t + 1) s)) (add-one t)
          ∙ ap (pieces v gap 0 (suc t)) (sym (drop-drop (suc t - i) i s ∙ ap (λ (x : ℕ). drop x s) o))
          ∙ sym f.rest;
    }

-- up to a segment
pub upto_start : (v : Service) (s : List ℕ) (i c t : ℕ) (l : List Piece) → i ≤ length s → segments_after v s i ≡ finished c t ∷ l → Clear v s i c
upto_start v s i c t l k e =
    let f = upto v i i (drop i s) c t l e in
    let h = f.low in
    let g = f.high in
    let d = length-drop i s in
    record { low = h; high = omega arith; clear = f.clear }

pub from_start : (v : Service) (s : List ℕ) (i c t : ℕ) (l : List Piece) → segments_after v s i ≡ finished c t ∷ l → segments_after v s c ≡ finished c t ∷ l
from_start v s i c t l e =
    let f = upto v i i (drop i s) c t l e in
    let h = f.low in
    let n : i + (c - i) ≡ c = omega arith in
    gap_start v c 0 c (drop c s)
    ∙ ap (pieces v gap 0 c) (sym (drop-drop (c - i) i s ∙ ap (λ (x : ℕ). drop x s) n))
    ∙ sym f.same
    ∙ gap_start v 0 i i (drop i s)
    ∙ e

-- past some segments, all finished: the place after the last terminator
abbrev past : Piece → ℕ
past (finished a t) = t + 1
past (unfinished a e) = e

unfoldable pub past_all : ℕ → List Piece → ℕ
past_all i [] = i
past_all i (p ∷ l) = past_all (past p) l

pub record PassedAll (v : Service) (s : List ℕ) (i : ℕ) (l r : List Piece) : Type 0 where
  pub past : Clear v s i (past_all i l)
  pub rest : segments_after v s (past_all i l) ≡ r

pub passed_all : (v : Service) (s : List ℕ) (i : ℕ) (l r : List Piece) → i ≤ length s → all_finished l ≡ true → segments_after v s i ≡ l ++ r → PassedAll v s i l r
unfolding past_all all_finished
passed_all v s i [] r h w e = record { past = clear_here v s i h; rest = e }
passed_all v s i (finished a t ∷ l) r h w e =
    let f = passed v s i a t (l ++ r) h e in
    let g = passed_all v s (t + 1) l r f.past.high w f.rest in
    record { past = clear_on v s i (t + 1) (past_all (t + 1) l) f.past g.past; rest = g.rest }
passed_all v s i (unfinished a u ∷ l) r h w e = absurd (subst T (sym w) tt)

-- ---- the segments of a text lie in it
pub data Below (n : ℕ) : List Piece → Type 0 where
  nil : Below n []
  fin : (a t : ℕ) (l : List Piece) → a < n → t < n → Below n l → Below n (finished a t ∷ l)
  unf : (a e : ℕ) (l : List Piece) → a ≤ n → e ≤ n → Below n l → Below n (unfinished a e ∷ l)

below_left : (m : Mode) (st i n : ℕ) → st ≤ n → i ≤ n → Below n (left m st i)
below_left gap st i n h g = nil
below_left first st i n h g = nil
below_left inside st i n h g = unf st i [] h g nil
below_left held st i n h g = unf st i [] h g nil

below_emit : (k : Bool) (a i n : ℕ) (l : List Piece) → a < n → i < n → Below n l → Below n (emit k a i l)
below_emit true a i n l h g w = fin a i l h g w
below_emit false a i n l h g w = w

start_low : (m : Mode) (st i : ℕ) → st ≤ i → start_in m st i ≤ i
start_low gap st i h = omega arith
start_low first st i h = omega arith
start_low inside st i h = h
start_low held st i h = h

pub below : (v : Service) (m : Mode) (st i : ℕ) (x : List ℕ) (n : ℕ) → st ≤ i → i + length x ≡ n → Below n (pieces v m st i x)
unfolding pieces
below v m st i [] n h e = let g : st ≤ n = omega arith in let k : i ≤ n = omega arith in below_left m st i n g k
below v m st i (b ∷ x) n h e =
    let w = start_low m st i h in
    let g : start_in m st i < n = omega arith in
    let k : i < n = omega arith in
    let y : start_in m st i ≤ suc i = omega arith in
    let z : suc i + length x ≡ n = omega arith in
    below_emit (ends v m b) (start_in m st i) i n _ g k (below v (after v m b) (start_in m st i) (suc i) x n y z)
