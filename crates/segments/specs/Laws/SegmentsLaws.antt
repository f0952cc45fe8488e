-- What the segment at a position says, by the tests that find it, and that a loop over segments ends. Assumes nothing.
use Rattle.std.specs.Prelude.{ℕ, suc, ◌+◌, ◌-◌, ◌^◌, ◌≤◌, ◌<◌, ◌≡◌, refl, List, [], ◌∷◌, Bool, true, false, length, drop, eqb}
use Rattle.std.proofs.Math.Decide.{dec_lt}
use Rattle.std.proofs.Common.{arith, sym, ◌∙◌, ap, length-drop, lt-ltb, le-ltb, Fits}
use Rattle.std.specs.Int.{w64}
use Rattle.service.specs.declared.Service.{Service}
use Rattle.service.specs.Tests.{if}
use Rattle.std.specs.Prelude.{Option}
use Rattle.std.specs.Prelude.{Some, None}
use Rattle.segments.specs.declared.Segment.{Segment}
use Rattle.segments.specs.declared.Segment.TheVariants.{Finished, Unfinished, Nothing}
use Rattle.segments.specs.Forms.Bytes.{end_from, past_breaks}
use Rattle.segments.specs.Laws.SyncLaws.{rest_at, skipped}
use Rattle.segments.specs.Forms.Segments.{segment_by, segment_at}

-- ---- the tests in the order of the code
module _ (v : Service) (s : List ℕ) (i : ℕ) where
  pub segment_nothing : length s ≤ i → Nothing ≡ segment_at v i s
  unfolding segment_at
  segment_nothing h = simp (le-ltb _ _ h)

  module _ (h : i < length s) (k : Option ℕ) (c : k ≡ end_from v false i (drop i s)) where
    pub segment_by_lem : segment_by s k ≡ segment_at v i s
    unfolding segment_at
    segment_by_lem = rw (c) (simp (lt-ltb _ _ h))

    pub segment_unfinished : k ≡ None → Unfinished ≡ segment_at v i s
    segment_unfinished e = rw e at segment_by_lem

    pub segment_finished : (t : ℕ) → k ≡ Some t → (n : ℕ) → n ≡ past_breaks (t + 1) (drop (t + 1) s) → Finished t n ≡ segment_at v i s
    segment_finished t e n q = rw q (rw e at segment_by_lem)

    pub segment_fits : (t : ℕ) → k ≡ Some t → length s < 2 ^ 64 → Fits w64 (t + 1)
    segment_fits t e f = let w = rest_at v s i k c t e in omega arith

-- a segment begins at every byte
never_nothing : (s : List ℕ) (k : Option ℕ) → segment_by s k ≡ Nothing → ⊥
never_nothing s (Some t) e = let z : ◌≡◌ {A = ℕ} 0 1 = cc in omega arith
never_nothing s None e = let z : ◌≡◌ {A = ℕ} 0 1 = cc in omega arith

pub something : (v : Service) (s : List ℕ) (i : ℕ) → i < length s → segment_at v i s ≡ Nothing → ⊥
unfolding segment_at
something v s i h e = never_nothing s (end_from v false i (drop i s)) (simp (lt-ltb _ _ h) at e)

-- ---- the breaks end within the text
high_by : (i p : ℕ) (l : List ℕ) (t u : Bool) → p ≤ suc i + length l → if t p (if u p i) ≤ i + suc (length l)
high_by i p l true u h = omega arith
high_by i p l false true h = omega arith
high_by i p l false false h = omega arith

pub breaks_high : (i : ℕ) (l : List ℕ) → past_breaks i l ≤ i + length l
unfolding past_breaks
breaks_high i [] = omega arith
breaks_high i (b ∷ l) = high_by i (past_breaks (suc i) l) l (eqb b 13) (eqb b 10) (breaks_high (suc i) l)

-- ---- where a finished segment lies
pub record Lies (s : List ℕ) (i t n : ℕ) : Type 0 where
  pub from : i ≤ t
  pub ends : t < length s
  pub next : t < n
  pub within : n ≤ length s

lies_by : (v : Service) (s : List ℕ) (i : ℕ) (k : Option ℕ) → k ≡ end_from v false i (drop i s) → (t n : ℕ) → segment_by s k ≡ Finished t n → Lies s i t n
lies_by v s i (Some u) c t n e =
    let a : u ≡ t = cc in
    let d : past_breaks (u + 1) (drop (u + 1) s) ≡ n = cc in
    let w = rest_at v s i (Some u) c u refl in
    let lo = (skipped v (u + 1) (drop (u + 1) s)).low in
    let hi = breaks_high (u + 1) (drop (u + 1) s) in
    let m = length-drop (u + 1) s in record {
      from = omega arith;
      ends = omega arith;
      next = omega arith;
      within = omega arith;
    }
lies_by v s i None c t n e = absurd (let z : ◌≡◌ {A = ℕ} 0 1 = cc in omega arith)

pub lies : (v : Service) (s : List ℕ) (i : ℕ) (k : Segment) → k ≡ segment_at v i s → (t n : ℕ) → k ≡ Finished t n → Lies s i t n
unfolding segment_at
lies v s i k c t n e = go (dec_lt i (length s))
  where
    go : Dec (i < length s) → Lies s i t n
    go (yes h) = lies_by v s i (end_from v false i (drop i s)) refl t n (segment_by_lem v s i h (end_from v false i (drop i s)) refl ∙ sym c ∙ e)
    go (no g) =
        let h : length s ≤ i = omega arith in
        let q = segment_nothing v s i h ∙ sym c ∙ e in
        absurd (let z : ◌≡◌ {A = ℕ} 0 1 = cc in omega arith)

-- ---- a loop that goes from segment to segment: its measure falls
module _ (v : Service) (s : List ℕ) (i : ℕ) (k : Segment) (c : k ≡ segment_at v i s) (t n : ℕ) (e : k ≡ Finished t n) where
  pub less_segment : length s - n < length s - i
  less_segment = let w = lies v s i k c t n e in omega arith

  pub segment_end_fits : length s < 2 ^ 64 → Fits w64 (t + 1)
  segment_end_fits h = let w = lies v s i k c t n e in omega arith

  -- a number that is at most the position, such as a count of the segments passed
  pub segment_count_fits : (m : ℕ) → m ≤ i → length s < 2 ^ 64 → Fits w64 (m + 1)
  segment_count_fits m h f = let w = lies v s i k c t n e in omega arith

  pub segment_count : (m : ℕ) → m ≤ i → m + 1 ≤ n
  segment_count m h = let w = lies v s i k c t n e in omega arith

  pub segment_keep : (m : ℕ) → m ≤ i → m ≤ n
  segment_keep m h = let w = lies v s i k c t n e in omega arith

-- ---- where the segment at a position ends
finished_by : (s : List ℕ) (k : Option ℕ) (t n : ℕ) → segment_by s k ≡ Finished t n → k ≡ Some t
finished_by s (Some u) t n e = let a : u ≡ t = cc in ap Some a
finished_by s None t n e = absurd (let z : ◌≡◌ {A = ℕ} 0 1 = cc in omega arith)

pub finished_end : (v : Service) (s : List ℕ) (i t n : ℕ) → Finished t n ≡ segment_at v i s → (i ≤ length s) × (end_from v false i (drop i s) ≡ Some t)
finished_end v s i t n c = go (dec_lt i (length s))
  where
    go : Dec (i < length s) → (i ≤ length s) × (end_from v false i (drop i s) ≡ Some t)
    go (yes h) = let g : i ≤ length s = omega arith in (g, finished_by s (end_from v false i (drop i s)) t n (segment_by_lem v s i h (end_from v false i (drop i s)) refl ∙ sym c))
    go (no g) =
        let h : length s ≤ i = omega arith in
        let w = segment_nothing v s i h ∙ sym c in
        absurd (let z : ◌≡◌ {A = ℕ} 0 1 = cc in omega arith)

unfinished_by : (s : List ℕ) (k : Option ℕ) → segment_by s k ≡ Unfinished → k ≡ None
unfinished_by s (Some u) e = absurd (let z : ◌≡◌ {A = ℕ} 0 1 = cc in omega arith)
unfinished_by s None e = refl

pub unfinished_end : (v : Service) (s : List ℕ) (i : ℕ) → i < length s → Unfinished ≡ segment_at v i s → end_from v false i (drop i s) ≡ None
unfinished_end v s i h c = unfinished_by s (end_from v false i (drop i s)) (segment_by_lem v s i h (end_from v false i (drop i s)) refl ∙ sym c)
