-- What holds of the segments from every place on, and where they begin. Assumes nothing.
use Rattle.std.specs.Prelude.{ℕ, zero, suc, ◌-◌, ◌≤◌, ◌<◌, ◌≡◌, refl, List, [], ◌∷◌, map}
use Rattle.std.proofs.Math.Decide.{dec_lt}
use native.Mathlib.Omega.{arith}
use Rattle.std.proofs.Common.{sym}
use Rattle.std.proofs.Math.Path.{ap}
use Rattle.std.proofs.Math.ListN.{length, get_or, length-map}
use Rattle.service.specs.declared.Service.{Service}
use Rattle.segments.specs.declared.Segment.{Segment}
use Rattle.segments.specs.declared.Segment.TheVariants.{Finished, Unfinished, Nothing}
use Rattle.segments.specs.Forms.Segments.{segment_at}
use Rattle.segments.specs.Laws.SegmentsLaws.{Lies, lies, segment_nothing, something}
use Rattle.segments.specs.declared.Piece.TheVariants.{Finished as finished, Unfinished as unfinished}
use Rattle.segments.specs.SegmentList.{start_of, segments_from, starts_from, starts_of}
use Rattle.segments.specs.Laws.ListLaws.{list_nothing, list_finished, list_unfinished}

-- ---- what holds of the segments from every place on, by the segment there
module _ (v : Service) (m : List ℕ) (P : ℕ → Type 0) (done : (i : ℕ) → length m ≤ i → segments_from v m i ≡ [] → P i)
    (cut : (i : ℕ) → i < length m → Unfinished ≡ segment_at v i m → segments_from v m i ≡ unfinished i (length m) ∷ [] → P i)
    (on : (i t n : ℕ) → Finished t n ≡ segment_at v i m → Lies m i t n → segments_from v m i ≡ finished i t ∷ segments_from v m n → P n → P i) where
  past : (i : ℕ) → length m ≤ i → P i
  past i h = done i h (list_nothing v m i Nothing (segment_nothing v m i h) refl)

  by_kind : (f i : ℕ) → length m - i ≤ suc f → i < length m → ((n : ℕ) → length m - n ≤ f → P n) → (k : Segment) → k ≡ segment_at v i m → P i
  by_kind f i h g ih (Finished t n) e = let w = lies v m i (Finished t n) e t n refl in on i t n e w (list_finished v m i (Finished t n) e t n refl) (ih n (omega arith))
  by_kind f i h g ih Unfinished e = cut i g e (list_unfinished v m i Unfinished e refl)
  by_kind f i h g ih Nothing e = absurd (something v m i g (sym e))

  by_turns : (f i : ℕ) → length m - i ≤ f → P i
  by_turns zero i h = past i (omega arith)
  by_turns (suc f) i h = go (by_turns f) (dec_lt i (length m))
    where
      go : ((n : ℕ) → length m - n ≤ f → P n) → Dec (i < length m) → P i
      go ih (yes g) = by_kind f i h g ih (segment_at v i m) refl
      go ih (no g) = past i (omega arith)

  pub by_place : (i : ℕ) → P i
  by_place i = by_turns (length m) i (omega arith)

-- ---- numbers that rise from lo on and stay below hi
abbrev Rises : ℕ → ℕ → List ℕ → Type 0
Rises lo hi [] = Unit {0}
Rises lo hi (x ∷ l) = (lo ≤ x) × (x < hi) × Rises (suc x) hi l

rises_lower : (lo lo' hi : ℕ) (l : List ℕ) → lo ≤ lo' → Rises lo' hi l → Rises lo hi l
rises_lower lo lo' hi [] h r = tt
rises_lower lo lo' hi (x ∷ l) h r = (let le = r.0 in omega arith, r.1, r.2)

rises_above : (lo hi : ℕ) (l : List ℕ) → lo ≤ hi → Rises lo hi l → (k : ℕ) → (lo ≤ get_or l k hi) × (get_or l k hi ≤ hi)
rises_above lo hi [] h r zero = (h, omega arith)
rises_above lo hi [] h r (suc k) = (h, omega arith)
rises_above lo hi (x ∷ l) h r zero = let lt = r.1 in (r.0, omega arith)
rises_above lo hi (x ∷ l) h r (suc k) =
    let lt = r.1 in
    let a = r.0 in
    let b = rises_above (suc x) hi l (omega arith) r.2 k in
    let c = b.0 in
    (omega arith, b.1)

-- numbers below a bound
abbrev pub Below : ℕ → List ℕ → Type 0
Below b [] = Unit {0}
Below b (x ∷ l) = (x < b) × Below b l

rises_below : (lo hi b : ℕ) (l : List ℕ) → hi ≤ b → Rises lo hi l → Below b l
rises_below lo hi b [] h r = tt
rises_below lo hi b (x ∷ l) h r = (let a = r.1 in omega arith, rises_below (suc x) hi b l h r.2)

rises_few : (lo hi : ℕ) (l : List ℕ) → Rises lo hi l → length l ≤ hi - lo
rises_few lo hi [] r = omega arith
rises_few lo hi (x ∷ l) r = let a = r.0 in let b = r.1 in let c = rises_few (suc x) hi l r.2 in omega arith

module _ (v : Service) (m : List ℕ) where
  -- ---- the starts, by the segment at a place
  pub starts_past : (i : ℕ) → length m ≤ i → starts_from v m i ≡ []
  unfolding starts_from
  starts_past i le = ap (map start_of) (list_nothing v m i Nothing (segment_nothing v m i le) refl)

  module _ (i : ℕ) (k : Segment) (e : k ≡ segment_at v i m) where
    pub starts_nothing : k ≡ Nothing → starts_from v m i ≡ []
    unfolding starts_from
    starts_nothing q = ap (map start_of) (list_nothing v m i k e q)

    pub starts_finished : (t n : ℕ) → k ≡ Finished t n → starts_from v m i ≡ i ∷ starts_from v m n
    unfolding starts_from
    starts_finished t n q = ap (map start_of) (list_finished v m i k e t n q)

    pub starts_unfinished : k ≡ Unfinished → starts_from v m i ≡ i ∷ []
    unfolding starts_from
    starts_unfinished q = ap (map start_of) (list_unfinished v m i k e q)

  -- the first of them begins there
  pub starts_here : (i : ℕ) → i ≤ length m → get_or (starts_from v m i) 0 (length m) ≡ i
  unfolding starts_from
  starts_here = by_place v m (λ i. i ≤ length m → get_or (starts_from v m i) 0 (length m) ≡ i) (λ i g q h. rw q (omega arith)) (λ i g e q h. rw q refl) (λ i t n e w q ih h. rw q refl)

  -- as many starts as segments
  pub starts_count : (i : ℕ) → length (starts_from v m i) ≡ length (segments_from v m i)
  unfolding starts_from
  starts_count i = length-map (segments_from v m i) start_of

  -- ---- starts rise
  rises : (i : ℕ) → Rises i (length m) (starts_from v m i)
  unfolding starts_from
  rises = by_place v m (λ i. Rises i (length m) (starts_from v m i)) (λ i h q. rw q tt) (λ i h e q. rw q (omega arith, h, tt)) (λ i t n e w q ih.
      let a = w.from in
      let b = w.ends in
      let c = w.next in
      rw q (omega arith, omega arith, rises_lower (suc i) n (length m) (starts_from v m n) (omega arith) ih))

  -- no more starts than bytes
  pub starts_few : (i : ℕ) → length (starts_from v m i) ≤ length m
  starts_few i = let w = rises_few i (length m) (starts_from v m i) (rises i) in omega arith

  pub starts_below : (b : ℕ) → length m ≤ b → Below b (starts_of v m)
  starts_below b h = rises_below 0 (length m) b (starts_of v m) h (rises 0)

  -- a segment from i on begins at i or later, and not past the end
  pub starts_within : (i : ℕ) → i ≤ length m → (j : ℕ) → (i ≤ get_or (starts_from v m i) j (length m)) × (get_or (starts_from v m i) j (length m) ≤ length m)
  starts_within i h j = rises_above i (length m) (starts_from v m i) h (rises i) j
