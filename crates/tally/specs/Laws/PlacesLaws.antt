-- The loops that find a segment's number and a segment's place, turn by turn. Assumes nothing.
use Prim.Native.Nat.{ℕ, suc, zero, ◌+◌, ◌-◌, ◌≤◌, ◌<◌}
use native.Mathlib.Omega.{arith}
use Rattle.std.specs.Prelude.{◌≡◌, Bool, get_or, ltb, Option, None, Some, slice_get, map}
use Rattle.segments.specs.SegmentList.{start_of}
use Rattle.segments.specs.declared.Segments.{Segments}
use Rattle.segments.specs.Left.{segments_left, Steps}
use Prim.Native.Nat.{◌^◌}
use Rattle.std.proofs.Common.{Fits, subst}
use Rattle.std.specs.Int.{w64}
use Rattle.std.proofs.Math.Path.{refl, sym, ap}
use Rattle.std.proofs.Common.{◌∙◌}
use mathlib.Core.List.{List, [], ◌∷◌}
use Rattle.std.proofs.Math.ListN.{length}
use borrow.Author.Tests.{lt-ltb, le-ltb}
use Rattle.service.specs.declared.Service.{Service}
use Rattle.segments.specs.declared.Segment.TheVariants as segment
use Rattle.segments.specs.declared.Piece.{Piece}
use Rattle.segments.specs.declared.Piece.TheVariants.{Finished as finished, Unfinished as unfinished}
use Rattle.segments.specs.SegmentList.{segments_from, starts_from, starts_of, start_at}
use Rattle.segments.specs.Laws.StartsLaws.{by_place, starts_count, starts_few, starts_past, starts_finished, starts_unfinished, starts_here, starts_within}
use Rattle.tally.specs.Places.{next_start, pass_by, passed}

-- the segments from a place on begin there, or none is left
pub starts : (v : Service) (m : List ℕ) (n : ℕ) → n ≤ length m → next_start (length m) (segments_from v m n) ≡ n
starts v m = by_place v m (λ n. n ≤ length m → next_start (length m) (segments_from v m n) ≡ n) (λ n g q h. rw q (omega arith)) (λ n g e q h. rw q refl) (λ n t k e w q ih h. rw q refl)

-- ---- the number of a segment
-- what the loop keeps: n segments are passed, and the reader stays in the text
pub record Passing (x : ℕ) (v : Service) (m : List ℕ) (at n : ℕ) (r : Segments) : Type 0 where
  pub count : x ≡ n + passed (length m) at (segments_left r)
  pub few : n + length (segments_left r) ≤ length m
  pub service : r.text.service ≡ v
  pub bytes : r.text.bytes.now ≡ m
  pub within : r.at ≤ length m

pub passing_start : (v : Service) (m : List ℕ) (at : ℕ) (r : Segments) → r.text.service ≡ v → r.text.bytes.now ≡ m → r.at ≡ 0 → Passing (passed (length m) at (segments_from v m 0)) v m at 0 r
passing_start v m at r s b z =
    let a = starts_count v m 0 in
    let c = starts_few v m 0 in
    let e : segments_left r ≡ segments_from v m 0 = rw (s, b, z) in
    record { count = ap (passed (length m) at) (sym e) ∙ omega arith; few = rw e (omega arith); service = s; bytes = b; within = omega arith }

module _ (x : ℕ) (v : Service) (m : List ℕ) (at n : ℕ) (r q : Segments) (inv : Passing x v m at n r) where
  pub passed_end : segments_left r ≡ [] → n ≡ x
  unfolding passed
  passed_end e = sym (inv.count ∙ ap (λ (l : List Piece). n + passed (length m) at l) e ∙ omega arith)

  pub passed_unfinished : (a e : ℕ) → segments_left r ≡ unfinished a e ∷ segments_left q → n ≡ x
  unfolding passed
  passed_unfinished a e w = sym (inv.count ∙ ap (λ (l : List Piece). n + passed (length m) at l) w ∙ omega arith)

  module _ (a t : ℕ) (w : Steps r (Some (finished a t)) q) where
    after_text : (q.text.service ≡ v) × (q.text.bytes.now ≡ m) × (q.at ≤ length m)
    after_text =
        let b = ap (λ z. z.bytes.now) w.same ∙ inv.bytes in
        let i = inv.within in (
          ap (λ z. z.service) w.same ∙ inv.service,
          b,
          subst (λ l. q.at ≤ length l) b (w.within (rw inv.bytes i)),
        )

    passed_by : x ≡ n + pass_by (ltb at q.at) (passed (length m) at (segments_left q))
    unfolding passed
    passed_by =
        let f = after_text in
        let k : next_start (length m) (segments_left q) ≡ q.at = rw (f.0, f.1) (starts v m q.at f.2) in
        inv.count
        ∙ ap (λ (l : List Piece). n + passed (length m) at l) w.yields
        ∙ ap (λ (s : ℕ). n + pass_by (ltb at s) (passed (length m) at (segments_left q))) k

    pub passed_here : at < q.at → n ≡ x
    passed_here h = sym (passed_by ∙ ap (λ (b : Bool). n + pass_by b (passed (length m) at (segments_left q))) (lt-ltb at q.at h) ∙ omega arith)

    pub passed_fits : length m < 2 ^ 64 → Fits w64 (n + 1)
    passed_fits h = let i = inv.few in let z = ap length w.yields in record { fits = omega arith }

    pub passed_on : q.at ≤ at → Passing x v m at (n + 1) q
    passed_on h =
        let f = after_text in
        let i = inv.few in
        let z = ap length w.yields in record {
          count = passed_by ∙ ap (λ (b : Bool). n + pass_by b (passed (length m) at (segments_left q))) (le-ltb at q.at h) ∙ omega arith;
          few = omega arith;
          service = f.0;
          bytes = f.1;
          within = f.2;
        }

-- the number of the segment that begins at a start
module _ (v : Service) (m : List ℕ) where
  abbrev Numbered : ℕ → Type 0
  Numbered i = (j : ℕ) → j < length (starts_from v m i) → passed (length m) (get_or (starts_from v m i) j (length m)) (segments_from v m i) ≡ j

  numbered : (i : ℕ) → Numbered i
  unfolding passed
  numbered = by_place v m Numbered (λ i h q j l. absurd (let z = ap length (starts_past v m i h) in omega arith))
      (λ i h e q j l. rw q (let z = ap length (starts_unfinished v m i segment.Unfinished e refl) in omega arith)) (λ i t n e w q ih.
      let p = starts_finished v m i (segment.Finished t n) e t n refl in
      λ j l.
      ap (λ (x : List ℕ). passed (length m) (get_or x j (length m)) (segments_from v m i)) p
      ∙ ap (λ (y : List Piece). passed (length m) (get_or (i ∷ starts_from v m n) j (length m)) y) q
      ∙ on i t n w.within (let a = w.from in let b = w.next in omega arith) ih j (let z = ap length p in omega arith))
    where
      on : (i t n : ℕ) → n ≤ length m → i < n → Numbered n → (j : ℕ) → j < suc (length (starts_from v m n)) → passed (length m) (get_or (i ∷ starts_from v m n) j (length m)) (finished i t ∷ segments_from v m n) ≡ j
      on i t n h g ih zero l = rw (starts v m n h, lt-ltb i n g)
      on i t n h g ih (suc j) l =
          let a = (starts_within v m n h j).0 in
          rw (starts v m n h, le-ltb (get_or (starts_from v m n) j (length m)) n a) (ap suc (ih j (omega arith)))

  pub passed_start : (j : ℕ) → j < length (starts_of v m) → passed (length m) (start_at v m j) (segments_from v m 0) ≡ j
  passed_start = numbered 0

-- ---- the place of a segment
abbrev pub place_by : ℕ → Option Piece → ℕ
place_by d None = d
place_by d (Some p) = start_of p

nth_by : (d j : ℕ) (l : List Piece) → place_by d (slice_get l j) ≡ get_or (map start_of l) j d
nth_by d zero [] = refl
nth_by d (suc j) [] = refl
nth_by d zero (p ∷ l) = refl
nth_by d (suc j) (p ∷ l) = nth_by d j l

pub nth_start : (v : Service) (m : List ℕ) (j : ℕ) (r : Option Piece) → r ≡ slice_get (segments_from v m 0) j → place_by (length m) r ≡ start_at v m j
unfolding starts_from
nth_start v m j r e = ap (place_by (length m)) e ∙ nth_by (length m) j (segments_from v m 0)

-- what the loop keeps: of the segments left the one with `b - n` before it begins there, and the reader stays in the text
pub record Standing (x : ℕ) (v : Service) (m : List ℕ) (b n : ℕ) (r : Segments) : Type 0 where
  pub place : x ≡ get_or (map start_of (segments_left r)) (b - n) (length m)
  pub service : r.text.service ≡ v
  pub bytes : r.text.bytes.now ≡ m
  pub within : r.at ≤ length m

pub standing_start : (v : Service) (m : List ℕ) (b : ℕ) (r : Segments) → r.text.service ≡ v → r.text.bytes.now ≡ m → r.at ≡ 0 → Standing (start_at v m b) v m b 0 r
unfolding starts_from
standing_start v m b r s c z =
    let e : segments_left r ≡ segments_from v m 0 = rw (s, c, z) in
    let w : b - 0 ≡ b = omega arith in
    record { place = rw (e, w); service = s; bytes = c; within = omega arith }

none_there : (j d : ℕ) → get_or [] j d ≡ d
none_there zero d = refl
none_there (suc j) d = refl

module _ (x : ℕ) (v : Service) (m : List ℕ) (b n : ℕ) (r : Segments) (inv : Standing x v m b n r) where
  pub stands_there : b ≤ n → r.at ≡ x
  unfolding starts_from
  stands_there h =
      let e : b - n ≡ 0 = omega arith in
      let w = inv.within in
      let a : get_or (map start_of (segments_left r)) 0 (length m) ≡ r.at = rw (inv.service, inv.bytes) (starts_here v m r.at w) in
      sym (inv.place ∙ ap (λ (d : ℕ). get_or (map start_of (segments_left r)) d (length m)) e ∙ a)

  module _ (q : Segments) where
    pub stands_none : Steps r None q → length m ≡ x
    stands_none w = sym (inv.place ∙ ap (λ (l : List Piece). get_or (map start_of l) (b - n) (length m)) w.yields.0 ∙ none_there (b - n) (length m))

    pub stands_on : (p : Piece) → Steps r (Some p) q → n < b → Standing x v m b (n + 1) q
    stands_on p w h =
        let e : b - n ≡ suc (b - (n + 1)) = omega arith in
        let c = ap (λ z. z.bytes.now) w.same ∙ inv.bytes in
        let i = inv.within in record {
          place =
              inv.place
              ∙ ap (λ (l : List Piece). get_or (map start_of l) (b - n) (length m)) w.yields
              ∙ ap (λ (d : ℕ). get_or (start_of p ∷ map start_of (segments_left q)) d (length m)) e;
          service = ap (λ z. z.service) w.same ∙ inv.service;
          bytes = c;
          within = subst (λ l. q.at ≤ length l) c (w.within (rw inv.bytes i));
        }
