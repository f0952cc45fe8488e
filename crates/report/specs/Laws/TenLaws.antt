-- Number 10, of fit characters: the tally's first bad byte is a value byte, stands in the first segment where the rule is told, and is the first such byte in it. Assumes nothing.
use Rattle.std.specs.Prelude.{ℕ, zero, suc, ◌+◌, ◌-◌, ◌≤◌, ◌<◌, ◌≡◌, Bool, true, false, length, take, drop, get_or, Option, None, Some}
use native.Mathlib.Omega.{arith}
use Rattle.std.proofs.Math.Path.{refl, ap}
use Rattle.std.proofs.Common.{◌∙◌, subst, length-drop, take_all}
use mathlib.Core.List.{List, [], ◌∷◌, map}
use borrow.Author.Tests.{lt-ltb, le-ltb, le-leb}
use Rattle.service.specs.declared.Service.{Service}
use Rattle.service.specs.Service.{Fits}
use Rattle.segments.specs.declared.Segment.TheVariants.{Finished, Unfinished}
use Rattle.segments.specs.Forms.Segments.{segment_at}
use Rattle.segments.specs.Laws.SegmentsLaws.{Lies, finished_end, unfinished_end}
use Rattle.segments.specs.declared.Piece.TheVariants.{Finished as finished, Unfinished as unfinished}
use Rattle.segments.specs.SegmentList.{segments_from, starts_from, start_at}
use Rattle.segments.specs.Laws.StartsLaws.{by_place}
use Rattle.parts.specs.Parts.{is_strange, keep, strange_in}
use Rattle.parts.specs.Written.{strange_places}
use Rattle.parts.proofs.Laws.ReleaseLaws.{strange_places_lem, strange_unfinished}
use Rattle.faults.specs.Firsts.{lesser}
use Rattle.tally.specs.Tallied.{first_place, bad_between, tally_of}
use Rattle.tally.specs.Places.{passed}
use Rattle.tally.specs.Laws.PlacesLaws.{starts}
use Rattle.message.specs.Forms.Run.{first_of}
use Rattle.report.specs.Reported.{raw_of, rule10}

-- a bad byte lies among the bytes gone over
bad_among : (i : ℕ) (l : List ℕ) (p : ℕ) → first_place (strange_places i l) ≡ Some p → (i ≤ p) × (p < i + length l)
unfolding strange_places
bad_among i [] p e = absurd (let z : ◌≡◌ {A = ℕ} 0 1 = cc in omega arith)
bad_among i (b ∷ l) p e = go (is_strange b) e (bad_among (suc i) l p)
  where
    go : (t : Bool) → first_place (keep t i (strange_places (suc i) l)) ≡ Some p
        → (first_place (strange_places (suc i) l) ≡ Some p → (suc i ≤ p) × (p < suc i + length l)) → (i ≤ p) × (p < i + suc (length l))
    go true q ih = let z : i ≡ p = cc in (omega arith, omega arith)
    go false q ih = let w = ih q in let a = w.0 in let c = w.1 in (omega arith, omega arith)

short : (n : ℕ) (l : List ℕ) → length (take n l) ≤ n
short zero l = omega arith
short (suc n) [] = omega arith
short (suc n) (x ∷ l) = let z = short n l in omega arith

pub bad_inside : (m : List ℕ) (a e p : ℕ) → a ≤ e → bad_between m a e ≡ Some p → (a ≤ p) × (p < e)
bad_inside m a e p h q =
    let w = bad_among a (take (e - a) (drop a m)) p q in
    let x = w.0 in
    let y = w.1 in
    let z = short (e - a) (drop a m) in
    (omega arith, omega arith)

lesser_low : (a b : ℕ) → a ≤ b → lesser (Some a) (Some b) ≡ Some a
unfolding lesser
lesser_low a b h = rw (le-leb a b h)

-- the segments from byte i on: no bad byte and 10 nowhere told, or the first bad byte and its segment
pub data Tens (v : Service) (m : List ℕ) (i : ℕ) : Type 0 where
  clean : (tally_of v m (segments_from v m i)).bad ≡ None → ((n : ℕ) → first_of (rule10 n (map (raw_of v m) (segments_from v m i))) ≡ None) → Tens v m i
  bad : (p : ℕ) → (tally_of v m (segments_from v m i)).bad ≡ Some p → i ≤ p → p < length m → get_or (strange_in v m (get_or (starts_from v m i) (passed (length m) p (segments_from v m i)) (length m))) 0 0 ≡ p
      → ((n : ℕ) → first_of (rule10 n (map (raw_of v m) (segments_from v m i))) ≡ Some (n + passed (length m) p (segments_from v m i))) → passed (length m) p (segments_from v m i) < length (segments_from v m i)
      → Tens v m i

module _ (v : Service) (f : Fits v) (m : List ℕ) where
  -- looking at every byte of a segment finds its first value byte that no value may have
  pub bad_cut : (i : ℕ) → i < length m → Unfinished ≡ segment_at v i m → bad_between m i (length m) ≡ first_place (strange_in v m i)
  bad_cut i h e =
      let w = length-drop i m in
      let k : length (drop i m) ≤ length m - i = omega arith in
      ap first_place (ap (strange_places i) (take_all (length m - i) (drop i m) k) ∙ strange_unfinished v f false i (drop i m) (unfinished_end v m i h e))

  pub bad_on : (i t n : ℕ) → Finished t n ≡ segment_at v i m → bad_between m i t ≡ first_place (strange_in v m i)
  bad_on i t n e = ap first_place (strange_places_lem v f false i (drop i m) t (finished_end v m i t n e).1)

  tens_done : (i : ℕ) → length m ≤ i → segments_from v m i ≡ [] → Tens v m i
  unfolding tally_of rule10 first_of
  tens_done i h q = clean (rw q) (λ n. rw q)

  tens_cut : (i : ℕ) → i < length m → Unfinished ≡ segment_at v i m → segments_from v m i ≡ unfinished i (length m) ∷ [] → Tens v m i
  unfolding tally_of rule10 first_of lesser passed starts_from
  tens_cut i h e q = go (strange_in v m i) refl
    where
      go : (l : List ℕ) → strange_in v m i ≡ l → Tens v m i
      go [] c = let b = bad_cut i h e ∙ ap first_place c in clean (rw (q, b)) (λ n. rw (q, c))
      go (p ∷ l) c =
          let b = bad_cut i h e ∙ ap first_place c in
          let w = bad_inside m i (length m) p (omega arith) b in
          bad p (rw (q, b)) w.0 w.1 (rw (q, c)) (λ n. rw (q, c) (ap Some (omega arith))) (rw q (omega arith))

  module _ (i t n : ℕ) (e : Finished t n ≡ segment_at v i m) (w : Lies m i t n) (q : segments_from v m i ≡ finished i t ∷ segments_from v m n) where
    least_here : (p : ℕ) → p < n → Tens v m n → lesser (Some p) (tally_of v m (segments_from v m n)).bad ≡ Some p
    unfolding lesser
    least_here p l (clean a b) = rw a
    least_here p l (bad r a lo hi b d f) = ap (lesser (Some p)) a ∙ lesser_low p r (omega arith)

    told_here : (k : ℕ) → Tens v m n → lesser (Some k) (first_of (rule10 (suc k) (map (raw_of v m) (segments_from v m n)))) ≡ Some (k + 0)
    unfolding lesser
    told_here k (clean a b) = rw (b (suc k)) (ap Some (omega arith))
    told_here k (bad r a lo hi b d f) = ap (lesser (Some k)) (d (suc k)) ∙ lesser_low k _ (omega arith) ∙ ap Some (omega arith)

    -- a bad byte in the segment itself
    tens_here : (p : ℕ) (l : List ℕ) → strange_in v m i ≡ p ∷ l → Tens v m n → Tens v m i
    unfolding tally_of rule10 first_of passed starts_from
    tens_here p r c ih =
        let d = bad_on i t n e ∙ ap first_place c in
        let x = bad_inside m i t p w.from d in
        let y = x.1 in
        let z = w.next in
        let l : p < n = omega arith in
        let s = starts v m n w.within in
        bad p (rw (q, d) (least_here p l ih)) x.0 (let u = w.ends in omega arith) (rw (q, s, lt-ltb p n l, c)) (λ k. rw (q, c, s, lt-ltb p n l) (told_here k ih)) (rw (q, s, lt-ltb p n l) (omega arith))

    -- none in it
    tens_later : strange_in v m i ≡ [] → Tens v m n → Tens v m i
    unfolding tally_of rule10 first_of passed starts_from lesser
    tens_later c (clean a b) = let o = bad_on i t n e ∙ ap first_place c in clean (rw (q, o) a) (λ k. rw (q, c) (b (suc k)))
    tens_later c (bad p a lo hi b d f) =
        let o = bad_on i t n e ∙ ap first_place c in
        let s = starts v m n w.within in
        let x = w.from in
        let y = w.next in
        bad p (rw (q, o) a) (omega arith) hi (rw (q, s, le-ltb p n lo) b) (λ k. rw (q, c, s, le-ltb p n lo) (d (suc k) ∙ ap Some (omega arith))) (rw (q, s, le-ltb p n lo) (omega arith))

  tens_on : (i t n : ℕ) → Finished t n ≡ segment_at v i m → Lies m i t n → segments_from v m i ≡ finished i t ∷ segments_from v m n → Tens v m n → Tens v m i
  tens_on i t n e w q ih = go (strange_in v m i) refl
    where
      go : (l : List ℕ) → strange_in v m i ≡ l → Tens v m i
      go [] c = tens_later i t n e w q c ih
      go (p ∷ l) c = tens_here i t n e w q p l c ih

  pub tens : Tens v m 0
  tens = by_place v m (Tens v m) tens_done tens_cut tens_on 0

  never : (p : ℕ) (f : Option ℕ) → f ≡ None → f ≡ Some p → ⊥
  never p f a b = let z : ◌≡◌ {A = ℕ} 0 1 = cc in omega arith

  -- no bad byte: 10 is not told
  pub ten_none : (tally_of v m (segments_from v m 0)).bad ≡ None → first_of (rule10 1 (map (raw_of v m) (segments_from v m 0))) ≡ None
  ten_none e = go tens
    where
      go : Tens v m 0 → first_of (rule10 1 (map (raw_of v m) (segments_from v m 0))) ≡ None
      go (clean a b) = b 1
      go (bad p a lo hi b d f) = absurd (never p _ e a)

  -- the first bad byte
  pub record Ten (p : ℕ) : Type 0 where
    pub told : first_of (rule10 1 (map (raw_of v m) (segments_from v m 0))) ≡ Some (1 + passed (length m) p (segments_from v m 0))
    pub byte : get_or (strange_in v m (start_at v m (passed (length m) p (segments_from v m 0)))) 0 0 ≡ p
    pub few : passed (length m) p (segments_from v m 0) < length (segments_from v m 0)
    pub low : p < length m

  pub ten_at : (p : ℕ) → (tally_of v m (segments_from v m 0)).bad ≡ Some p → Ten p
  ten_at p e = go tens
    where
      go : Tens v m 0 → Ten p
      go (clean a b) = absurd (never p _ a e)
      go (bad r a lo hi b d f) = let z : r ≡ p = cc in subst Ten z (record { told = d 1; byte = b; few = f; low = hi })
