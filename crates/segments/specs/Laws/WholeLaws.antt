-- The segment at a place of a part of a text is the segment at that place of the whole. Assumes nothing.
use Rattle.std.specs.Prelude.{ℕ, suc, ◌+◌, ◌≤◌, ◌<◌, ◌≡◌, refl, List, [], ◌∷◌, ◌++◌, Bool, true, false, length, drop, eqb}
use Rattle.std.proofs.Common.{add-suc, arith, sym, ◌∙◌, ap, subst, length-drop, length-append}
use Rattle.service.specs.declared.Service.{Service}
use Rattle.service.specs.Tests.{if}
use Rattle.std.specs.Prelude.{Option}
use Rattle.std.specs.Prelude.{Some, None}
use Rattle.segments.specs.declared.Segment.TheVariants.{Finished}
use Rattle.segments.specs.Forms.Bytes.{end_from, past_breaks}
use Rattle.segments.specs.Forms.Segments.{segment_by, segment_at}
use Rattle.segments.specs.Laws.SyncLaws.{skipped}
use Rattle.segments.specs.Laws.SegmentsLaws.{segment_by_lem, segment_finished, lies}
use Rattle.segments.specs.Laws.PartLaws.{part_drop, end_in_whole}

-- ---- breaks further on
shift_by : (k i x y : ℕ) (t u : Bool) → x ≡ k + y → if t x (if u x (k + i)) ≡ k + if t y (if u y i)
shift_by k i x y true u e = e
shift_by k i x y false true e = e
shift_by k i x y false false e = refl

breaks_shift : (k i : ℕ) (l : List ℕ) → past_breaks (k + i) l ≡ k + past_breaks i l
unfolding past_breaks
breaks_shift k i [] = refl
breaks_shift k i (b ∷ l) = shift_by k i _ _ (eqb b 13) (eqb b 10) (rw (← add-suc k i) (breaks_shift k (suc i) l))

-- and with bytes behind, where they end before
breaks_low : (v : Service) (i : ℕ) (l : List ℕ) → i ≤ past_breaks i l
breaks_low v i l = (skipped v i l).low

more_by : (i x y : ℕ) (t u : Bool) (n : ℕ) → (y < n → x ≡ y) → if t y (if u y i) < n → if t x (if u x i) ≡ if t y (if u y i)
more_by i x y true u n ih h = ih h
more_by i x y false true n ih h = ih h
more_by i x y false false n ih h = refl

breaks_more : (v : Service) (i : ℕ) (l z : List ℕ) → past_breaks i l < i + length l → past_breaks i (l ++ z) ≡ past_breaks i l
unfolding past_breaks
breaks_more v i [] z h = absurd (omega arith)
breaks_more v i (b ∷ l) z h =
    let e : i + length (b ∷ l) ≡ suc i + length l = omega arith in
    more_by i _ _ (eqb b 13) (eqb b 10) (suc i + length l) (λ (g : past_breaks (suc i) l < suc i + length l). breaks_more v (suc i) l z g) (subst (λ (n : ℕ). past_breaks i (b ∷ l) < n) e h)

-- the breaks of two texts that begin alike end at the same place, if that lies in what is alike
alike_by : (i x y p : ℕ) (t u : Bool) → (y ≡ p → x ≡ p) → if t y (if u y i) ≡ p → if t x (if u x i) ≡ p
alike_by i x y p true u ih e = ih e
alike_by i x y p false true ih e = ih e
alike_by i x y p false false ih e = e

pub breaks_alike : (v : Service) (i : ℕ) (l z z' : List ℕ) (p : ℕ) → past_breaks i (l ++ z) ≡ p → p < i + length l → past_breaks i (l ++ z') ≡ p
unfolding past_breaks
breaks_alike v i [] z z' p e h = let w = breaks_low v i z in absurd (omega arith)
breaks_alike v i (b ∷ l) z z' p e h =
    let g : p < suc i + length l = omega arith in
    alike_by i _ _ p (eqb b 13) (eqb b 10) (λ q. breaks_alike v (suc i) l z z' p q g) e

-- ---- a segment that is finished in the part, and behind which the part goes on
module _ (v : Service) (p q z : List ℕ) (i t n : ℕ) where
  next_by_lem : t < length q → n ≡ past_breaks (t + 1) (drop (t + 1) q) → n < length q
      → length p + n ≡ past_breaks (length p + t + 1) (drop (length p + t + 1) (p ++ q ++ z))
  next_by_lem h e g =
      let a : length p + t + 1 ≡ length p + (t + 1) = omega arith in
      let b : t + 1 ≤ length q = omega arith in
      let c = length-drop (t + 1) q in
      let d : past_breaks (t + 1) (drop (t + 1) q) < t + 1 + length (drop (t + 1) q) = omega arith in
      sym
      (ap (λ (m : ℕ). past_breaks m (drop m (p ++ q ++ z))) a
      ∙ ap (past_breaks (length p + (t + 1))) (part_drop p q z (t + 1) b)
      ∙ breaks_shift (length p) (t + 1) (drop (t + 1) q ++ z)
      ∙ ap (λ (m : ℕ). length p + m) (breaks_more v (t + 1) (drop (t + 1) q) z d ∙ sym e))

  end_of : (k : Option ℕ) → k ≡ end_from v false i (drop i q) → segment_by q k ≡ Finished t n → (end_from v false i (drop i q) ≡ Some t) × (n ≡ past_breaks (t + 1) (drop (t + 1) q))
  end_of (Some u) c e =
      let a : u ≡ t = cc in
      let d : past_breaks (u + 1) (drop (u + 1) q) ≡ n = cc in
      (sym c ∙ ap Some a, sym d ∙ ap (λ (m : ℕ). past_breaks (m + 1) (drop (m + 1) q)) a)
  end_of None c e = absurd (let w : ◌≡◌ {A = ℕ} 0 1 = cc in omega arith)

  pub segment_in_whole : segment_at v i q ≡ Finished t n → n < length q → segment_at v (length p + i) (p ++ q ++ z) ≡ Finished (length p + t) (length p + n)
  segment_in_whole e g =
      let w = lies v q i (segment_at v i q) refl t n e in
      let h : i < length q = omega arith in
      let f = end_of (end_from v false i (drop i q)) refl (segment_by_lem v q i h (end_from v false i (drop i q)) refl ∙ e) in
      let j : i ≤ length q = omega arith in
      let b : t < length q = omega arith in
      let c = length-append (p ++ q) z in
      let d = length-append p q in
      let k : length p + i < length (p ++ q ++ z) = omega arith in
      sym
      (segment_finished v (p ++ q ++ z) (length p + i) k (end_from v false (length p + i) (drop (length p + i) (p ++ q ++ z))) refl (length p + t)
      (end_in_whole v p q z i t j f.0) (length p + n)
      (next_by_lem b f.1 g))
