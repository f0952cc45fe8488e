-- A segment ends at the same byte in any part of a text that holds it. Assumes nothing.
use Rattle.std.specs.Prelude.{ℕ, suc, ◌+◌, ◌≤◌, ◌<◌, ◌≡◌, refl, List, [], ◌∷◌, ◌++◌, Bool, true, false, length, drop}
use Rattle.std.proofs.Common.{add-suc, arith, ◌∙◌, ap}
use Rattle.std.proofs.Math.Seq.{drop-append-add}
use Rattle.std.proofs.lemmas.List.{drop-append-le}
use Rattle.service.specs.declared.Service.{Service}
use Rattle.segments.specs.declared.Class.{Class}
use Rattle.segments.specs.declared.Class.TheVariants.{Plain, Comp, Elem, Rel, Term}
use Rattle.std.specs.Prelude.{Option}
use Rattle.std.specs.Prelude.{Some, None}
use Rattle.segments.specs.Classes.{class_of}
use Rattle.segments.specs.Forms.Bytes.{end_by, end_from}

-- ---- bytes further on
abbrev pub end_shift : ℕ → Option ℕ → Option ℕ
end_shift k (Some t) = Some (k + t)
end_shift k None = None

shift_by : (k i : ℕ) (c : Class) (x y x' y' : Option ℕ) → x ≡ end_shift k x' → y ≡ end_shift k y' → end_by c (k + i) x y ≡ end_shift k (end_by c i x' y')
shift_by k i Plain x y x' y' p q = q
shift_by k i Comp x y x' y' p q = q
shift_by k i Elem x y x' y' p q = q
shift_by k i Rel x y x' y' p q = p
shift_by k i Term x y x' y' p q = refl

pub end_shift_lem : (v : Service) (r : Bool) (k i : ℕ) (l : List ℕ) → end_from v r (k + i) l ≡ end_shift k (end_from v r i l)
unfolding end_from
end_shift_lem v r k i [] = refl
end_shift_lem v true k i (b ∷ l) = rw (← add-suc k i) (end_shift_lem v false k (suc i) l)
end_shift_lem v false k i (b ∷ l) =
    shift_by k i (class_of v b) _ _ _ _
    (rw (← add-suc k i) (end_shift_lem v true k (suc i) l))
    (rw (← add-suc k i) (end_shift_lem v false k (suc i) l))

-- ---- bytes that follow the terminator
more_by : (v : Service) (i : ℕ) (l z : List ℕ) (t : ℕ) (c : Class) → ((q : Bool) → end_from v q (suc i) l ≡ Some t → end_from v q (suc i) (l ++ z) ≡ Some t)
    → end_by c i (end_from v true (suc i) l) (end_from v false (suc i) l) ≡ Some t → end_by c i (end_from v true (suc i) (l ++ z)) (end_from v false (suc i) (l ++ z)) ≡ Some t
more_by v i l z t Plain ih e = ih false e
more_by v i l z t Comp ih e = ih false e
more_by v i l z t Elem ih e = ih false e
more_by v i l z t Rel ih e = ih true e
more_by v i l z t Term ih e = e

pub end_more : (v : Service) (r : Bool) (i : ℕ) (l z : List ℕ) (t : ℕ) → end_from v r i l ≡ Some t → end_from v r i (l ++ z) ≡ Some t
unfolding end_from
end_more v r i [] z t e = absurd (let w : ◌≡◌ {A = ℕ} 0 1 = cc in omega arith)
end_more v true i (b ∷ l) z t e = end_more v false (suc i) l z t e
end_more v false i (b ∷ l) z t e = more_by v i l z t (class_of v b) (λ (q : Bool) w. end_more v q (suc i) l z t w) e

low_by : (v : Service) (i : ℕ) (l : List ℕ) (t : ℕ) (c : Class) → ((q : Bool) → end_from v q (suc i) l ≡ Some t → suc i ≤ t)
    → end_by c i (end_from v true (suc i) l) (end_from v false (suc i) l) ≡ Some t → i ≤ t
low_by v i l t Plain ih e = let w = ih false e in omega arith
low_by v i l t Comp ih e = let w = ih false e in omega arith
low_by v i l t Elem ih e = let w = ih false e in omega arith
low_by v i l t Rel ih e = let w = ih true e in omega arith
low_by v i l t Term ih e = let w : i ≡ t = cc in omega arith

pub end_low : (v : Service) (r : Bool) (i : ℕ) (l : List ℕ) (t : ℕ) → end_from v r i l ≡ Some t → i ≤ t
unfolding end_from
end_low v r i [] t e = absurd (let w : ◌≡◌ {A = ℕ} 0 1 = cc in omega arith)
end_low v true i (b ∷ l) t e = let w = end_low v false (suc i) l t e in omega arith
end_low v false i (b ∷ l) t e = low_by v i l t (class_of v b) (λ (q : Bool) w. end_low v q (suc i) l t w) e

fewer_by : (v : Service) (i : ℕ) (l z : List ℕ) (t : ℕ) (c : Class) → ((q : Bool) → end_from v q (suc i) (l ++ z) ≡ Some t → end_from v q (suc i) l ≡ Some t)
    → end_by c i (end_from v true (suc i) (l ++ z)) (end_from v false (suc i) (l ++ z)) ≡ Some t → end_by c i (end_from v true (suc i) l) (end_from v false (suc i) l) ≡ Some t
fewer_by v i l z t Plain ih e = ih false e
fewer_by v i l z t Comp ih e = ih false e
fewer_by v i l z t Elem ih e = ih false e
fewer_by v i l z t Rel ih e = ih true e
fewer_by v i l z t Term ih e = e

-- a part that holds the terminator has the segment's end
pub end_fewer : (v : Service) (r : Bool) (i : ℕ) (l z : List ℕ) (t : ℕ) → end_from v r i (l ++ z) ≡ Some t → t < i + length l → end_from v r i l ≡ Some t
unfolding end_from
end_fewer v r i [] z t e h = let w = end_low v r i z t e in absurd (omega arith)
end_fewer v true i (b ∷ l) z t e h = let g : t < suc i + length l = omega arith in end_fewer v false (suc i) l z t e g
end_fewer v false i (b ∷ l) z t e h =
    let g : t < suc i + length l = omega arith in
    fewer_by v i l z t (class_of v b) (λ (q : Bool) w. end_fewer v q (suc i) l z t w g) e

-- ---- a part with what stands before and after it
pub part_drop : (p q z : List ℕ) (i : ℕ) → i ≤ length q → drop (length p + i) (p ++ q ++ z) ≡ drop i q ++ z
part_drop p q z i h = drop-append-le (length p + i) (p ++ q) z (bound p q i h) ∙ ap (λ (l : List ℕ). l ++ z) (drop-append-add p q i)
  where
    bound : (p q : List ℕ) (i : ℕ) → i ≤ length q → length p + i ≤ length (p ++ q)
    bound [] q i h = omega arith
    bound (x ∷ p) q i h = let w = bound p q i h in omega arith

module _ (v : Service) (p q z : List ℕ) (i t : ℕ) (h : i ≤ length q) where
  -- a segment that ends in a part ends there in the whole
  pub end_in_whole : end_from v false i (drop i q) ≡ Some t → end_from v false (length p + i) (drop (length p + i) (p ++ q ++ z)) ≡ Some (length p + t)
  end_in_whole e =
      ap (end_from v false (length p + i)) (part_drop p q z i h)
      ∙ end_shift_lem v false (length p) i (drop i q ++ z)
      ∙ ap (end_shift (length p)) (end_more v false i (drop i q) z t e)
