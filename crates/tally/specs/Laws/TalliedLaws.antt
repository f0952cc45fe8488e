-- The loops of a tally, turn by turn. Assumes nothing.
use Prim.Native.Nat.{ℕ, suc, ◌+◌, ◌-◌, ◌≤◌, ◌<◌}
use native.Mathlib.Omega.{arith}
use Rattle.std.specs.Prelude.{◌≡◌, refl, Bool, true, false, ◌||◌, length, get_or, take, drop, T, Option, Some, None}
use Rattle.std.proofs.Math.Path.{sym, ap}
use Rattle.std.proofs.Common.{◌∙◌, subst, drop-cons}
use mathlib.Core.List.{List, [], ◌∷◌}
use Rattle.service.specs.declared.Service.{Service}
use Rattle.segments.specs.declared.Piece.{Piece}
use Rattle.segments.specs.declared.Piece.TheVariants.{Finished as finished, Unfinished as unfinished}
use Rattle.segments.specs.SegmentList.{segments_from}
use Rattle.parts.specs.Parts.{is_strange, keep}
use Rattle.parts.specs.Written.{strange_places}
use Rattle.values.specs.Numbers.{value_from}
use Rattle.values.specs.Forms.Values.{code_of}
use Rattle.faults.specs.Firsts.{lesser}
use Rattle.faults.specs.Laws.FirstsLaws.{lesser_last, lesser_group}
use Rattle.tally.specs.declared.Tally.{Tally}
use Rattle.tally.specs.Forms.Eights.{eight_strange}
use Rattle.tally.specs.Tallied.{first_place, bad_between, finished_one, unfinished_one, nothing, together, tally_of}

-- ---- the first bad byte
module _ (x : Option ℕ) (m : List ℕ) (to i : ℕ) (inv : x ≡ bad_between m i to) where
  pub bad_past : to ≤ i → None ≡ x
  unfolding strange_places
  bad_past h = let e : to - i ≡ 0 = omega arith in sym (inv ∙ rw e refl)

  module _ (h : i < to) (g : to ≤ length m) where
    bad_by : x ≡ first_place (keep (is_strange (get_or m i 0)) i (strange_places (i + 1) (take (to - (i + 1)) (drop (i + 1) m))))
    unfolding strange_places
    bad_by =
        let e : to - i ≡ suc (to - (i + 1)) = omega arith in
        let n : suc i ≡ i + 1 = omega arith in
        inv
        ∙ ap (λ (k : ℕ). first_place (strange_places i (take k (drop i m)))) e
        ∙ ap (λ (l : List ℕ). first_place (strange_places i (take (suc (to - (i + 1))) l))) (drop-cons m i 0 (omega arith))
        ∙ ap (λ (k : ℕ). first_place (keep (is_strange (get_or m i 0)) i (strange_places k (take (to - (i + 1)) (drop k m))))) n

    bad_if : (s : Bool) → is_strange (get_or m i 0) ≡ s → x ≡ first_place (keep s i (strange_places (i + 1) (take (to - (i + 1)) (drop (i + 1) m))))
    bad_if s e = bad_by ∙ ap (λ (b : Bool). first_place (keep b i (strange_places (i + 1) (take (to - (i + 1)) (drop (i + 1) m))))) e

    module _ (t : Bool) (q : t ≡ is_strange (get_or m i 0)) where
      pub bad_here : t ≡ true → Some i ≡ x
      bad_here e = sym (bad_if true (sym q ∙ e))

      pub bad_on : t ≡ false → x ≡ bad_between m (i + 1) to
      bad_on e = bad_if false (sym q ∙ e)

-- ---- eight bytes
neither : (a b : Bool) → a || b ≡ false → (a ≡ false) × (b ≡ false)
neither true b e = absurd (subst T e tt)
neither false b e = (refl, e)

-- n bytes are no bad ones, and one more is none
bad_one : (x : Option ℕ) (m : List ℕ) (to i n : ℕ) → to ≤ length m → i + suc n ≤ to → is_strange (get_or m (i + n) 0) ≡ false → x ≡ bad_between m (i + n) to → x ≡ bad_between m (i + suc n) to
bad_one x m to i n g h e inv = let k : i + n + 1 ≡ i + suc n = omega arith in bad_on x m to (i + n) inv (omega arith) g false (sym e) refl ∙ ap (λ (j : ℕ). bad_between m j to) k

pub bad_eight : (x : Option ℕ) (m : List ℕ) (to i : ℕ) → x ≡ bad_between m i to → to ≤ length m → 8 ≤ to → i ≤ to - 8 → (t : Bool) → t ≡ eight_strange m i → t ≡ false → x ≡ bad_between m (i + 8) to
bad_eight x m to i inv g h l t q f =
    let a7 = neither _ _ (sym q ∙ f) in
    let a6 = neither _ _ a7.0 in
    let a5 = neither _ _ a6.0 in
    let a4 = neither _ _ a5.0 in
    let a3 = neither _ _ a4.0 in
    let a2 = neither _ _ a3.0 in
    let a1 = neither _ _ a2.0 in
    let x1 = bad_on x m to i inv (omega arith) g false (sym a1.0) refl in
    let x2 = bad_one x m to i 1 g (omega arith) a1.1 x1 in
    let x3 = bad_one x m to i 2 g (omega arith) a2.1 x2 in
    let x4 = bad_one x m to i 3 g (omega arith) a3.1 x3 in
    let x5 = bad_one x m to i 4 g (omega arith) a4.1 x4 in
    let x6 = bad_one x m to i 5 g (omega arith) a5.1 x5 in
    let x7 = bad_one x m to i 6 g (omega arith) a6.1 x6 in
    bad_one x m to i 7 g (omega arith) a7.1 x7

abbrev made : Option ℕ → ℕ → ℕ → ℕ → Option ℕ → Tally
made b s o p u = record { bad = b; segments = s; orders = o; payments = p; unt = u }

-- ---- tallies together
pub together_last : (t : Tally) → together t nothing ≡ t
together_last t = go t.bad t.segments t.orders t.payments t.unt
  where
    go : (b : Option ℕ) (s o p : ℕ) (u : Option ℕ) → made (lesser b None) (s + 0) (o + 0) (p + 0) (lesser u None) ≡ made b s o p u
    go b s o p u = let x : s + 0 ≡ s = omega arith in let y : o + 0 ≡ o = omega arith in let z : p + 0 ≡ p = omega arith in rw (x, y, z, lesser_last b, lesser_last u) refl

pub together_first : (t : Tally) → together nothing t ≡ t
unfolding lesser
together_first t = let x : 0 + t.segments ≡ t.segments = omega arith in let y : 0 + t.orders ≡ t.orders = omega arith in let z : 0 + t.payments ≡ t.payments = omega arith in rw (x, y, z) refl

pub together_group : (t u w : Tally) → together (together t u) w ≡ together t (together u w)
together_group t u w =
    let x : t.segments + u.segments + w.segments ≡ t.segments + (u.segments + w.segments) = omega arith in
    let y : t.orders + u.orders + w.orders ≡ t.orders + (u.orders + w.orders) = omega arith in
    let z : t.payments + u.payments + w.payments ≡ t.payments + (u.payments + w.payments) = omega arith in
    rw (x, y, z, lesser_group t.bad u.bad w.bad, lesser_group t.unt u.unt w.unt) refl

-- ---- the loop
module _ (x : Tally) (v : Service) (m : List ℕ) (t : Tally) (l : List Piece) (inv : x ≡ together t (tally_of v m l)) where
  pub tally_end : l ≡ [] → t ≡ x
  unfolding tally_of
  tally_end e = sym (inv ∙ ap (λ l. together t (tally_of v m l)) e ∙ together_last t)

  module _ (k : List Piece) (a e : ℕ) (u : Tally) where
    pub tally_unfinished : l ≡ unfinished a e ∷ k → u ≡ together t (unfinished_one m a e) → x ≡ together u (tally_of v m k)
    unfolding tally_of
    tally_unfinished w q =
        inv
        ∙ ap (λ l. together t (tally_of v m l)) w
        ∙ sym (together_group t (unfinished_one m a e) (tally_of v m k))
        ∙ ap (λ (y : Tally). together y (tally_of v m k)) (sym q)

    pub tally_finished : l ≡ finished a e ∷ k → (g : ℕ) → g ≡ code_of (value_from v a m) → u ≡ together t (finished_one m a e g) → x ≡ together u (tally_of v m k)
    unfolding tally_of
    tally_finished w g h q =
        inv
        ∙ ap (λ l. together t (tally_of v m l)) w
        ∙ sym (together_group t (finished_one m a e (code_of (value_from v a m))) (tally_of v m k))
        ∙ ap (λ (y : Tally). together y (tally_of v m k)) (sym (q ∙ ap (λ (j : ℕ). together t (finished_one m a e j)) h))

pub tally_start : (v : Service) (m : List ℕ) → tally_of v m (segments_from v m 0) ≡ together nothing (tally_of v m (segments_from v m 0))
tally_start v m = sym (together_first (tally_of v m (segments_from v m 0)))
