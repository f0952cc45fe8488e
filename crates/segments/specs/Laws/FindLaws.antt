-- The first byte of a kind: one turn of each search for it at a position of a list, and what it says of where a segment ends. Assumes nothing.
use Rattle.std.specs.Prelude.{ℕ, zero, suc, ◌+◌, ◌-◌, ◌*◌, ◌/◌, ◌^◌, ◌≤◌, ◌<◌, ◌≡◌, Bool, eqb, ltb, length, get_or, take, drop}
use Rattle.std.proofs.Math.Nat.{add-mul-div_left, add-mul-mod_self_left}
use Rattle.std.proofs.Common.{add-zero, zero-add, arith, lit<, ◌∙◌, ap, subst, drop_of_length-le, get_or-drop, eqb-true, ltb-true, ltb-false, Fits}
use Rattle.std.proofs.Math.Path.{refl, sym}
use mathlib.Core.List.{List, [], ◌∷◌}
use Rattle.std.proofs.Math.Bool.{true, false}
use Rattle.std.proofs.Math.Dec.{T}
use Rattle.std.proofs.Math.ListN.{length-drop}
use Rattle.std.proofs.lemmas.Bool.{eqb-false}
use Rattle.std.proofs.lemmas.List.{take_rest}
use Rattle.std.specs.Int.{w64}
use Rattle.std.specs.Int.Count.{count_trailing_zeros, under}
use Rattle.service.specs.declared.Service.{Service}
use Rattle.segments.specs.declared.Class.{Class}
use Rattle.segments.specs.declared.Class.TheVariants.{Plain, Comp, Elem, Rel, Term}
use Rattle.std.specs.Prelude.{Some, None}
use Rattle.service.specs.Tests.{if}
use Rattle.segments.specs.Classes.{class_of}
use Rattle.segments.specs.Sync.{rel_by, rel_next}
use Rattle.segments.specs.Forms.Bytes.{end_by, end_from, follows_release}
use Rattle.segments.specs.Forms.Find.{first_of}
use Rattle.memchr.specs.Find.{Passes, is_byte, NoneBefore, Nowhere}
use Rattle.segments.specs.Laws.BytesLaws.{class_term, term_of, rel_of}

-- ---- the lowest set digit
pub digit_set : (k m : ℕ) → count_trailing_zeros (suc k) (1 + 2 * m) ≡ 0
unfolding count_trailing_zeros
digit_set k m = ap (λ (d : ℕ). under d (count_trailing_zeros k ((1 + 2 * m) / 2))) (add-mul-mod_self_left 1 2 m)

pub digit_clear : (k m : ℕ) → count_trailing_zeros (suc k) (0 + 2 * m) ≡ suc (count_trailing_zeros k m)
unfolding count_trailing_zeros
digit_clear k m =
    ap (λ (d : ℕ). under d (count_trailing_zeros k ((0 + 2 * m) / 2))) (add-mul-mod_self_left 0 2 m)
    ∙ ap (λ (h : ℕ). suc (count_trailing_zeros k h)) (add-mul-div_left 0 m (lit< tt) ∙ zero-add m)

-- ---- what a search by `memchr` finds, of the bytes that begin at i
found_by : (x i k b : ℕ) (l : List ℕ) (t : Bool) → eqb b x ≡ t → (t ≡ true → ⊥) → first_of x (suc i) l ≡ suc i + k → if t i (first_of x (suc i) l) ≡ i + suc k
found_by x i k b l true q n e = absurd (n refl)
found_by x i k b l false q n e = e ∙ omega arith

found : (x i k : ℕ) (l : List ℕ) → k < length l → ((j : ℕ) → 0 ≤ j → j < k → Passes (is_byte x) l j → ⊥) → Passes (is_byte x) l k → first_of x i l ≡ i + k
unfolding first_of
found x i k [] h n p = absurd (omega arith)
found x i zero (b ∷ l) h n p = rw (p, add-zero)
found x i (suc k) (b ∷ l) h n p =
    found_by x i k b l (eqb b x) refl (λ e. n 0 (omega arith) (omega arith) e)
    (found x (suc i) k l (omega arith) (λ j lo hi q. n (suc j) (omega arith) (omega arith) q) p)

nowhere : (x i : ℕ) (l : List ℕ) → ((j : ℕ) → 0 ≤ j → j < length l → Passes (is_byte x) l j → ⊥) → first_of x i l ≡ i + length l
unfolding first_of
nowhere x i [] n = rw add-zero
nowhere x i (b ∷ l) n =
    found_by x i (length l) b l (eqb b x) refl (λ e. n 0 (omega arith) (omega arith) e)
    (nowhere x (suc i) l (λ j lo hi q. n (suc j) (omega arith) (omega arith) q))

module _ (x : ℕ) (s : List ℕ) (i : ℕ) where
  pub first_past : length s ≤ i → i ≡ first_of x i (drop i s)
  unfolding first_of
  first_past h = rw (drop_of_length-le s h)

  -- the bytes from i on, as a slice
  abbrev pub Tail : List ℕ
  Tail = take (length s - i) (drop i s)

  tail : Tail ≡ drop i s
  tail = take_rest s i

  module _ (h : i < length s) where
    pub first_found : (k : ℕ) → NoneBefore (Passes (is_byte x) Tail) 0 (length Tail) k × Passes (is_byte x) Tail k → i + k ≡ first_of x i (drop i s)
    first_found k f =
        let g = subst (λ (l : List ℕ). NoneBefore (Passes (is_byte x) l) 0 (length l) k × Passes (is_byte x) l k) tail f in
        let n = g.0 in
        sym (found x i k (drop i s) n.high n.before g.1)

    pub first_nowhere : Nowhere (Passes (is_byte x) Tail) 0 (length Tail) → length s ≡ first_of x i (drop i s)
    first_nowhere n =
        let d = length-drop i s in
        sym (nowhere x i (drop i s) (subst (λ (l : List ℕ). Nowhere (Passes (is_byte x) l) 0 (length l)) tail n) ∙ omega arith)

    pub found_fits : (k : ℕ) → NoneBefore (Passes (is_byte x) Tail) 0 (length Tail) k × Passes (is_byte x) Tail k → length s < 2 ^ 64 → Fits w64 (i + k)
    found_fits k f z =
        let n = f.0 in
        let g = n.high in
        let d = ap length tail ∙ length-drop i s in record { fits = omega arith }

-- ---- where a segment ends, by the first terminator
first_low_by : (i f : ℕ) (t : Bool) → suc i ≤ f → i ≤ if t i f
first_low_by i f true h = omega arith
first_low_by i f false h = omega arith

first_low : (x i : ℕ) (l : List ℕ) → i ≤ first_of x i l
unfolding first_of
first_low x i [] = omega arith
first_low x i (b ∷ l) = first_low_by i (first_of x (suc i) l) (eqb b x) (first_low x (suc i) l)

module _ (v : Service) where
  -- a byte that is no terminator is passed, and the next one is released or not
  pass_by_lem : (i b : ℕ) (l : List ℕ) → (b ≡ v.terminator → ⊥) → (k : Class) → class_of v b ≡ k
      → end_by k i (end_from v true (suc i) l) (end_from v false (suc i) l) ≡ end_from v (rel_by k) (suc i) l
  pass_by_lem i b l n Plain c = refl
  pass_by_lem i b l n Comp c = refl
  pass_by_lem i b l n Elem c = refl
  pass_by_lem i b l n Rel c = refl
  pass_by_lem i b l n Term c = absurd (n (term_of v b c))

  pass : (r : Bool) (i b : ℕ) (l : List ℕ) → (b ≡ v.terminator → ⊥) → end_from v r i (b ∷ l) ≡ end_from v (rel_next v r b) (suc i) l
  unfolding end_from
  pass true i b l n = refl
  pass false i b l n = pass_by_lem i b l n (class_of v b) refl

  -- a byte is released only if the release stands just before it
  held_by_lem : (b : ℕ) (k : Class) → class_of v b ≡ k → rel_by k ≡ true → b ≡ v.release
  held_by_lem b Plain c e = absurd (subst T (sym e) tt)
  held_by_lem b Comp c e = absurd (subst T (sym e) tt)
  held_by_lem b Elem c e = absurd (subst T (sym e) tt)
  held_by_lem b Rel c e = rel_of v b c
  held_by_lem b Term c e = absurd (subst T (sym e) tt)

  held_after : (r : Bool) (b : ℕ) → rel_next v r b ≡ true → b ≡ v.release
  held_after true b e = absurd (subst T (sym e) tt)
  held_after false b e = held_by_lem b (class_of v b) refl e

  -- with no terminator there is no end
  no_end_by : (r : Bool) (i b p : ℕ) (l : List ℕ) → ((q : Bool) → p ≡ first_of v.terminator (suc i) l → end_from v q (suc i) l ≡ None)
      → (t : Bool) → eqb b v.terminator ≡ t → p ≡ if t i (first_of v.terminator (suc i) l) → i + suc (length l) ≤ p → end_from v r i (b ∷ l) ≡ None
  no_end_by r i b p l ih true q e h = absurd (omega arith)
  no_end_by r i b p l ih false q e h = pass r i b l (eqb-false _ _ q) ∙ ih (rel_next v r b) e

  no_end : (r : Bool) (i p : ℕ) (l : List ℕ) → p ≡ first_of v.terminator i l → i + length l ≤ p → end_from v r i l ≡ None
  unfolding end_from first_of
  no_end r i p [] e h = refl
  no_end r i p (b ∷ l) e h = no_end_by r i b p l (λ (q : Bool) w. no_end q (suc i) p l w (omega arith)) (eqb b v.terminator) refl e h

  -- the first terminator is the end, if the byte before it is not the release; a stands before the first byte
  at_end_here : (r : Bool) (i a b : ℕ) (l : List ℕ) → (r ≡ true → a ≡ v.release) → (a ≡ v.release → ⊥) → b ≡ v.terminator → end_from v r i (b ∷ l) ≡ Some i
  unfolding end_from
  at_end_here true i a b l u n e = absurd (n (u refl))
  at_end_here false i a b l u n e = rw (← class_term v b e)

  at_end_by : (r : Bool) (i a b p : ℕ) (l : List ℕ) → (r ≡ true → a ≡ v.release)
      → (p ≡ first_of v.terminator (suc i) l → (get_or (b ∷ l) (p - suc i) 0 ≡ v.release → ⊥) → end_from v (rel_next v r b) (suc i) l ≡ Some p)
      → (t : Bool) → eqb b v.terminator ≡ t → p ≡ if t i (first_of v.terminator (suc i) l) → (get_or (a ∷ b ∷ l) (p - i) 0 ≡ v.release → ⊥) → end_from v r i (b ∷ l) ≡ Some p
  at_end_by r i a b p l u ih true q e n =
      let z : p - i ≡ 0 = omega arith in
      rw e (at_end_here r i a b l u (rw z at n) (eqb-true _ _ q))
  at_end_by r i a b p l u ih false q e n =
      let g = first_low v.terminator (suc i) l in
      let z : p - i ≡ suc (p - suc i) = omega arith in
      pass r i b l (eqb-false _ _ q) ∙ ih e (rw z at n)

  at_end : (r : Bool) (i a p : ℕ) (l : List ℕ) → (r ≡ true → a ≡ v.release) → p ≡ first_of v.terminator i l → p < i + length l
      → (get_or (a ∷ l) (p - i) 0 ≡ v.release → ⊥) → end_from v r i l ≡ Some p
  unfolding first_of
  at_end r i a p [] u e h n = absurd (omega arith)
  at_end r i a p (b ∷ l) u e h n =
      at_end_by r i a b p l u (λ w m. at_end (rel_next v r b) (suc i) b p l (held_after r b) w (omega arith) m) (eqb b v.terminator) refl e n

  module _ (s : List ℕ) (i p : ℕ) (c : p ≡ first_of v.terminator i (drop i s)) where
    pub end_nowhere : length s ≤ p → None ≡ end_from v false i (drop i s)
    end_nowhere h =
        let g = first_low v.terminator i (drop i s) in
        let d = length-drop i s in
        sym (no_end false i p (drop i s) c (omega arith))

    free_by : (t : Bool) → ltb i p ≡ t → if t (eqb (get_or s (p - 1) 0) v.release) false ≡ false → get_or (suc v.release ∷ drop i s) (p - i) 0 ≡ v.release → ⊥
    free_by true q e w =
        let h = ltb-true i p q in
        let z : p - i ≡ suc (p - 1 - i) = omega arith in
        let y : i + (p - 1 - i) ≡ p - 1 = omega arith in
        eqb-false (get_or s (p - 1) 0) v.release e (ap (λ (n : ℕ). get_or s n 0) (sym y) ∙ sym (get_or-drop i s (p - 1 - i) 0) ∙ rw z at w)
    free_by false q e w =
        let h = ltb-false i p q in
        let z : p - i ≡ 0 = omega arith in
        let y : suc v.release ≡ v.release = rw z at w in
        omega arith

    pub end_first : p < length s → (b : Bool) → b ≡ follows_release v i p s → b ≡ false → Some p ≡ end_from v false i (drop i s)
    unfolding follows_release
    end_first h b k e =
        let g = first_low v.terminator i (drop i s) in
        let d = length-drop i s in
        sym (at_end false i (suc v.release) p (drop i s) (λ w. absurd (subst T (sym w) tt)) c (omega arith) (free_by (ltb i p) refl (sym k ∙ e)))
