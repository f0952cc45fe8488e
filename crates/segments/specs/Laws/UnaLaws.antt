-- UNA read as a segment: it is one, from its first byte to the ninth. Assumes nothing.
use Rattle.std.specs.Prelude.{ℕ, suc, ◌<◌, ◌≡◌, List, [], ◌∷◌, Bool, not, ◌||◌, get_or, drop, eqb}
use Rattle.std.proofs.Common.{arith, sym, ◌∙◌, subst, inl, ne_eqb}
use Rattle.std.proofs.Math.Path.{refl, ap}
use Rattle.std.proofs.Math.Bool.{true, false}
use Rattle.std.proofs.lemmas.Bool.{eqb-false}
use Rattle.service.specs.declared.Service.{Service}
use Rattle.service.specs.Service.{Fit, is_alphanumeric, among, distinct, serving_by, Fits, characters_of}
use Rattle.service.specs.Laws.ServiceLaws.{and_left, and_right, neither_left, neither_right}
use Rattle.service.specs.Laws.FitLaws.{characters_fit}
use Rattle.service.specs.Laws.UnaLaws.{Names, named, nine, serves_no_letter}
use Rattle.service.specs.Tests.{if}
use Rattle.segments.specs.declared.Class.{Class}
use Rattle.segments.specs.declared.Class.TheVariants.{Plain, Comp, Elem, Rel, Term}
use Rattle.segments.specs.Classes.{class_of}
use Rattle.segments.specs.Laws.BytesLaws.{class_elem, class_comp, class_rel}
use Rattle.segments.specs.declared.Piece.{Piece}
use Rattle.segments.specs.declared.Piece.TheVariants.{Finished as finished}
use Rattle.segments.specs.SegmentList.{gap, inside, mode, ended, emit, pieces, segments_after}
use Rattle.segments.specs.Laws.ResyncLaws.{gap_start}
use Rattle.segments.specs.Laws.FitLaws.{plain_by, plain_outside, term_class}

-- ---- what the characters are to a reader
module _ (v : Service) (f : Fits v) where
  -- a letter or a digit is plain
  pub plain_letter : (b : ℕ) → is_alphanumeric b ≡ true → class_of v b ≡ Plain
  plain_letter b a = plain_by v f b (λ (x : ℕ) e. serves_no_letter b x a e)

  -- those present all differ
  differ_by : (r : Bool) → v.releases ≡ r → distinct (serving_by r v) ≡ true
      → (eqb v.component v.element ≡ false) × (eqb v.component v.terminator ≡ false) × (eqb v.element v.terminator ≡ false)
  unfolding distinct among
  differ_by true q d =
      let d1 = and_left (not (among v.component (v.element ∷ v.release ∷ v.terminator ∷ []))) _ d in
      let d2 = neither_right (eqb v.component v.element) (eqb v.component v.release || (eqb v.component v.terminator || false)) d1 in
      let d3 = and_right (not (among v.component (v.element ∷ v.release ∷ v.terminator ∷ []))) _ d in
      let d4 = and_left (not (among v.element (v.release ∷ v.terminator ∷ []))) _ d3 in (
        neither_left (eqb v.component v.element) (eqb v.component v.release || (eqb v.component v.terminator || false)) d1,
        neither_left (eqb v.component v.terminator) false (neither_right (eqb v.component v.release) (eqb v.component v.terminator || false) d2),
        neither_left (eqb v.element v.terminator) false (neither_right (eqb v.element v.release) (eqb v.element v.terminator || false) d4),
      )
  differ_by false q d =
      let d1 = and_left (not (among v.component (v.element ∷ v.terminator ∷ []))) _ d in
      let d3 = and_right (not (among v.component (v.element ∷ v.terminator ∷ []))) _ d in
      let d4 = and_left (not (among v.element (v.terminator ∷ []))) _ d3 in (
        neither_left (eqb v.component v.element) (eqb v.component v.terminator || false) d1,
        neither_left (eqb v.component v.terminator) false (neither_right (eqb v.component v.element) (eqb v.component v.terminator || false) d1),
        neither_left (eqb v.element v.terminator) false d4,
      )

  pub comp_class : class_of v v.component ≡ Comp
  comp_class =
      let d = differ_by v.releases refl f.differ in
      sym (class_comp v v.component (eqb-false v.component v.terminator d.1) (eqb-false v.component v.element d.0) refl)

  pub elem_class : class_of v v.element ≡ Elem
  elem_class =
      let d = differ_by v.releases refl f.differ in
      sym (class_elem v v.element (eqb-false v.element v.terminator d.2) refl)

  release_by_lem : distinct (serving_by true v) ≡ true
      → (eqb v.component v.release ≡ false) × (eqb v.element v.release ≡ false) × (eqb v.release v.terminator ≡ false)
  unfolding distinct among
  release_by_lem d =
      let d1 = and_left (not (among v.component (v.element ∷ v.release ∷ v.terminator ∷ []))) _ d in
      let d2 = neither_right (eqb v.component v.element) (eqb v.component v.release || (eqb v.component v.terminator || false)) d1 in
      let d3 = and_right (not (among v.component (v.element ∷ v.release ∷ v.terminator ∷ []))) _ d in
      let d4 = and_left (not (among v.element (v.release ∷ v.terminator ∷ []))) _ d3 in
      let d5 = and_right (not (among v.element (v.release ∷ v.terminator ∷ []))) _ d3 in
      let d6 = and_left (not (among v.release (v.terminator ∷ []))) _ d5 in (
        neither_left (eqb v.component v.release) (eqb v.component v.terminator || false) d2,
        neither_left (eqb v.element v.release) (eqb v.element v.terminator || false) d4,
        neither_left (eqb v.release v.terminator) false d6,
      )

  pub rel_class : v.releases ≡ true → class_of v v.release ≡ Rel
  rel_class e =
      let d = release_by_lem (subst (λ (r : Bool). distinct (serving_by r v) ≡ true) e f.differ) in
      sym
      (class_rel v v.release (eqb-false v.release v.terminator d.2) (λ q. eqb-false v.element v.release d.1 (sym q))
      (λ q. eqb-false v.component v.release d.0 (sym q)) e refl)

-- ---- inside a segment
-- a byte that neither ends the segment nor releases the next
goes_by : (v : Service) (st i b : ℕ) (x : List ℕ) (t u y z w : Bool) → t ≡ false → (z ≡ true → w ≡ false)
    → let k : Class = if t Term (if u Elem (if y Comp (if z (if w Rel Plain) Plain))) in emit (ended k) st i (pieces v (mode k) st (suc i) x) ≡ pieces v inside st (suc i) x
goes_by v st i b x true u y z w p q = absurd (let n : ◌≡◌ {A = ℕ} 0 1 = cc in omega arith)
goes_by v st i b x false true y z w p q = refl
goes_by v st i b x false false true z w p q = refl
goes_by v st i b x false false false false w p q = refl
goes_by v st i b x false false false true true p q = absurd (let o = q refl in let n : ◌≡◌ {A = ℕ} 0 1 = cc in omega arith)
goes_by v st i b x false false false true false p q = refl

goes : (v : Service) (st i b : ℕ) (x : List ℕ) → (b ≡ v.terminator → ⊥) → (v.releases ≡ true → b ≡ v.release → ⊥) → pieces v inside st i (b ∷ x) ≡ pieces v inside st (suc i) x
unfolding pieces class_of
goes v st i b x n m =
    goes_by v st i b x (eqb b v.terminator) (eqb b v.element) (eqb b v.component) v.releases (eqb b v.release) (ne_eqb b v.terminator n) (λ q. ne_eqb b v.release (m q))

-- the letters U, N and A
pub letter_u : is_alphanumeric 85 ≡ true
unfolding is_alphanumeric
letter_u = refl

pub letter_n : is_alphanumeric 78 ≡ true
unfolding is_alphanumeric
letter_n = refl

pub letter_a : is_alphanumeric 65 ≡ true
unfolding is_alphanumeric
letter_a = refl

-- UNA and the bytes after it
module _ (v : Service) (f : Fits v) (c e m r p t : ℕ) (n : Names c e m r p t v) (x : List ℕ) where
  stays : (b : ℕ) (k : Class) → class_of v b ≡ k → mode k ≡ inside → ended k ≡ false → (i : ℕ) (y : List ℕ) → pieces v inside 0 i (b ∷ y) ≡ pieces v inside 0 (suc i) y
  unfolding pieces
  stays b k h g o i y = simp (h, g, o)

  ends_there : (i : ℕ) → pieces v inside 0 i (t ∷ x) ≡ finished 0 i ∷ pieces v gap 0 (suc i) x
  unfolding pieces
  ends_there i = let h : class_of v t ≡ Term = ap (class_of v) n.terminator ∙ term_class v f in simp h

  space_plain : class_of v 32 ≡ Plain
  space_plain = let h : 32 < 33 = omega arith in plain_outside v f 32 (inl h)

  space_is : class_of v p ≡ Plain
  space_is = ap (class_of v) n.space ∙ space_plain

  -- the release, which makes the space plain, or two spaces
  space_by : (k : Bool) → v.releases ≡ k → pieces v inside 0 6 (r ∷ p ∷ t ∷ x) ≡ finished 0 8 ∷ pieces v gap 0 9 x
  unfolding pieces
  space_by true q =
      let h : class_of v r ≡ Rel = ap (class_of v) n.release ∙ rel_class v f q in
      simp h (ends_there 8)
  space_by false q =
      let h : class_of v r ≡ Plain = ap (class_of v) (n.none q) ∙ space_plain in
      stays r Plain h refl refl 6 (p ∷ t ∷ x) ∙ stays p Plain space_is refl refl 7 (t ∷ x) ∙ ends_there 8

  begins : (y : List ℕ) → pieces v gap 0 0 (85 ∷ y) ≡ pieces v inside 0 1 y
  unfolding pieces
  begins y = simp (plain_letter v f 85 letter_u)

  pub una_list : pieces v gap 0 0 (85 ∷ 78 ∷ 65 ∷ c ∷ e ∷ m ∷ r ∷ p ∷ t ∷ x) ≡ finished 0 8 ∷ pieces v gap 0 9 x
  una_list =
      begins (78 ∷ 65 ∷ c ∷ e ∷ m ∷ r ∷ p ∷ t ∷ x)
      ∙ stays 78 Plain (plain_letter v f 78 letter_n) refl refl 1 (65 ∷ c ∷ e ∷ m ∷ r ∷ p ∷ t ∷ x)
      ∙ stays 65 Plain (plain_letter v f 65 letter_a) refl refl 2 (c ∷ e ∷ m ∷ r ∷ p ∷ t ∷ x)
      ∙ stays c Comp (ap (class_of v) n.component ∙ comp_class v f) refl refl 3 (e ∷ m ∷ r ∷ p ∷ t ∷ x)
      ∙ stays e Elem (ap (class_of v) n.element ∙ elem_class v f) refl refl 4 (m ∷ r ∷ p ∷ t ∷ x)
      ∙ goes v 0 5 m (r ∷ p ∷ t ∷ x) n.other n.apart
      ∙ space_by v.releases refl

-- an interchange that begins with UNA, read from its first byte: UNA as a segment, and what follows
pub una_segment : (s : List ℕ) (v : Service) → characters_of s ≡ Fit v 9 → segments_after v s 0 ≡ finished 0 8 ∷ segments_after v s 9
una_segment s v q =
    let d = named s v q in
    ap (pieces v gap 0 0) (nine s d.long ∙ rw (d.first, d.second, d.third) refl)
    ∙ una_list v (characters_fit s v 9 q).0 (get_or s 3 0) (get_or s 4 0) (get_or s 5 0) (get_or s 6 0) (get_or s 7 0) (get_or s 8 0) d.names (drop 9 s)
    ∙ ap (λ (l : List Piece). finished 0 8 ∷ l) (gap_start v 0 9 9 (drop 9 s))
