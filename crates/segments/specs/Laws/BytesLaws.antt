-- One turn of each scan of `Bytes`, at a position of a list. Each premise is a fact that a loop's proof has at hand, so that it can be looked up there. Assumes nothing.
use Rattle.std.specs.Prelude.{ℕ, suc, ◌+◌, ◌≤◌, ◌<◌, ◌≡◌, List, [], ◌∷◌, Bool, true, false, eqb, length, get_or, drop}
use Rattle.std.proofs.Math.Numerals.{add-one}
use Rattle.std.proofs.Common.{arith, ◌∙◌, ap, drop_of_length-le, drop-drop}
use Rattle.std.proofs.Math.Path.{refl, sym}
use borrow.Author.Tests.{eq-eqb, ne_eqb, eqb-true, eqb-false}
use Rattle.std.proofs.Math.Seq.{drop-cons}
use Rattle.service.specs.declared.Service.{Service}
use Rattle.service.specs.Tests.{if}
use Rattle.segments.specs.declared.Class.{Class}
use Rattle.segments.specs.declared.Class.TheVariants.{Plain, Comp, Elem, Rel, Term}
use Rattle.std.specs.Prelude.{Option}
use Rattle.std.specs.Prelude.{Some, None}
use Rattle.segments.specs.Classes.{class_of, is_break}
use Rattle.segments.specs.Forms.Bytes.{end_by, end_from, release_by, release_of, past_breaks}

-- what an unreleased byte is, by the tests in the order of `class_of`
module _ (v : Service) (b : ℕ) where
  pub class_term : b ≡ v.terminator → Term ≡ class_of v b
  unfolding class_of
  class_term e = simp (eq-eqb _ _ e)

  module _ (t : b ≡ v.terminator → ⊥) where
    pub class_elem : b ≡ v.element → Elem ≡ class_of v b
    unfolding class_of
    class_elem e = simp (ne_eqb _ _ t, eq-eqb _ _ e)

    module _ (l : b ≡ v.element → ⊥) where
      pub class_comp : b ≡ v.component → Comp ≡ class_of v b
      unfolding class_of
      class_comp e = simp (ne_eqb _ _ t, ne_eqb _ _ l, eq-eqb _ _ e)

      module _ (p : b ≡ v.component → ⊥) where
        pub class_rel : v.releases ≡ true → b ≡ v.release → Rel ≡ class_of v b
        unfolding class_of
        class_rel o e = simp (ne_eqb _ _ t, ne_eqb _ _ l, ne_eqb _ _ p, o, eq-eqb _ _ e)

        pub class_plain : v.releases ≡ true → (b ≡ v.release → ⊥) → Plain ≡ class_of v b
        unfolding class_of
        class_plain o e = simp (ne_eqb _ _ t, ne_eqb _ _ l, ne_eqb _ _ p, o, ne_eqb _ _ e)

        pub class_plain' : v.releases ≡ false → Plain ≡ class_of v b
        unfolding class_of
        class_plain' o = simp (ne_eqb _ _ t, ne_eqb _ _ l, ne_eqb _ _ p, o)

-- what an unreleased byte is, by the one byte that it must equal to be a release
module _ (v : Service) (b : ℕ) where
  term_by : (t l p o e : Bool) → eqb b v.terminator ≡ t → if t Term (if l Elem (if p Comp (if o (if e Rel Plain) Plain))) ≡ Term → b ≡ v.terminator
  term_by true l p o e q w = eqb-true _ _ q
  term_by false true p o e q w = absurd (let z : ◌≡◌ {A = ℕ} 0 1 = cc in omega arith)
  term_by false false true o e q w = absurd (let z : ◌≡◌ {A = ℕ} 0 1 = cc in omega arith)
  term_by false false false true true q w = absurd (let z : ◌≡◌ {A = ℕ} 0 1 = cc in omega arith)
  term_by false false false true false q w = absurd (let z : ◌≡◌ {A = ℕ} 0 1 = cc in omega arith)
  term_by false false false false e q w = absurd (let z : ◌≡◌ {A = ℕ} 0 1 = cc in omega arith)

  rel_by_lem : (t l p o e : Bool) → eqb b v.release ≡ e → if t Term (if l Elem (if p Comp (if o (if e Rel Plain) Plain))) ≡ Rel → b ≡ v.release
  rel_by_lem true l p o e q w = absurd (let z : ◌≡◌ {A = ℕ} 0 1 = cc in omega arith)
  rel_by_lem false true p o e q w = absurd (let z : ◌≡◌ {A = ℕ} 0 1 = cc in omega arith)
  rel_by_lem false false true o e q w = absurd (let z : ◌≡◌ {A = ℕ} 0 1 = cc in omega arith)
  rel_by_lem false false false true true q w = eqb-true _ _ q
  rel_by_lem false false false true false q w = absurd (let z : ◌≡◌ {A = ℕ} 0 1 = cc in omega arith)
  rel_by_lem false false false false e q w = absurd (let z : ◌≡◌ {A = ℕ} 0 1 = cc in omega arith)

  pub term_of : class_of v b ≡ Term → b ≡ v.terminator
  unfolding class_of
  term_of w = term_by (eqb b v.terminator) (eqb b v.element) (eqb b v.component) v.releases (eqb b v.release) refl w

  pub rel_of : class_of v b ≡ Rel → b ≡ v.release
  unfolding class_of
  rel_of w = rel_by_lem (eqb b v.terminator) (eqb b v.element) (eqb b v.component) v.releases (eqb b v.release) refl w

  pub release_is : class_of v b ≡ Rel → b ≡ release_of v
  unfolding release_of
  release_is w = let e = rel_of w in let c : class_of v v.release ≡ Rel = cc in rw c e

  module _ (t : b ≡ v.terminator → ⊥) where
    is_by : (k : Class) → k ≡ class_of v v.release → b ≡ release_by k v → Rel ≡ class_of v b
    is_by Plain c e = absurd (t e)
    is_by Comp c e = absurd (t e)
    is_by Elem c e = absurd (t e)
    is_by Rel c e = rw e c
    is_by Term c e = absurd (t e)

    pub is_release : b ≡ release_of v → Rel ≡ class_of v b
    unfolding release_of
    is_release e = is_by (class_of v v.release) refl e

    pub goes_on : (b ≡ release_of v → ⊥) → (k : Class) → k ≡ class_of v b → (i : ℕ) (x y : Option ℕ) → end_by k i x y ≡ y
    goes_on n Plain c i x y = refl
    goes_on n Comp c i x y = refl
    goes_on n Elem c i x y = refl
    goes_on n Rel c i x y = absurd (n (release_is (sym c)))
    goes_on n Term c i x y = absurd (t (term_of (sym c)))

-- a byte after a release is passed over, if there is one
held_by_lem : (v : Service) (i : ℕ) (l : List ℕ) → end_from v true i l ≡ end_from v false (suc i) (drop 1 l)
unfolding end_from
held_by_lem v i [] = refl
held_by_lem v i (b ∷ l) = refl

past_held : (v : Service) (i : ℕ) (s : List ℕ) → end_from v true i (drop i s) ≡ end_from v false (i + 1) (drop (i + 1) s)
past_held v i s = held_by_lem v i (drop i s) ∙ rw (drop-drop 1 i s, add-one)

-- the end of a segment, from a byte that is released or not
module _ (x : Option ℕ) (v : Service) (s : List ℕ) (i : ℕ) (r : Bool) (inv : x ≡ end_from v r i (drop i s)) where
  pub end_none : length s ≤ i → None ≡ x
  unfolding end_from
  end_none h = sym (inv ∙ rw (drop_of_length-le s h))

  pub end_held : i < length s → r ≡ true → x ≡ end_from v false (i + 1) (drop (i + 1) s)
  end_held h e = inv ∙ rw e (past_held v i s)

  module _ (h : i < length s) (z : r ≡ false) where
    end_by_lem : (k : Class) → k ≡ class_of v (get_or s i 0) → x ≡ end_by k i (end_from v true (i + 1) (drop (i + 1) s)) (end_from v false (i + 1) (drop (i + 1) s))
    unfolding end_from
    end_by_lem k c = inv ∙ rw (z, c, add-one, drop-cons s i 0 h)

    pub end_term : get_or s i 0 ≡ v.terminator → Some i ≡ x
    end_term e = sym (end_by_lem Term (class_term v _ e))

    module _ (t : get_or s i 0 ≡ v.terminator → ⊥) (q : ℕ) (c : q ≡ release_of v) where
      on_by : (u : Bool) → eqb (get_or s i 0) q ≡ u → x ≡ end_from v u (i + 1) (drop (i + 1) s)
      on_by true e = end_by_lem Rel (is_release v _ t (eqb-true _ _ e ∙ c))
      on_by false e = end_by_lem (class_of v (get_or s i 0)) refl ∙ goes_on v _ t (λ w. eqb-false _ _ e (w ∙ sym c)) _ refl _ _ _

      pub end_on : x ≡ end_from v (eqb (get_or s i 0) q) (i + 1) (drop (i + 1) s)
      end_on = on_by (eqb (get_or s i 0) q) refl

-- breaks
module _ (x : ℕ) (s : List ℕ) (i : ℕ) (inv : x ≡ past_breaks i (drop i s)) where
  pub breaks_none : length s ≤ i → i ≡ x
  unfolding past_breaks
  breaks_none h = sym (inv ∙ rw (drop_of_length-le s h))

  module _ (h : i < length s) (k : Bool) (c : k ≡ is_break (get_or s i 0)) where
    breaks_by : x ≡ if k (past_breaks (i + 1) (drop (i + 1) s)) i
    unfolding past_breaks
    breaks_by = inv ∙ rw (add-one, drop-cons s i 0 h) (by_if (eqb (get_or s i 0) 13) (eqb (get_or s i 0) 10) _) ∙ ap (λ (b : Bool). if b (past_breaks (i + 1) (drop (i + 1) s)) i) (sym c)
      where
        by_if : (a b : Bool) (y : ℕ) → if a y (if b y i) ≡ if (if a true b) y i
        by_if true b y = refl
        by_if false b y = refl

    pub breaks_on : k ≡ true → x ≡ past_breaks (i + 1) (drop (i + 1) s)
    breaks_on e = breaks_by ∙ rw e

    pub breaks_end : k ≡ false → i ≡ x
    breaks_end e = sym (breaks_by ∙ rw e)
