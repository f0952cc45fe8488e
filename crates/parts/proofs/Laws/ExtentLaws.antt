-- A segment's tokens are those of its own bytes, and the tokens from an element on are those of the elements from there on. Assumes nothing.
use Rattle.std.specs.Prelude.{ℕ, suc, zero, ◌-◌, ◌≤◌, ◌<◌, Bool, length, take, drop}
use native.Mathlib.Omega.{arith}
use Rattle.std.proofs.Math.Path.{◌≡◌, refl}
use Rattle.std.proofs.Common.{sym, ◌∙◌, ap}
use mathlib.Core.List.{List, [], ◌∷◌}
use Rattle.std.proofs.Math.Bool.{true, false}
use Rattle.std.proofs.Math.Seq.{drop-nil}
use Rattle.service.specs.declared.Service.{Service}
use Rattle.segments.specs.declared.Class.{Class}
use Rattle.segments.specs.declared.Class.TheVariants.{Plain, Comp, Elem, Rel, Term}
use Rattle.std.specs.Prelude.{Some}
use Rattle.segments.specs.Classes.{class_of}
use Rattle.segments.specs.Forms.Bytes.{end_by, end_from}
use Rattle.segments.specs.Laws.PartLaws.{end_low}
use Rattle.parts.specs.Parts.{Tok, byte, comp, elem, lex, lex_by, elements, on_first, on_value}
use Rattle.parts.specs.Forms.Lex.{elem_at}

-- ---- the bytes from a segment's first to its terminator
module _ (v : Service) where
  -- one byte further
  on : (r q : Bool) (i b : ℕ) (l : List ℕ) (t : ℕ) (f : List Tok → List Tok) → end_from v q (suc i) l ≡ Some t → ((u : List ℕ) → lex v r (b ∷ u) ≡ f (lex v q u))
      → lex v q (take (t - suc i) l) ≡ lex v q l → lex v r (take (t - i) (b ∷ l)) ≡ f (lex v q l)
  on r q i b l t f e g ih =
      let h = end_low v q (suc i) l t e in
      let n : t - i ≡ suc (t - suc i) = omega arith in
      rw n (g (take (t - suc i) l) ∙ ap f ih)

  extent_by_lem : (i b : ℕ) (l : List ℕ) (t : ℕ) → ((q : Bool) → end_from v q (suc i) l ≡ Some t → lex v q (take (t - suc i) l) ≡ lex v q l) → (k : Class) → k ≡ class_of v b
      → end_by k i (end_from v true (suc i) l) (end_from v false (suc i) l) ≡ Some t → lex v false (take (t - i) (b ∷ l)) ≡ lex_by k b (lex v true l) (lex v false l)
  unfolding lex
  extent_by_lem i b l t ih Plain c e = on false false i b l t (λ (u : List Tok). byte b ∷ u) e (λ (u : List ℕ). rw (← c)) (ih false e)
  extent_by_lem i b l t ih Comp c e = on false false i b l t (λ (u : List Tok). comp ∷ u) e (λ (u : List ℕ). rw (← c)) (ih false e)
  extent_by_lem i b l t ih Elem c e = on false false i b l t (λ (u : List Tok). elem ∷ u) e (λ (u : List ℕ). rw (← c)) (ih false e)
  extent_by_lem i b l t ih Rel c e = on false true i b l t (λ (u : List Tok). u) e (λ (u : List ℕ). rw (← c)) (ih true e)
  extent_by_lem i b l t ih Term c e = let q : t - i ≡ 0 = let w : i ≡ t = cc in omega arith in rw q

  pub lex_extent : (r : Bool) (i : ℕ) (l : List ℕ) (t : ℕ) → end_from v r i l ≡ Some t → lex v r (take (t - i) l) ≡ lex v r l
  unfolding lex end_from
  lex_extent r i [] t e = absurd (let z : ◌≡◌ {A = ℕ} 0 1 = cc in omega arith)
  lex_extent true i (b ∷ l) t e = on true false i b l t (λ (u : List Tok). byte b ∷ u) e (λ (u : List ℕ). refl) (lex_extent false (suc i) l t e)
  lex_extent false i (b ∷ l) t e = extent_by_lem i b l t (λ (q : Bool) w. lex_extent q (suc i) l t w) (class_of v b) refl e

-- ---- elements
drop_first : (f : List (List ℕ) → List (List ℕ)) (es : List (List (List ℕ))) (e : ℕ) → drop (suc e) (on_first f es) ≡ drop (suc e) es
drop_first f [] e = drop-nil e
drop_first f (x ∷ es) e = refl

length_first : (f : List (List ℕ) → List (List ℕ)) (es : List (List (List ℕ))) → 0 < length es → length (on_first f es) ≡ length es
length_first f [] h = absurd (omega arith)
length_first f (x ∷ es) h = refl

some_first : (f : List (List ℕ) → List (List ℕ)) (es : List (List (List ℕ))) → 0 < length (on_first f es)
some_first f [] = omega arith
some_first f (x ∷ es) = omega arith

-- a segment has an element, the tag's own
pub elements_some : (t : List Tok) → 0 < length (elements t)
unfolding elements
elements_some [] = omega arith
elements_some (byte b ∷ t) = some_first (on_value b) (elements t)
elements_some (comp ∷ t) = some_first (λ xs. [] ∷ xs) (elements t)
elements_some (elem ∷ t) = omega arith

-- the tokens from element e on are those of the elements from e on
pub element_at : (t : List Tok) (e : ℕ) → e < length (elements t) → elements (elem_at e t) ≡ drop e (elements t)
unfolding elements elem_at
element_at t zero h = refl
element_at [] (suc e) h = absurd (omega arith)
element_at (byte b ∷ t) (suc e) h =
    let g = length_first (on_value b) (elements t) (elements_some t) in
    let k : suc e < length (elements t) = omega arith in
    element_at t (suc e) k ∙ sym (drop_first (on_value b) (elements t) e)
element_at (comp ∷ t) (suc e) h =
    let g = length_first (λ xs. [] ∷ xs) (elements t) (elements_some t) in
    let k : suc e < length (elements t) = omega arith in
    element_at t (suc e) k ∙ sym (drop_first (λ xs. [] ∷ xs) (elements t) e)
element_at (elem ∷ t) (suc e) h = let k : e < length (elements t) = omega arith in element_at t e k

-- and none where there is no such element
pub element_absent : (t : List Tok) (e : ℕ) → length (elements t) ≤ e → elem_at e t ≡ []
unfolding elements elem_at
element_absent t zero h = let w = elements_some t in absurd (omega arith)
element_absent [] (suc e) h = refl
element_absent (byte b ∷ t) (suc e) h =
    let g = length_first (on_value b) (elements t) (elements_some t) in
    let k : length (elements t) ≤ suc e = omega arith in
    element_absent t (suc e) k
element_absent (comp ∷ t) (suc e) h =
    let g = length_first (λ xs. [] ∷ xs) (elements t) (elements_some t) in
    let k : length (elements t) ≤ suc e = omega arith in
    element_absent t (suc e) k
element_absent (elem ∷ t) (suc e) h = let k : length (elements t) ≤ e = omega arith in element_absent t e k
