-- Values do not depend on how they are released, and no byte that a value may not have is lost. Assumes nothing.
use Prim.Native.Nat.{ℕ, suc, ◌-◌, ◌<◌}
use native.Mathlib.Omega.{arith}
use Rattle.std.proofs.Math.Path.{◌≡◌, refl, ap}
use Rattle.std.proofs.Common.{sym, ◌∙◌, subst, inl, inr, leb-false}
use Rattle.std.specs.Prelude.{◌⊎◌, Bool, not, ◌&&◌, ◌||◌, take, T, leb}
use mathlib.Core.List.{List, [], ◌∷◌, ◌++◌}
use Rattle.std.proofs.Math.Bool.{true, false}
use Rattle.service.specs.declared.Service.{Service}
use Rattle.service.specs.Service.{within, Fits}
use Rattle.service.specs.Tests.{is_empty}
use Rattle.segments.specs.declared.Class.{Class}
use Rattle.segments.specs.declared.Class.TheVariants.{Plain, Comp, Elem, Rel, Term}
use Rattle.std.specs.Prelude.{Some, None}
use Rattle.segments.specs.Classes.{class_of}
use Rattle.segments.specs.Forms.Bytes.{end_by, end_from}
use Rattle.segments.specs.Laws.PartLaws.{end_low}
use Rattle.segments.specs.Laws.FitLaws.{plain_outside}
use Rattle.parts.specs.Parts.{Tok, byte, comp, elem, lex, lex_by, elements, value_at, is_strange, keep, strange_by, strange_from}
use Rattle.parts.specs.Written.{Writes, none, as_is, behind, component, element, strange_of, strange_places, bytes_of}

-- ---- a released byte is that byte
module _ (v : Service) (r b : ℕ) (s : List ℕ) (c : class_of v r ≡ Rel) where
  pub released : lex v false (r ∷ b ∷ s) ≡ byte b ∷ lex v false s
  unfolding lex
  released = rw c

-- ---- bytes that write tokens
module _ (v : Service) (e : ℕ) (z : List ℕ) (c : class_of v e ≡ Term) where
  -- they are read as these tokens, up to the terminator
  pub writes_lex : (t : List Tok) (s : List ℕ) → Writes v t s → lex v false (s ++ e ∷ z) ≡ t
  unfolding lex
  writes_lex t s none = rw c
  writes_lex t s (as_is b u l p w) = rw p (ap (λ (x : List Tok). byte b ∷ x) (writes_lex u l w))
  writes_lex t s (behind r b u l p w) = rw p (ap (λ (x : List Tok). byte b ∷ x) (writes_lex u l w))
  writes_lex t s (component b u l p w) = rw p (ap (λ (x : List Tok). comp ∷ x) (writes_lex u l w))
  writes_lex t s (element b u l p w) = rw p (ap (λ (x : List Tok). elem ∷ x) (writes_lex u l w))

-- so two ways to release the same tokens, with the same or with other service characters, give the same values
pub same_values : (v v' : Service) (e e' : ℕ) (z z' : List ℕ) → class_of v e ≡ Term → class_of v' e' ≡ Term → (t : List Tok) (s s' : List ℕ) → Writes v t s → Writes v' t s'
    → (n c : ℕ) → value_at (elements (lex v false (s ++ e ∷ z))) n c ≡ value_at (elements (lex v' false (s' ++ e' ∷ z'))) n c
same_values v v' e e' z z' p p' t s s' w w' n c =
    ap (λ (x : List Tok). value_at (elements x) n c) (writes_lex v e z p t s w ∙ sym (writes_lex v' e' z' p' t s' w'))

-- ---- bytes that a value may not have
strange_by_lem : (b : ℕ) (x y : Bool) → leb 32 b ≡ x → leb b 126 ≡ y → (z : Bool) → not ((x && y) || z) ≡ true → (b < 33) ⊎ (126 < b)
strange_by_lem b true true p q z e = absurd (subst T (sym e) tt)
strange_by_lem b true false p q z e = inr (leb-false b 126 q)
strange_by_lem b false y p q z e = let h = leb-false 32 b p in inl (omega arith)

-- they are no service characters
pub strange_plain : (v : Service) → Fits v → (b : ℕ) → is_strange b ≡ true → class_of v b ≡ Plain
unfolding is_strange
strange_plain v f b e = plain_outside v f b (strange_by_lem b (leb 32 b) (leb b 126) refl refl (within 160 255 b) e)

module _ (v : Service) (f : Fits v) where
  -- a byte of another class is not strange
  usual : (b : ℕ) (k : Class) → k ≡ class_of v b → (Plain ≡ k → ⊥) → is_strange b ≡ false
  usual b k c n = go (is_strange b) refl
    where
      go : (x : Bool) → is_strange b ≡ x → is_strange b ≡ false
      go true e = absurd (n (sym (c ∙ strange_plain v f b e)))
      go false e = e

  usual_comp : (b : ℕ) → Comp ≡ class_of v b → is_strange b ≡ false
  usual_comp b c = usual b Comp c (λ (q : Plain ≡ Comp). let z : ◌≡◌ {A = ℕ} 0 1 = cc in omega arith)

  usual_elem : (b : ℕ) → Elem ≡ class_of v b → is_strange b ≡ false
  usual_elem b c = usual b Elem c (λ (q : Plain ≡ Elem). let z : ◌≡◌ {A = ℕ} 0 1 = cc in omega arith)

  usual_rel : (b : ℕ) → Rel ≡ class_of v b → is_strange b ≡ false
  usual_rel b c = usual b Rel c (λ (q : Plain ≡ Rel). let z : ◌≡◌ {A = ℕ} 0 1 = cc in omega arith)

  -- one byte further
  on : (r : Bool) (i b : ℕ) (l : List ℕ) (t : ℕ) (u : List ℕ) → end_from v r (suc i) l ≡ Some t → strange_places (suc i) (take (t - suc i) l) ≡ u
      → strange_places i (take (t - i) (b ∷ l)) ≡ keep (is_strange b) i u
  unfolding strange_places
  on r i b l t u e ih =
      let h = end_low v r (suc i) l t e in
      let n : t - i ≡ suc (t - suc i) = omega arith in
      rw n (ap (keep (is_strange b) i) ih)

  places_next : (i b : ℕ) (l : List ℕ) (t : ℕ)
      → ((q : Bool) → end_from v q (suc i) l ≡ Some t → strange_places (suc i) (take (t - suc i) l) ≡ strange_from v q (suc i) l) → (k : Class) → k ≡ class_of v b
      → end_by k i (end_from v true (suc i) l) (end_from v false (suc i) l) ≡ Some t
      → strange_places i (take (t - i) (b ∷ l)) ≡ strange_by k (keep (is_strange b) i (strange_from v false (suc i) l)) (strange_from v true (suc i) l) (strange_from v false (suc i) l)
  unfolding strange_places
  places_next i b l t ih Plain c e = on false i b l t (strange_from v false (suc i) l) e (ih false e)
  places_next i b l t ih Comp c e = on false i b l t (strange_from v false (suc i) l) e (ih false e) ∙ rw (usual_comp b c)
  places_next i b l t ih Elem c e = on false i b l t (strange_from v false (suc i) l) e (ih false e) ∙ rw (usual_elem b c)
  places_next i b l t ih Rel c e = on true i b l t (strange_from v true (suc i) l) e (ih true e) ∙ rw (usual_rel b c)
  places_next i b l t ih Term c e = let q : t - i ≡ 0 = let w : i ≡ t = cc in omega arith in rw q

  -- in a segment that ends at t, the bytes that a value may not have are value bytes: looking at all bytes finds the same places
  pub strange_places_lem : (r : Bool) (i : ℕ) (l : List ℕ) (t : ℕ) → end_from v r i l ≡ Some t → strange_places i (take (t - i) l) ≡ strange_from v r i l
  unfolding end_from strange_from strange_places
  strange_places_lem r i [] t e = absurd (let z : ◌≡◌ {A = ℕ} 0 1 = cc in omega arith)
  strange_places_lem true i (b ∷ l) t e = on false i b l t (strange_from v false (suc i) l) e (strange_places_lem false (suc i) l t e)
  strange_places_lem false i (b ∷ l) t e = places_next i b l t (λ (q : Bool) w. strange_places_lem q (suc i) l t w) (class_of v b) refl e

  open_by : (i b : ℕ) (l : List ℕ) → ((q : Bool) → end_from v q (suc i) l ≡ None → strange_places (suc i) l ≡ strange_from v q (suc i) l) → (k : Class) → k ≡ class_of v b
      → end_by k i (end_from v true (suc i) l) (end_from v false (suc i) l) ≡ None
      → keep (is_strange b) i (strange_places (suc i) l) ≡ strange_by k (keep (is_strange b) i (strange_from v false (suc i) l)) (strange_from v true (suc i) l) (strange_from v false (suc i) l)
  open_by i b l ih Plain c e = ap (keep (is_strange b) i) (ih false e)
  open_by i b l ih Comp c e = rw (usual_comp b c) (ih false e)
  open_by i b l ih Elem c e = rw (usual_elem b c) (ih false e)
  open_by i b l ih Rel c e = rw (usual_rel b c) (ih true e)
  open_by i b l ih Term c e = absurd (let z : ◌≡◌ {A = ℕ} 0 1 = cc in omega arith)

  -- and so in an unfinished segment
  pub strange_unfinished : (r : Bool) (i : ℕ) (l : List ℕ) → end_from v r i l ≡ None → strange_places i l ≡ strange_from v r i l
  unfolding end_from strange_from strange_places
  strange_unfinished r i [] e = refl
  strange_unfinished true i (b ∷ l) e = ap (keep (is_strange b) i) (strange_unfinished false (suc i) l e)
  strange_unfinished false i (b ∷ l) e = open_by i b l (λ (q : Bool) w. strange_unfinished q (suc i) l w) (class_of v b) refl e

-- ---- whether a segment has one depends on its values alone
nil_keep : (x : Bool) (i b : ℕ) (l m : List ℕ) → is_empty l ≡ is_empty m → is_empty (keep x i l) ≡ is_empty (keep x b m)
nil_keep true i b l m e = refl
nil_keep false i b l m e = e

nil_by : (v : Service) (i b : ℕ) (l : List ℕ) → ((q : Bool) → is_empty (strange_from v q (suc i) l) ≡ is_empty (strange_of (bytes_of (lex v q l)))) → (k : Class)
    → is_empty (strange_by k (keep (is_strange b) i (strange_from v false (suc i) l)) (strange_from v true (suc i) l) (strange_from v false (suc i) l))
    ≡ is_empty (strange_of (bytes_of (lex_by k b (lex v true l) (lex v false l))))
unfolding strange_of bytes_of
nil_by v i b l ih Plain = nil_keep (is_strange b) i b (strange_from v false (suc i) l) (strange_of (bytes_of (lex v false l))) (ih false)
nil_by v i b l ih Comp = ih false
nil_by v i b l ih Elem = ih false
nil_by v i b l ih Rel = ih true
nil_by v i b l ih Term = refl

pub strange_values : (v : Service) (r : Bool) (i : ℕ) (l : List ℕ) → is_empty (strange_from v r i l) ≡ is_empty (strange_of (bytes_of (lex v r l)))
unfolding strange_from lex bytes_of strange_of
strange_values v r i [] = refl
strange_values v true i (b ∷ l) = nil_keep (is_strange b) i b (strange_from v false (suc i) l) (strange_of (bytes_of (lex v false l))) (strange_values v false (suc i) l)
strange_values v false i (b ∷ l) = nil_by v i b l (λ (q : Bool). strange_values v q (suc i) l) (class_of v b)
