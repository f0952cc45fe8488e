-- `end_from` finds the first unreleased terminator, and `past_breaks` the end of the breaks. Assumes nothing.
use Rattle.std.specs.Prelude.{ℕ, suc, zero, ◌+◌, ◌-◌, ◌<◌, ◌≡◌, refl, List, [], ◌∷◌, Bool, true, false, length, get_or, take, T, eqb}
use Rattle.std.proofs.Common.{add-zero, add-suc, suc-add, arith, sym, ◌∙◌, ap, subst}
use Rattle.service.specs.declared.Service.{Service}
use Rattle.service.specs.Tests.{if}
use Rattle.segments.specs.declared.Class.{Class}
use Rattle.segments.specs.declared.Class.TheVariants.{Plain, Comp, Elem, Rel, Term}
use Rattle.std.specs.Prelude.{Some, None}
use Rattle.segments.specs.Classes.{class_of, is_break}
use Rattle.segments.specs.Forms.Bytes.{end_by, end_from, past_breaks}
use Rattle.segments.specs.Sync.{rel_by, rel_next, rel_after}
use Rattle.segments.specs.Laws.PartLaws.{end_low}
use Rattle.segments.specs.Ends.{EndsAt, BreaksTo}

-- ---- one byte further, and back
ends_here : (v : Service) (b : ℕ) (l : List ℕ) → Term ≡ class_of v b → EndsAt v false (b ∷ l) 0
unfolding rel_after
ends_here v b l c = record { within = omega arith; loose = refl; term = sym c; none = λ (j : ℕ) (h : j < 0). absurd (omega arith) }

ends_more : (v : Service) (r : Bool) (b : ℕ) (l : List ℕ) (k : ℕ) → (r ≡ false → class_of v b ≡ Term → ⊥) → EndsAt v (rel_next v r b) l k → EndsAt v r (b ∷ l) (suc k)
unfolding rel_after
ends_more v r b l k n f =
    let h = f.within in record {
      within = omega arith;
      loose = f.loose;
      term = f.term;
      none = go;
    }
  where
    go : (j : ℕ) → j < suc k → rel_after v r (take j (b ∷ l)) ≡ false → class_of v (get_or (b ∷ l) j 0) ≡ Term → ⊥
    go zero h e t = n e t
    go (suc j) h e t = let g : j < k = omega arith in f.none j g e t

ends_less : (v : Service) (r : Bool) (b : ℕ) (l : List ℕ) (k : ℕ) → EndsAt v r (b ∷ l) (suc k) → EndsAt v (rel_next v r b) l k
unfolding rel_after
ends_less v r b l k f =
    let h = f.within in record {
      within = omega arith;
      loose = f.loose;
      term = f.term;
      none = go;
    }
  where
    go : (j : ℕ) → j < k → rel_after v (rel_next v r b) (take j l) ≡ false → class_of v (get_or l j 0) ≡ Term → ⊥
    go j h e t = let g : suc j < suc k = omega arith in f.none (suc j) g e t

-- ---- what is found
further : (v : Service) (r q : Bool) (i b : ℕ) (l : List ℕ) (t : ℕ) → (r ≡ false → class_of v b ≡ Term → ⊥) → rel_next v r b ≡ q → end_from v q (suc i) l ≡ Some t → EndsAt v q l (t - suc i) → EndsAt v r (b ∷ l) (t - i)
further v r q i b l t n c e f =
    let h = end_low v q (suc i) l t e in
    let m : suc (t - suc i) ≡ t - i = omega arith in
    subst (EndsAt v r (b ∷ l)) m (ends_more v r b l (t - suc i) n (subst (λ (u : Bool). EndsAt v u l (t - suc i)) (sym c) f))

place_by : (v : Service) (i b : ℕ) (l : List ℕ) (t : ℕ) → ((q : Bool) → end_from v q (suc i) l ≡ Some t → EndsAt v q l (t - suc i))
    → (k : Class) → k ≡ class_of v b → end_by k i (end_from v true (suc i) l) (end_from v false (suc i) l) ≡ Some t → EndsAt v false (b ∷ l) (t - i)
place_by v i b l t ih Plain c e = further v false false i b l t (λ w u. let x : Plain ≡ Term = c ∙ u in let z : ◌≡◌ {A = ℕ} 0 1 = cc in omega arith) (ap rel_by (sym c)) e (ih false e)
place_by v i b l t ih Comp c e = further v false false i b l t (λ w u. let x : Comp ≡ Term = c ∙ u in let z : ◌≡◌ {A = ℕ} 0 1 = cc in omega arith) (ap rel_by (sym c)) e (ih false e)
place_by v i b l t ih Elem c e = further v false false i b l t (λ w u. let x : Elem ≡ Term = c ∙ u in let z : ◌≡◌ {A = ℕ} 0 1 = cc in omega arith) (ap rel_by (sym c)) e (ih false e)
place_by v i b l t ih Rel c e = further v false true i b l t (λ w u. let x : Rel ≡ Term = c ∙ u in let z : ◌≡◌ {A = ℕ} 0 1 = cc in omega arith) (ap rel_by (sym c)) e (ih true e)
place_by v i b l t ih Term c e =
    let w : i ≡ t = cc in
    let m : 0 ≡ t - i = omega arith in
    subst (EndsAt v false (b ∷ l)) m (ends_here v b l c)

pub end_place : (v : Service) (r : Bool) (i : ℕ) (l : List ℕ) (t : ℕ) → end_from v r i l ≡ Some t → EndsAt v r l (t - i)
unfolding end_from
end_place v r i [] t e = absurd (let z : ◌≡◌ {A = ℕ} 0 1 = cc in omega arith)
end_place v true i (b ∷ l) t e = further v true false i b l t (λ (w : true ≡ false) u. subst T w tt) refl e (end_place v false (suc i) l t e)
end_place v false i (b ∷ l) t e = place_by v i b l t (λ (q : Bool) w. end_place v q (suc i) l t w) (class_of v b) refl e

-- ---- what is there is found
found_by_lem : (v : Service) (i b : ℕ) (l : List ℕ) (k : ℕ) → ((q : Bool) → EndsAt v q l k → end_from v q (suc i) l ≡ Some (suc i + k))
    → (c : Class) → c ≡ class_of v b → EndsAt v false (b ∷ l) (suc k) → end_by c i (end_from v true (suc i) l) (end_from v false (suc i) l) ≡ Some (suc i + k)
unfolding rel_after
found_by_lem v i b l k ih Plain c f = ih false (subst (λ (u : Class). EndsAt v (rel_by u) l k) (sym c) (ends_less v false b l k f))
found_by_lem v i b l k ih Comp c f = ih false (subst (λ (u : Class). EndsAt v (rel_by u) l k) (sym c) (ends_less v false b l k f))
found_by_lem v i b l k ih Elem c f = ih false (subst (λ (u : Class). EndsAt v (rel_by u) l k) (sym c) (ends_less v false b l k f))
found_by_lem v i b l k ih Rel c f = ih true (subst (λ (u : Class). EndsAt v (rel_by u) l k) (sym c) (ends_less v false b l k f))
found_by_lem v i b l k ih Term c f = let h : 0 < suc k = omega arith in absurd (f.none 0 h refl (sym c))

pub place_end : (v : Service) (r : Bool) (i : ℕ) (l : List ℕ) (k : ℕ) → EndsAt v r l k → end_from v r i l ≡ Some (i + k)
unfolding end_from rel_after
place_end v r i [] k f = let h = f.within in absurd (omega arith)
place_end v true i (b ∷ l) zero f = absurd (subst T f.loose tt)
place_end v false i (b ∷ l) zero f = rw (f.term, add-zero)
place_end v true i (b ∷ l) (suc k) f = place_end v false (suc i) l k (ends_less v true b l k f) ∙ ap Some (suc-add i k ∙ sym (add-suc i k))
place_end v false i (b ∷ l) (suc k) f = found_by_lem v i b l k (λ (q : Bool) w. place_end v q (suc i) l k w) (class_of v b) refl f ∙ ap Some (suc-add i k ∙ sym (add-suc i k))

-- there is none exactly if the answer is `None`
pub end_no_place : (v : Service) (r : Bool) (i : ℕ) (l : List ℕ) → end_from v r i l ≡ None → (k : ℕ) → EndsAt v r l k → ⊥
end_no_place v r i l e k f = let q = sym e ∙ place_end v r i l k f in let z : ◌≡◌ {A = ℕ} 0 1 = cc in omega arith

-- ---- breaks
breaks_more : (b : ℕ) (l : List ℕ) (k : ℕ) → is_break b ≡ true → BreaksTo l k → BreaksTo (b ∷ l) (suc k)
breaks_more b l k e f = let h = f.within in record { within = omega arith; breaks = go; other = λ (g : suc k < length (b ∷ l)). let w : k < length l = omega arith in f.other w }
  where
    go : (j : ℕ) → j < suc k → is_break (get_or (b ∷ l) j 0) ≡ true
    go zero h = e
    go (suc j) h = let g : j < k = omega arith in f.breaks j g

breaks_here : (b : ℕ) (l : List ℕ) → is_break b ≡ false → BreaksTo (b ∷ l) 0
breaks_here b l e = record { within = omega arith; breaks = λ (j : ℕ) (h : j < 0). absurd (omega arith); other = λ h. e }

breaks_by : (i b : ℕ) (l : List ℕ) (k : ℕ) → past_breaks (suc i) l ≡ suc i + k → BreaksTo l k → (t u : Bool) → eqb b 13 ≡ t → eqb b 10 ≡ u
    → (n : ℕ) × (if t (past_breaks (suc i) l) (if u (past_breaks (suc i) l) i) ≡ i + n) × BreaksTo (b ∷ l) n
breaks_by i b l k e f true u p q = (suc k, e ∙ suc-add i k ∙ sym (add-suc i k), breaks_more b l k (rw p) f)
breaks_by i b l k e f false true p q = (suc k, e ∙ suc-add i k ∙ sym (add-suc i k), breaks_more b l k (rw (p, q)) f)
breaks_by i b l k e f false false p q = (0, sym (add-zero i), breaks_here b l (rw (p, q)))

-- past as many breaks as the bytes begin with
pub breaks_place : (i : ℕ) (l : List ℕ) → (k : ℕ) × (past_breaks i l ≡ i + k) × BreaksTo l k
unfolding past_breaks
breaks_place i [] = (0, sym (add-zero i), record { within = omega arith; breaks = λ (j : ℕ) (h : j < 0). absurd (omega arith); other = λ (h : 0 < 0). absurd (omega arith) })
breaks_place i (b ∷ l) = let w = breaks_place (suc i) l in breaks_by i b l w.0 w.1 w.2 (eqb b 13) (eqb b 10) refl refl
