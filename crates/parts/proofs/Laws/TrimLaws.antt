-- Trailing empties dropped: no value changes, and nothing more is dropped the second time. Assumes nothing.
use Rattle.std.specs.Prelude.{ℕ, suc, zero, ◌≡◌, refl, List, [], ◌∷◌, map, false, get_or, drop}
use Rattle.std.proofs.Common.{sym, ◌∙◌, ap, ap₂}
use Rattle.service.specs.declared.Service.{Service}
use Rattle.segments.specs.declared.Piece.{Piece}
use Rattle.segments.specs.declared.Piece.TheVariants.{Finished as finished, Unfinished as unfinished}
use Rattle.parts.specs.Parts.{lex, elements, value_at}
use Rattle.parts.specs.Trimmed.{ahead, trim, Values, trimmed, values_in}

-- ---- the entry at a place is the same, empty where there is none
ahead_zero : {A : Type 0} (x : List A) (l : List (List A)) → get_or (ahead x l) 0 [] ≡ x
ahead_zero [] [] = refl
ahead_zero [] (y ∷ l) = refl
ahead_zero (a ∷ x) l = refl

ahead_suc : {A : Type 0} (x : List A) (l : List (List A)) (n : ℕ) → get_or (ahead x l) (suc n) [] ≡ get_or l n []
ahead_suc [] [] n = refl
ahead_suc [] (y ∷ l) n = refl
ahead_suc (a ∷ x) l n = refl

pub trim_at : {A : Type 0} (l : List (List A)) (n : ℕ) → get_or (trim l) n [] ≡ get_or l n []
unfolding trim
trim_at [] n = refl
trim_at (x ∷ l) zero = ahead_zero x (trim l)
trim_at (x ∷ l) (suc n) = ahead_suc x (trim l) n ∙ trim_at l n

map_trim_at : {A : Type 0} (l : List (List (List A))) (n : ℕ) → get_or (map trim l) n [] ≡ trim (get_or l n [])
unfolding trim
map_trim_at [] n = refl
map_trim_at (x ∷ l) zero = refl
map_trim_at (x ∷ l) (suc n) = map_trim_at l n

-- no value changes
pub trimmed_value : (es : Values) (e c : ℕ) → value_at (trimmed es) e c ≡ value_at es e c
unfolding value_at trimmed
trimmed_value es e c =
    ap (λ (x : List (List ℕ)). get_or x c []) (trim_at (map trim es) e ∙ map_trim_at es e)
    ∙ trim_at (get_or es e []) c

-- so segments with the same values, trailing empties aside, have the same value at every place
pub same_at : (x y : Values) → trimmed x ≡ trimmed y → (e c : ℕ) → value_at x e c ≡ value_at y e c
same_at x y q e c = sym (trimmed_value x e c) ∙ ap (λ (z : Values). value_at z e c) q ∙ trimmed_value y e c

-- ---- and the other way: the same value at every place is the same values, trailing empties aside
empty_trim : {A : Type 0} (l : List (List A)) → ((n : ℕ) → get_or l n [] ≡ []) → trim l ≡ []
unfolding trim
empty_trim [] f = refl
empty_trim (x ∷ l) f = ap₂ (λ y r. ahead y r) (f 0) (empty_trim l (λ (n : ℕ). f (suc n)))

trim_same : {A : Type 0} (l r : List (List A)) → ((n : ℕ) → get_or l n [] ≡ get_or r n []) → trim l ≡ trim r
unfolding trim
trim_same [] r f = sym (empty_trim r (λ (n : ℕ). sym (f n)))
trim_same (x ∷ l) [] f = empty_trim (x ∷ l) f
trim_same (x ∷ l) (y ∷ r) f = ap₂ (λ a b. ahead a b) (f 0) (trim_same l r (λ (n : ℕ). f (suc n)))

pub same_trimmed : (x y : Values) → ((e c : ℕ) → value_at x e c ≡ value_at y e c) → trimmed x ≡ trimmed y
unfolding value_at trimmed
same_trimmed x y f =
    trim_same (map trim x) (map trim y) (λ (e : ℕ). map_trim_at x e ∙ trim_same (get_or x e []) (get_or y e []) (f e) ∙ sym (map_trim_at y e))

-- ---- dropped once is dropped for good
ahead_kept : {A : Type 0} (x : List A) (l : List (List A)) → trim l ≡ l → trim (ahead x l) ≡ ahead x l
unfolding trim
ahead_kept [] [] e = refl
ahead_kept [] (y ∷ l) e = rw e
ahead_kept (a ∷ x) l e = rw e

pub trim_twice : {A : Type 0} (l : List (List A)) → trim (trim l) ≡ trim l
unfolding trim
trim_twice [] = refl
trim_twice (x ∷ l) = ahead_kept x (trim l) (trim_twice l)

-- the elements that are kept are trimmed, each by itself
map_ahead : {A : Type 0} (x : List (List A)) (l : List (List (List A))) → trim x ≡ x → map trim l ≡ l → map trim (ahead x l) ≡ ahead x l
unfolding trim
map_ahead [] [] p q = refl
map_ahead [] (y ∷ l) p q = rw q
map_ahead (a ∷ x) l p q = rw (p, q)

map_trim_twice : {A : Type 0} (l : List (List (List A))) → map trim (trim (map trim l)) ≡ trim (map trim l)
unfolding trim
map_trim_twice [] = refl
map_trim_twice (x ∷ l) = map_ahead (trim x) (trim (map trim l)) (trim_twice x) (map_trim_twice l)

pub trimmed_twice : (es : Values) → trimmed (trimmed es) ≡ trimmed es
unfolding trimmed
trimmed_twice es = ap trim (map_trim_twice es) ∙ trim_twice (map trim es)

-- ---- the values of segments are trimmed
pub values_trimmed : (v : Service) (s : List ℕ) (l : List Piece) → map trimmed (values_in v s l) ≡ values_in v s l
unfolding values_in
values_trimmed v s [] = refl
values_trimmed v s (finished a t ∷ l) = ap₂ (λ (x : Values) (y : List Values). x ∷ y) (trimmed_twice (elements (lex v false (drop a s)))) (values_trimmed v s l)
values_trimmed v s (unfinished a e ∷ l) = values_trimmed v s l
