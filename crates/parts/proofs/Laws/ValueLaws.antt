-- The value that a walk over the tokens finds is the value at that place of the segment's elements. Assumes nothing.
use Rattle.std.specs.Prelude.{ℕ, suc, zero, ◌≡◌, refl, List, [], ◌∷◌, get_or}
use Rattle.std.proofs.Common.{◌∙◌, ap}
use Rattle.parts.specs.Parts.{Tok, byte, comp, elem, value_of, elements, value_at, tag_in, on_first, on_value}
use Rattle.parts.specs.Forms.Lex.{elem_at, comp_at}

first_zero : (f : List (List ℕ) → List (List ℕ)) (es : List (List (List ℕ))) → get_or (on_first f es) 0 [] ≡ f (get_or es 0 [])
first_zero f [] = refl
first_zero f (x ∷ es) = refl

first_suc : (f : List (List ℕ) → List (List ℕ)) (es : List (List (List ℕ))) (e : ℕ) → get_or (on_first f es) (suc e) [] ≡ get_or es (suc e) []
first_suc f [] e = refl
first_suc f (x ∷ es) e = refl

value_zero : (b : ℕ) (xs : List (List ℕ)) → get_or (on_value b xs) 0 [] ≡ b ∷ get_or xs 0 []
value_zero b [] = refl
value_zero b (x ∷ xs) = refl

value_suc : (b : ℕ) (xs : List (List ℕ)) (c : ℕ) → get_or (on_value b xs) (suc c) [] ≡ get_or xs (suc c) []
value_suc b [] c = refl
value_suc b (x ∷ xs) c = refl

no_comp : (c : ℕ) → value_of (comp_at c []) ≡ []
unfolding comp_at value_of
no_comp zero = refl
no_comp (suc c) = refl

pub value_at_lem : (t : List Tok) (e c : ℕ) → value_of (comp_at c (elem_at e t)) ≡ value_at (elements t) e c
unfolding elements elem_at comp_at value_of value_at
value_at_lem [] zero zero = refl
value_at_lem [] zero (suc c) = refl
value_at_lem [] (suc e) c = no_comp c
value_at_lem (byte b ∷ t) zero zero = ap (λ (l : List ℕ). b ∷ l) (value_at_lem t zero zero) ∙ simp (first_zero, value_zero)
value_at_lem (byte b ∷ t) zero (suc c) = value_at_lem t zero (suc c) ∙ simp (first_zero, value_suc)
value_at_lem (byte b ∷ t) (suc e) c = value_at_lem t (suc e) c ∙ simp (first_suc)
value_at_lem (comp ∷ t) zero zero = simp (first_zero)
value_at_lem (comp ∷ t) zero (suc c) = value_at_lem t zero c ∙ simp (first_zero)
value_at_lem (comp ∷ t) (suc e) c = value_at_lem t (suc e) c ∙ simp (first_suc)
value_at_lem (elem ∷ t) zero zero = refl
value_at_lem (elem ∷ t) zero (suc c) = refl
value_at_lem (elem ∷ t) (suc e) c = value_at_lem t e c

-- what two steps, to the element and to its component, find
pub component_at : (x : List ℕ) (t u : List Tok) (e c : ℕ) → x ≡ value_of (comp_at c u) → u ≡ elem_at e t → x ≡ value_at (elements t) e c
component_at x t u e c p q = p ∙ ap (λ (w : List Tok). value_of (comp_at c w)) q ∙ value_at_lem t e c

-- the tag is the value that the segment begins with
pub tag_value : (t : List Tok) → value_of t ≡ tag_in (elements t)
unfolding elem_at comp_at
tag_value t = value_at_lem t 0 0
