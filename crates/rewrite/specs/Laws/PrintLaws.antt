-- Plain bytes write the tokens of the values, and these tokens are read as the values. Assumes nothing.
use Rattle.std.specs.Prelude.{ℕ, ◌≡◌, refl, Bool, true, false, ◌||◌, T, eqb}
use Rattle.std.proofs.Common.{arith, sym, ◌∙◌, ap, subst, ⊎_elim}
use mathlib.Core.List.{List, [], ◌∷◌, ◌++◌, map, append_assoc}
use Rattle.service.specs.declared.Service.{Service}
use Rattle.service.specs.Service.{plain_service, among}
use Rattle.service.specs.Tests.{if}
use Rattle.segments.specs.declared.Class.{Class}
use Rattle.segments.specs.declared.Class.TheVariants.{Plain, Comp, Elem, Rel, Term}
use Rattle.segments.specs.Classes.{class_of, is_break}
use Rattle.segments.specs.Laws.ResyncLaws.{break_is}
use Rattle.parts.specs.Parts.{Tok, byte, comp, elem, elements, on_first, on_value}
use Rattle.parts.specs.Written.{Writes, none, as_is, component, element}
use Rattle.parts.specs.Written as written
use Rattle.parts.specs.Trimmed.{trim, Values, trimmed}
use Rattle.rewrite.specs.Plain.{is_released, plain_byte, plain_value, behind, joined, plain_element, plain_elements, begun, plain_segment}

-- ---- the tokens of values
abbrev pub element_tokens : List (List ℕ) → List Tok
element_tokens xs = joined comp (map (map byte) xs)

unfoldable pub tokens_of : Values → List Tok
tokens_of es = joined elem (map element_tokens es)

-- ---- classes of the default characters
class_by : (c e r t : Bool) → c || (e || (r || (t || false))) ≡ false → if t Term (if e Elem (if c Comp (if r Rel Plain))) ≡ Plain
class_by true e r t q = absurd (subst T q tt)
class_by false true r t q = absurd (subst T q tt)
class_by false false true t q = absurd (subst T q tt)
class_by false false false true q = absurd (subst T q tt)
class_by false false false false q = refl

plain_class : (b : ℕ) → is_released b ≡ false → class_of plain_service b ≡ Plain
unfolding class_of is_released among
plain_class b q = class_by (eqb b 58) (eqb b 43) (eqb b 63) (eqb b 39) q

pub comp_plain : class_of plain_service 58 ≡ Comp
unfolding class_of
comp_plain = refl

pub elem_plain : class_of plain_service 43 ≡ Elem
unfolding class_of
elem_plain = refl

pub rel_plain : class_of plain_service 63 ≡ Rel
unfolding class_of
rel_plain = refl

pub term_plain : class_of plain_service 39 ≡ Term
unfolding class_of
term_plain = refl

cr_plain : class_of plain_service 13 ≡ Plain
unfolding class_of
cr_plain = refl

lf_plain : class_of plain_service 10 ≡ Plain
unfolding class_of
lf_plain = refl

pub break_plain : (b : ℕ) → is_break b ≡ true → class_of plain_service b ≡ Plain
break_plain b q =
    ⊎_elim (λ (e : b ≡ 13). ap (class_of plain_service) e ∙ cr_plain) (λ (e : b ≡ 10). ap (class_of plain_service) e ∙ lf_plain)
    (break_is b (eqb b 13) (eqb b 10) refl refl q)

-- ---- plain bytes write the tokens
module _ (v : Service) where
  pub writes_append : (t : List Tok) (s : List ℕ) (u : List Tok) (r : List ℕ) → Writes v t s → Writes v u r → Writes v (t ++ u) (s ++ r)
  writes_append t s u r none x = x
  writes_append t s u r (as_is b t' s' c w) x = as_is b (t' ++ u) (s' ++ r) c (writes_append t' s' u r w x)
  writes_append t s u r (written.behind k b t' s' c w) x = written.behind k b (t' ++ u) (s' ++ r) c (writes_append t' s' u r w x)
  writes_append t s u r (component b t' s' c w) x = component b (t' ++ u) (s' ++ r) c (writes_append t' s' u r w x)
  writes_append t s u r (element b t' s' c w) x = element b (t' ++ u) (s' ++ r) c (writes_append t' s' u r w x)

  -- lists of texts that write lists of tokens, with a separator that writes its token
  module _ {A : Type 0} (f : A → List Tok) (g : A → List ℕ) (each : (x : A) → Writes v (f x) (g x)) (t : Tok) (k : ℕ)
      (sep : (u : List Tok) (r : List ℕ) → Writes v u r → Writes v (t ∷ u) (k ∷ r)) where
    writes_behind : (l : List A) → Writes v (behind t (map f l)) (behind k (map g l))
    unfolding behind
    writes_behind [] = none
    writes_behind (x ∷ l) = sep _ _ (writes_append _ _ _ _ (each x) (writes_behind l))

    writes_joined : (l : List A) → Writes v (joined t (map f l)) (joined k (map g l))
    writes_joined [] = none
    writes_joined (x ∷ l) = writes_append _ _ _ _ (each x) (writes_behind l)

writes_byte : (b : ℕ) (t : List Tok) (s : List ℕ) → Writes plain_service t s → Writes plain_service (byte b ∷ t) (plain_byte b ++ s)
unfolding plain_byte
writes_byte b t s w = go (is_released b) refl
  where
    go : (x : Bool) → is_released b ≡ x → Writes plain_service (byte b ∷ t) (if x (63 ∷ b ∷ []) (b ∷ []) ++ s)
    go true q = written.behind 63 b t s rel_plain w
    go false q = as_is b t s (plain_class b q) w

writes_value : (x : List ℕ) → Writes plain_service (map byte x) (plain_value x)
unfolding plain_value
writes_value [] = none
writes_value (b ∷ x) = writes_byte b (map byte x) (plain_value x) (writes_value x)

writes_element : (xs : List (List ℕ)) → Writes plain_service (element_tokens xs) (plain_element xs)
unfolding plain_element
writes_element = writes_joined plain_service (map byte) plain_value writes_value comp 58 (λ (u : List Tok) (r : List ℕ) w. component 58 u r comp_plain w)

writes_elements : (es : Values) → Writes plain_service (tokens_of es) (plain_elements es)
unfolding plain_elements tokens_of
writes_elements = writes_joined plain_service element_tokens plain_element writes_element elem 43 (λ (u : List Tok) (r : List ℕ) w. element 43 u r elem_plain w)

-- a break that begins the segment may be released
not_both : (b : ℕ) (k : Class) → class_of plain_service b ≡ k → (Plain ≡ k → ⊥) → is_break b ≡ true → ⊥
not_both b k c n q = n (sym (break_plain b q) ∙ c)

begun_by : (b : ℕ) (t : List Tok) (s : List ℕ) → Writes plain_service t (b ∷ s) → (is_break b ≡ true → Writes plain_service t (63 ∷ b ∷ s)) → Writes plain_service t (begun (b ∷ s))
begun_by b t s w f = go (is_break b) refl
  where
    go : (x : Bool) → is_break b ≡ x → Writes plain_service t (if x (63 ∷ b ∷ s) (b ∷ s))
    go true q = f q
    go false q = w

writes_begun : (t : List Tok) (s : List ℕ) → Writes plain_service t s → Writes plain_service t (begun s)
writes_begun t s none = none
writes_begun t s (as_is b t' s' c w) = begun_by b (byte b ∷ t') s' (as_is b t' s' c w) (λ q. written.behind 63 b t' s' rel_plain w)
writes_begun t s (written.behind k b t' s' c w) =
    begun_by k (byte b ∷ t') (b ∷ s') (written.behind k b t' s' c w)
    (λ q. absurd (not_both k Rel c (λ (e : Plain ≡ Rel). let z : ◌≡◌ {A = ℕ} 0 1 = cc in omega arith) q))
writes_begun t s (component b t' s' c w) =
    begun_by b (comp ∷ t') s' (component b t' s' c w) (λ q. absurd (not_both b Comp c (λ (e : Plain ≡ Comp). let z : ◌≡◌ {A = ℕ} 0 1 = cc in omega arith) q))
writes_begun t s (element b t' s' c w) =
    begun_by b (elem ∷ t') s' (element b t' s' c w) (λ q. absurd (not_both b Elem c (λ (e : Plain ≡ Elem). let z : ◌≡◌ {A = ℕ} 0 1 = cc in omega arith) q))

pub writes_segment : (es : Values) → Writes plain_service (tokens_of es) (plain_segment es)
unfolding plain_segment
writes_segment es = writes_begun (tokens_of es) (plain_elements es) (writes_elements es)

-- ---- the tokens are read as the values
-- an element of no component is read as one of an empty one
abbrev some : List (List ℕ) → List (List ℕ)
some [] = [] ∷ []
some (x ∷ xs) = x ∷ xs

elements_bytes : (x : List ℕ) (t : List Tok) (ys : List (List ℕ)) (es : Values) → elements t ≡ ([] ∷ ys) ∷ es → elements (map byte x ++ t) ≡ (x ∷ ys) ∷ es
unfolding elements
elements_bytes [] t ys es q = q
elements_bytes (b ∷ x) t ys es q = ap (on_first (on_value b)) (elements_bytes x t ys es q)

elements_comps : (xs : List (List ℕ)) (t : List Tok) (es : Values) → elements t ≡ ([] ∷ []) ∷ es → elements (behind comp (map (map byte) xs) ++ t) ≡ ([] ∷ xs) ∷ es
unfolding elements behind
elements_comps [] t es q = q
elements_comps (x ∷ xs) t es q =
    ap (on_first (λ ys. [] ∷ ys))
    (ap elements (append_assoc (map byte x) (behind comp (map (map byte) xs)) t)
    ∙ elements_bytes x (behind comp (map (map byte) xs) ++ t) xs es (elements_comps xs t es q))

elements_element : (xs : List (List ℕ)) (t : List Tok) (es : Values) → elements t ≡ ([] ∷ []) ∷ es → elements (element_tokens xs ++ t) ≡ some xs ∷ es
elements_element [] t es q = q
elements_element (x ∷ xs) t es q =
    ap elements (append_assoc (map byte x) (behind comp (map (map byte) xs)) t)
    ∙ elements_bytes x (behind comp (map (map byte) xs) ++ t) xs es (elements_comps xs t es q)

elements_behind : (es : Values) → elements (behind elem (map element_tokens es)) ≡ ([] ∷ []) ∷ map some es
unfolding elements behind
elements_behind [] = refl
elements_behind (y ∷ es) = ap (λ (l : Values). ([] ∷ []) ∷ l) (elements_element y (behind elem (map element_tokens es)) (map some es) (elements_behind es))

trim_some : (xs : List (List ℕ)) → trim (some xs) ≡ trim xs
unfolding trim
trim_some [] = refl
trim_some (x ∷ xs) = refl

map_some : (es : Values) → map trim (map some es) ≡ map trim es
map_some [] = refl
map_some (y ∷ es) = rw (trim_some y, map_some es)

pub tokens_values : (es : Values) → trimmed (elements (tokens_of es)) ≡ trimmed es
unfolding tokens_of trimmed elements trim
tokens_values [] = refl
tokens_values (y ∷ es) =
    ap (λ (l : Values). trim (map trim l)) (elements_element y (behind elem (map element_tokens es)) (map some es) (elements_behind es))
    ∙ ap trim (map_some (y ∷ es))
