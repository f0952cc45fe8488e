-- Plain bytes token by token are the plain bytes of the values. Assumes nothing.
use Rattle.std.specs.Prelude.{ℕ, suc, zero, ◌≡◌, refl, ◌⊎◌, List, [], ◌∷◌, ◌++◌, map, Bool, true, false, ◌&&◌, replicate, T, eqb}
use Rattle.std.proofs.Common.{sym, ◌∙◌, ap, subst, ⊎_elim, append_assoc}
use Rattle.service.specs.Service.{among}
use Rattle.service.specs.Tests.{if, is_empty}
use Rattle.segments.specs.Classes.{is_break}
use Rattle.segments.specs.Laws.ResyncLaws.{break_is}
use Rattle.parts.specs.Parts.{Tok, byte, comp, elem, elements, on_first, on_value}
use Rattle.parts.specs.Trimmed.{ahead, trim, Values, trimmed}
use Rattle.rewrite.specs.Plain.{is_released, plain_byte, plain_value, behind, plain_element, plain_elements, begun, plain_segment}
use Rattle.rewrite.specs.Forms.Flat.{flat, leads, lead}

ahead_nil : {A : Type 0} (x : List A) (l : List (List A)) → is_empty (ahead x l) ≡ is_empty x && is_empty l
ahead_nil [] [] = refl
ahead_nil [] (y ∷ l) = refl
ahead_nil (a ∷ x) l = refl

-- whether tokens begin with an element without values; whether they have no value at all
unfoldable blank : List Tok → Bool
blank [] = true
blank (byte b ∷ t) = false
blank (comp ∷ t) = blank t
blank (elem ∷ t) = true

unfoldable void : List Tok → Bool
void [] = true
void (byte b ∷ t) = false
void (comp ∷ t) = void t
void (elem ∷ t) = void t

-- the plain bytes of tokens: a separator stands where a value follows, a component separator where one follows in its element
unfoldable spread : List Tok → List ℕ
spread [] = []
spread (byte b ∷ t) = plain_byte b ++ spread t
spread (comp ∷ t) = if (blank t) (spread t) (58 ∷ spread t)
spread (elem ∷ t) = if (void t) (spread t) (43 ∷ spread t)

-- ---- the values that tokens are read as
element_by : (x : List ℕ) (l : List (List ℕ)) → plain_element (ahead x l) ≡ plain_value x ++ behind 58 (map plain_value l)
unfolding plain_element plain_value behind
element_by [] [] = refl
element_by [] (y ∷ l) = refl
element_by (a ∷ x) l = refl

elements_by : (y : List (List ℕ)) (l : Values) → plain_elements (ahead y l) ≡ plain_element y ++ behind 43 (map plain_element l)
unfolding plain_elements plain_element behind
elements_by [] [] = refl
elements_by [] (z ∷ l) = refl
elements_by (a ∷ y) l = refl

-- a separator before them, unless nothing is left
comps_by : (x : List ℕ) (l : List (List ℕ)) (r : List ℕ) (n : Bool) → n ≡ is_empty (ahead x l)
    → behind 58 (map plain_value (ahead x l)) ++ r ≡ if n (plain_value x ++ (behind 58 (map plain_value l) ++ r)) (58 ∷ (plain_value x ++ (behind 58 (map plain_value l) ++ r)))
unfolding plain_value behind
comps_by [] [] r n q = rw q
comps_by [] (y ∷ l) r n q = rw q
comps_by (a ∷ x) l r n q = rw q (ap (λ (z : List ℕ). 58 ∷ z) (append_assoc (plain_value (a ∷ x)) (behind 58 (map plain_value l)) r))

elems_by : (y : List (List ℕ)) (l : Values) (n : Bool) → n ≡ is_empty (ahead y l)
    → behind 43 (map plain_element (ahead y l)) ≡ if n (plain_element y ++ behind 43 (map plain_element l)) (43 ∷ (plain_element y ++ behind 43 (map plain_element l)))
unfolding plain_element behind
elems_by [] [] n q = rw q
elems_by [] (z ∷ l) n q = rw q
elems_by (a ∷ y) l n q = rw q

record Shape (t : List Tok) : Type 0 where
  x : List ℕ
  xs : List (List ℕ)
  es : Values
  is : elements t ≡ (x ∷ xs) ∷ es
  text : plain_value x ++ (behind 58 (map plain_value (trim xs)) ++ behind 43 (map plain_element (trim (map trim es)))) ≡ spread t
  blanks : blank t ≡ is_empty (ahead x (trim xs))
  voids : void t ≡ is_empty (ahead (ahead x (trim xs)) (trim (map trim es)))

shape_byte : (b : ℕ) (t : List Tok) → Shape t → Shape (byte b ∷ t)
unfolding elements plain_value spread blank void
shape_byte b t w = record {
  x = b ∷ w.x;
  xs = w.xs;
  es = w.es;
  is = ap (on_first (on_value b)) w.is;
  text = append_assoc (plain_byte b) (plain_value w.x) (behind 58 (map plain_value (trim w.xs)) ++ behind 43 (map plain_element (trim (map trim w.es)))) ∙ ap (λ (l : List ℕ). plain_byte b ++ l) w.text;
  blanks = refl;
  voids = refl;
}

pick_text : (n : Bool) (k : ℕ) (a b : List ℕ) → a ≡ b → if n a (k ∷ a) ≡ if n b (k ∷ b)
pick_text n k a b q = rw q

shape_comp : (t : List Tok) → Shape t → Shape (comp ∷ t)
unfolding elements plain_value spread blank void trim
shape_comp t w = record {
  x = [];
  xs = w.x ∷ w.xs;
  es = w.es;
  is = ap (on_first (λ (ys : List (List ℕ)). [] ∷ ys)) w.is;
  text =
      comps_by w.x (trim w.xs) (behind 43 (map plain_element (trim (map trim w.es)))) (blank t) w.blanks
      ∙ pick_text (blank t) 58 _ _ w.text;
  blanks = w.blanks ∙ sym (ahead_nil [] (ahead w.x (trim w.xs)));
  voids =
      w.voids
      ∙ ahead_nil (ahead w.x (trim w.xs)) (trim (map trim w.es))
      ∙ ap (λ (n : Bool). n && is_empty (trim (map trim w.es))) (sym (ahead_nil [] (ahead w.x (trim w.xs))))
      ∙ sym (ahead_nil (ahead [] (ahead w.x (trim w.xs))) (trim (map trim w.es)));
}

shape_elem : (t : List Tok) → Shape t → Shape (elem ∷ t)
unfolding elements plain_value behind spread blank void trim
shape_elem t w = record {
  x = [];
  xs = [];
  es = (w.x ∷ w.xs) ∷ w.es;
  is = ap (λ (l : Values). ([] ∷ []) ∷ l) w.is;
  text =
      elems_by (ahead w.x (trim w.xs)) (trim (map trim w.es)) (void t) w.voids
      ∙ pick_text (void t) 43 _ _
      (ap (λ (l : List ℕ). l ++ behind 43 (map plain_element (trim (map trim w.es)))) (element_by w.x (trim w.xs))
      ∙ append_assoc (plain_value w.x) (behind 58 (map plain_value (trim w.xs))) (behind 43 (map plain_element (trim (map trim w.es))))
      ∙ w.text);
  blanks = refl;
  voids = w.voids ∙ sym (ahead_nil [] (ahead (ahead w.x (trim w.xs)) (trim (map trim w.es))));
}

shape_none : Shape []
unfolding elements plain_value behind spread blank void trim
shape_none = record { x = []; xs = []; es = []; is = refl; text = refl; blanks = refl; voids = refl }

shape : (t : List Tok) → Shape t
shape [] = shape_none
shape (byte b ∷ t) = shape_byte b t (shape t)
shape (comp ∷ t) = shape_comp t (shape t)
shape (elem ∷ t) = shape_elem t (shape t)

spread_is : (t : List Tok) → plain_elements (trimmed (elements t)) ≡ spread t
unfolding trimmed trim
spread_is t =
    let w = shape t in
    ap (λ (l : Values). plain_elements (trim (map trim l))) w.is
    ∙ elements_by (ahead w.x (trim w.xs)) (trim (map trim w.es))
    ∙ ap (λ (l : List ℕ). l ++ behind 43 (map plain_element (trim (map trim w.es)))) (element_by w.x (trim w.xs))
    ∙ append_assoc (plain_value w.x) (behind 58 (map plain_value (trim w.xs))) (behind 43 (map plain_element (trim (map trim w.es))))
    ∙ w.text

-- ---- separators that wait
rep_snoc : (n k : ℕ) (l : List ℕ) → replicate (suc n) k ++ l ≡ replicate n k ++ k ∷ l
rep_snoc zero k l = refl
rep_snoc (suc n) k l = ap (λ (r : List ℕ). k ∷ r) (rep_snoc n k l)

wait_comp : (n : Bool) (c : ℕ) (l : List ℕ) → if n [] (replicate (suc c) 58) ++ l ≡ if n [] (replicate c 58) ++ if n l (58 ∷ l)
wait_comp true c l = refl
wait_comp false c l = rep_snoc c 58 l

wait_elem : (n m : Bool) (e : ℕ) (l : List ℕ) → if n [] (replicate (suc e) 43) ++ (if m [] [] ++ l) ≡ if n [] (replicate e 43) ++ if n l (43 ∷ l)
wait_elem true true e l = refl
wait_elem true false e l = refl
wait_elem false true e l = rep_snoc e 43 l
wait_elem false false e l = rep_snoc e 43 l

flat_zero : (n m : Bool) (l : List ℕ) → if n [] [] ++ (if m [] [] ++ l) ≡ l
flat_zero true true l = refl
flat_zero true false l = refl
flat_zero false true l = refl
flat_zero false false l = refl

flat_spread : (t : List Tok) (e c : ℕ) → flat e c t ≡ if (void t) [] (replicate e 43) ++ (if (blank t) [] (replicate c 58) ++ spread t)
unfolding flat void blank spread
flat_spread [] e c = refl
flat_spread (byte b ∷ t) e c =
    ap (λ (l : List ℕ). replicate e 43 ++ (replicate c 58 ++ (plain_byte b ++ l))) (flat_spread t 0 0 ∙ flat_zero (void t) (blank t) (spread t))
flat_spread (comp ∷ t) e c = flat_spread t e (suc c) ∙ ap (λ (l : List ℕ). if (void t) [] (replicate e 43) ++ l) (wait_comp (blank t) c (spread t))
flat_spread (elem ∷ t) e c = flat_spread t (suc e) 0 ∙ wait_elem (void t) (blank t) e (spread t)

-- ---- a break that begins the segment
begun_break : (b : ℕ) (l : List ℕ) → (b ≡ 13) ⊎ (b ≡ 10) → begun (plain_byte b ++ l) ≡ 63 ∷ (plain_byte b ++ l)
unfolding plain_byte is_released among
begun_break b l q =
    ⊎_elim (λ (e : b ≡ 13). subst (λ (n : ℕ). begun (plain_byte n ++ l) ≡ 63 ∷ (plain_byte n ++ l)) (sym e) refl)
    (λ (e : b ≡ 10). subst (λ (n : ℕ). begun (plain_byte n ++ l) ≡ 63 ∷ (plain_byte n ++ l)) (sym e) refl) q

begun_other : (b : ℕ) (l : List ℕ) → is_break b ≡ false → begun (plain_byte b ++ l) ≡ plain_byte b ++ l
unfolding plain_byte
begun_other b l q = go (is_released b)
  where
    go : (x : Bool) → begun (if x (63 ∷ b ∷ []) (b ∷ []) ++ l) ≡ if x (63 ∷ b ∷ []) (b ∷ []) ++ l
    go true = refl
    go false = rw q

begun_byte : (b : ℕ) (l : List ℕ) (x : Bool) → is_break b ≡ x → begun (plain_byte b ++ l) ≡ if x (63 ∷ []) [] ++ (plain_byte b ++ l)
begun_byte b l true q = begun_break b l (break_is b (eqb b 13) (eqb b 10) refl refl q)
begun_byte b l false q = begun_other b l q

blank_leads : (t : List Tok) → blank t ≡ true → leads t ≡ false
unfolding blank
blank_leads [] q = refl
blank_leads (byte b ∷ t) q = absurd (subst T (sym q) tt)
blank_leads (comp ∷ t) q = refl
blank_leads (elem ∷ t) q = refl

void_leads : (t : List Tok) → void t ≡ true → leads t ≡ false
unfolding void
void_leads [] q = refl
void_leads (byte b ∷ t) q = absurd (subst T (sym q) tt)
void_leads (comp ∷ t) q = refl
void_leads (elem ∷ t) q = refl

begun_sep : (k : ℕ) (l : List ℕ) (n : Bool) → is_break k ≡ false → (n ≡ true → begun l ≡ l) → begun (if n l (k ∷ l)) ≡ if n l (k ∷ l)
begun_sep k l true q f = f refl
begun_sep k l false q f = rw q

no_lead : (t : List Tok) (l r : List ℕ) → leads t ≡ false → r ≡ lead t ++ l → r ≡ l
no_lead t l r q e = e ∙ ap (λ (x : Bool). if x (63 ∷ []) [] ++ l) q

begun_spread : (t : List Tok) → begun (spread t) ≡ lead t ++ spread t
unfolding spread
begun_spread [] = refl
begun_spread (byte b ∷ t) = begun_byte b (spread t) (is_break b) refl
begun_spread (comp ∷ t) = begun_sep 58 (spread t) (blank t) refl (λ q. no_lead t (spread t) (begun (spread t)) (blank_leads t q) (begun_spread t))
begun_spread (elem ∷ t) = begun_sep 43 (spread t) (void t) refl (λ q. no_lead t (spread t) (begun (spread t)) (void_leads t q) (begun_spread t))

-- the plain bytes of a segment's values, token by token
pub flat_segment : (t : List Tok) → lead t ++ flat 0 0 t ≡ plain_segment (trimmed (elements t))
unfolding plain_segment
flat_segment t =
    ap (λ (l : List ℕ). lead t ++ l) (flat_spread t 0 0 ∙ flat_zero (void t) (blank t) (spread t))
    ∙ sym (ap begun (spread_is t) ∙ begun_spread t)
