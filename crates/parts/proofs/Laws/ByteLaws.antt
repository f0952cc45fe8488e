-- Segments with the same values, trailing empties aside, have the same bytes in them, in order. Assumes nothing.
use Rattle.std.specs.Prelude.{ℕ, ◌≡◌, refl, List, [], ◌∷◌, ◌++◌, map, false, drop}
use Rattle.std.proofs.Common.{sym, ◌∙◌, ap, ap₂, append_assoc}
use Rattle.service.specs.declared.Service.{Service}
use Rattle.service.specs.Tests.{is_empty}
use Rattle.parts.specs.Parts.{Tok, byte, comp, elem, lex, elements, on_first, on_value, strange_in}
use Rattle.parts.specs.Written.{strange_of, bytes_of}
use Rattle.parts.proofs.Laws.ReleaseLaws.{strange_values}
use Rattle.parts.specs.Trimmed.{ahead, trim, Values, trimmed, values_at}

-- lists one after another
unfoldable pub together : {A : Type 0} → List (List A) → List A
together [] = []
together (x ∷ l) = x ++ together l

-- the bytes of a segment's values, in order
unfoldable pub bytes_in : Values → List ℕ
bytes_in es = together (together es)

together_append : {A : Type 0} (a b : List (List A)) → together (a ++ b) ≡ together a ++ together b
unfolding together
together_append [] b = refl
together_append (x ∷ a) b = ap (λ l. x ++ l) (together_append a b) ∙ sym (append_assoc x (together a) (together b))

together_ahead : {A : Type 0} (x : List A) (l : List (List A)) → together (ahead x l) ≡ x ++ together l
unfolding together
together_ahead [] [] = refl
together_ahead [] (y ∷ l) = refl
together_ahead (a ∷ x) l = refl

together_trim : {A : Type 0} (l : List (List A)) → together (trim l) ≡ together l
unfolding together trim
together_trim [] = refl
together_trim (x ∷ l) = together_ahead x (trim l) ∙ ap (λ r. x ++ r) (together_trim l)

together_map : (es : Values) → together (together (map trim es)) ≡ together (together es)
unfolding together
together_map [] = refl
together_map (y ∷ es) =
    together_append (trim y) (together (map trim es))
    ∙ ap₂ (λ (a b : List ℕ). a ++ b) (together_trim y) (together_map es)
    ∙ sym (together_append y (together es))

-- dropped empties have none
pub trimmed_bytes : (es : Values) → bytes_in (trimmed es) ≡ bytes_in es
unfolding bytes_in trimmed
trimmed_bytes es = ap together (together_trim (map trim es)) ∙ together_map es

-- the bytes of tokens are those of the values that they are read as
bytes_value : (b : ℕ) (es : Values) → bytes_in (on_first (on_value b) es) ≡ b ∷ bytes_in es
unfolding bytes_in together
bytes_value b [] = refl
bytes_value b ([] ∷ es) = refl
bytes_value b ((x ∷ xs) ∷ es) = refl

bytes_comp : (es : Values) → bytes_in (on_first (λ xs. [] ∷ xs) es) ≡ bytes_in es
unfolding bytes_in together
bytes_comp [] = refl
bytes_comp (xs ∷ es) = refl

bytes_elem : (es : Values) → bytes_in (([] ∷ []) ∷ es) ≡ bytes_in es
unfolding bytes_in together
bytes_elem es = refl

bytes_none : bytes_in (([] ∷ []) ∷ []) ≡ []
unfolding bytes_in together
bytes_none = refl

pub tokens_bytes : (t : List Tok) → bytes_of t ≡ bytes_in (elements t)
unfolding bytes_of elements
tokens_bytes [] = sym bytes_none
tokens_bytes (byte b ∷ t) = ap (λ (l : List ℕ). b ∷ l) (tokens_bytes t) ∙ sym (bytes_value b (elements t))
tokens_bytes (comp ∷ t) = tokens_bytes t ∙ sym (bytes_comp (elements t))
tokens_bytes (elem ∷ t) = tokens_bytes t ∙ sym (bytes_elem (elements t))

pub same_bytes : (t t' : List Tok) → trimmed (elements t) ≡ trimmed (elements t') → bytes_of t ≡ bytes_of t'
same_bytes t t' q =
    tokens_bytes t ∙ sym (trimmed_bytes (elements t)) ∙ ap bytes_in q ∙ trimmed_bytes (elements t') ∙ sym (tokens_bytes t')

-- number 10: whether a value byte is outside 0x20..0x7E and 0xA0..0xFF is the same in segments with the same values
pub same_strange : (v : Service) (s : List ℕ) (v' : Service) (s' : List ℕ) (i i' : ℕ) → values_at v s i ≡ values_at v' s' i' → is_empty (strange_in v s i) ≡ is_empty (strange_in v' s' i')
same_strange v s v' s' i i' q =
    strange_values v false i (drop i s)
    ∙ ap (λ (l : List ℕ). is_empty (strange_of l)) (same_bytes (lex v false (drop i s)) (lex v' false (drop i' s')) q)
    ∙ sym (strange_values v' false i' (drop i' s'))
