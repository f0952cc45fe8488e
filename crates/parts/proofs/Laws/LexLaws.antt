-- The token at a position, what follows it, and one turn of each loop over tokens. Assumes nothing.
use Rattle.std.specs.Prelude.{ℕ, suc, zero, ◌+◌, ◌-◌, ◌≤◌, ◌<◌, ◌≡◌, refl, List, [], ◌∷◌, Bool, true, false, length, get_or, drop}
use Rattle.std.proofs.Math.Numerals.{add-one}
use Rattle.std.proofs.Math.Decide.{dec_lt}
use native.Mathlib.Omega.{arith}
use Rattle.std.proofs.Math.Path.{sym, ap}
use Rattle.std.proofs.Common.{◌∙◌, subst, drop_of_length-le, length-drop}
use Rattle.std.proofs.Math.Seq.{drop-cons}
use Rattle.service.specs.declared.Service.{Service}
use Rattle.segments.specs.declared.Class.{Class}
use Rattle.segments.specs.declared.Class.TheVariants.{Plain, Comp, Elem, Rel, Term}
use Rattle.segments.specs.Classes.{class_of}
use Rattle.parts.specs.declared.Token.{Token}
use Rattle.parts.specs.declared.Token.TheVariants as token
use Rattle.parts.specs.Parts.{Tok, byte, comp, elem, lex, lex_by, value_of}
use Rattle.parts.specs.Forms.Lex.{token_rel, token_by, token_at, elem_at, comp_at}

-- ---- the token at i, by the tests that find it
module _ (v : Service) (s : List ℕ) (i : ℕ) where
  pub token_none : length s ≤ i → token.Stop ≡ token_at v i (drop i s)
  unfolding token_at
  token_none h = rw (drop_of_length-le s)

  module _ (h : i < length s) (k : Class) (c : k ≡ class_of v (get_or s i 0)) where
    pub token_by_lem : token_by k (get_or s i 0) (i + 1) (drop (i + 1) s) ≡ token_at v i (drop i s)
    unfolding token_at
    token_by_lem = rw (c, add-one, drop-cons s i 0)

    pub token_plain : k ≡ Plain → token.Byte (get_or s i 0) (i + 1) ≡ token_at v i (drop i s)
    token_plain e = rw e at token_by_lem

    pub token_comp : k ≡ Comp → token.Comp (i + 1) ≡ token_at v i (drop i s)
    token_comp e = rw e at token_by_lem

    pub token_elem : k ≡ Elem → token.Elem (i + 1) ≡ token_at v i (drop i s)
    token_elem e = rw e at token_by_lem

    pub token_term : k ≡ Term → token.Stop ≡ token_at v i (drop i s)
    token_term e = rw e at token_by_lem

    pub token_rel_lem : k ≡ Rel → i + 1 < length s → token.Byte (get_or s (i + 1) 0) (i + 1 + 1) ≡ token_at v i (drop i s)
    token_rel_lem e g = rw (add-one (i + 1)) (rw (e, drop-cons s (i + 1) 0) at token_by_lem)

    pub token_cut : k ≡ Rel → length s ≤ i + 1 → token.Stop ≡ token_at v i (drop i s)
    token_cut e g = rw (e, drop_of_length-le s) at token_by_lem

-- ---- what the token says of the tokens
abbrev pub Reads : Service → List ℕ → ℕ → Token → Type 0
Reads v s i (token.Byte b n) = (lex v false (drop i s) ≡ byte b ∷ lex v false (drop n s)) × (i < n) × (n ≤ length s)
Reads v s i (token.Comp n) = (lex v false (drop i s) ≡ comp ∷ lex v false (drop n s)) × (i < n) × (n ≤ length s)
Reads v s i (token.Elem n) = (lex v false (drop i s) ≡ elem ∷ lex v false (drop n s)) × (i < n) × (n ≤ length s)
Reads v s i token.Stop = lex v false (drop i s) ≡ []

lex_at : (v : Service) (s : List ℕ) (i : ℕ) (h : i < length s) (k : Class) → k ≡ class_of v (get_or s i 0) → lex v false (drop i s) ≡ lex_by k (get_or s i 0) (lex v true (drop (i + 1) s)) (lex v false (drop (i + 1) s))
unfolding lex
lex_at v s i h k c = rw (c, add-one, drop-cons s i 0)

lex_rel : (v : Service) (s : List ℕ) (i : ℕ) (h : i < length s) → lex v true (drop i s) ≡ byte (get_or s i 0) ∷ lex v false (drop (i + 1) s)
unfolding lex
lex_rel v s i h = rw (add-one, drop-cons s i 0)

lex_end : (v : Service) (r : Bool) (s : List ℕ) (i : ℕ) → length s ≤ i → lex v r (drop i s) ≡ []
unfolding lex
lex_end v r s i h = rw (drop_of_length-le s)

reads_by : (v : Service) (s : List ℕ) (i : ℕ) (h : i < length s) (k : Class) → k ≡ class_of v (get_or s i 0) → Reads v s i (token_by k (get_or s i 0) (i + 1) (drop (i + 1) s))
reads_by v s i h Plain c = (lex_at v s i h Plain c, omega arith, omega arith)
reads_by v s i h Comp c = (lex_at v s i h Comp c, omega arith, omega arith)
reads_by v s i h Elem c = (lex_at v s i h Elem c, omega arith, omega arith)
reads_by v s i h Term c = lex_at v s i h Term c
reads_by v s i h Rel c = go (dec_lt (i + 1) (length s))
  where
    go : Dec (i + 1 < length s) → Reads v s i (token_rel (i + 1) (drop (i + 1) s))
    go (yes g) = rw (drop-cons s (i + 1) 0) (lex_at v s i h Rel c ∙ rw (← add-one (i + 1)) (lex_rel v s (i + 1) g), omega arith, omega arith)
    go (no g) = let e : length s ≤ i + 1 = omega arith in rw (drop_of_length-le s {i = i + 1} e) (lex_at v s i h Rel c ∙ lex_end v true s (i + 1) e)

pub token_reads : (v : Service) (s : List ℕ) (i : ℕ) (k : Token) → k ≡ token_at v i (drop i s) → Reads v s i k
token_reads v s i k e = rw e (go (dec_lt i (length s)))
  where
    go : Dec (i < length s) → Reads v s i (token_at v i (drop i s))
    go (yes h) = subst (Reads v s i) (token_by_lem v s i h (class_of v (get_or s i 0)) refl) (reads_by v s i h (class_of v (get_or s i 0)) refl)
    go (no g) = let h : length s ≤ i = omega arith in subst (Reads v s i) (token_none v s i h) (lex_end v false s i h)

-- ---- a loop that goes from token to token: its measure falls
module _ (v : Service) (s : List ℕ) (i : ℕ) (k : Token) (c : k ≡ token_at v i (drop i s)) where
  pub reads_byte : (b n : ℕ) → k ≡ token.Byte b n → Reads v s i (token.Byte b n)
  reads_byte b n e = rw e at (token_reads v s i k c)

  pub reads_comp : (n : ℕ) → k ≡ token.Comp n → Reads v s i (token.Comp n)
  reads_comp n e = rw e at (token_reads v s i k c)

  pub reads_elem : (n : ℕ) → k ≡ token.Elem n → Reads v s i (token.Elem n)
  reads_elem n e = rw e at (token_reads v s i k c)

  pub reads_stop : k ≡ token.Stop → Reads v s i token.Stop
  reads_stop e = rw e at (token_reads v s i k c)

  -- and a reader of tokens gives the first of those left
  pub next_byte : (b n : ℕ) → k ≡ token.Byte b n → lex v false (drop i s) ≡ byte b ∷ lex v false (drop n s)
  next_byte b n e = (reads_byte b n e).0

  pub next_comp : (n : ℕ) → k ≡ token.Comp n → lex v false (drop i s) ≡ comp ∷ lex v false (drop n s)
  next_comp n e = (reads_comp n e).0

  pub next_elem : (n : ℕ) → k ≡ token.Elem n → lex v false (drop i s) ≡ elem ∷ lex v false (drop n s)
  next_elem n e = (reads_elem n e).0

  pub less_byte : (b n : ℕ) → k ≡ token.Byte b n → length s - n < length s - i
  less_byte b n e = let w = reads_byte b n e in omega arith

  pub less_comp : (n : ℕ) → k ≡ token.Comp n → length s - n < length s - i
  less_comp n e = let w = reads_comp n e in omega arith

  pub less_elem : (n : ℕ) → k ≡ token.Elem n → length s - n < length s - i
  less_elem n e = let w = reads_elem n e in omega arith

-- ---- the tokens are no more than the bytes
short_by : (b : ℕ) (rel on : List Tok) (n : ℕ) → length rel ≤ n → length on ≤ n → (k : Class) → length (lex_by k b rel on) ≤ suc n
short_by b rel on n h g Plain = omega arith
short_by b rel on n h g Comp = omega arith
short_by b rel on n h g Elem = omega arith
short_by b rel on n h g Rel = omega arith
short_by b rel on n h g Term = omega arith

short : (v : Service) (r : Bool) (l : List ℕ) → length (lex v r l) ≤ length l
unfolding lex
short v r [] = omega arith
short v true (b ∷ l) = let w = short v false l in omega arith
short v false (b ∷ l) = short_by b (lex v true l) (lex v false l) (length l) (short v true l) (short v false l) (class_of v b)

pub tokens_short : (v : Service) (s : List ℕ) (i : ℕ) → length (lex v false (drop i s)) ≤ length s
tokens_short v s i = let w = short v false (drop i s) in let d = length-drop i s in omega arith

-- ---- a loop to an element
skip_byte : (left b : ℕ) (t : List Tok) → 0 < left → elem_at left (byte b ∷ t) ≡ elem_at left t
unfolding elem_at
skip_byte zero b t h = absurd (omega arith)
skip_byte (suc n) b t h = refl

skip_comp : (left : ℕ) (t : List Tok) → 0 < left → elem_at left (comp ∷ t) ≡ elem_at left t
unfolding elem_at
skip_comp zero t h = absurd (omega arith)
skip_comp (suc n) t h = refl

skip_elem : (left : ℕ) (t : List Tok) → 0 < left → elem_at left (elem ∷ t) ≡ elem_at (left - 1) t
unfolding elem_at
skip_elem zero t h = absurd (omega arith)
skip_elem (suc n) t h = let e : n ≡ suc n - 1 = omega arith in ap (λ (m : ℕ). elem_at m t) e

skip_none : (left : ℕ) → elem_at left [] ≡ []
unfolding elem_at
skip_none zero = refl
skip_none (suc n) = refl

module _ (x : List Tok) (v : Service) (s : List ℕ) (i left : ℕ) (inv : x ≡ elem_at left (lex v false (drop i s))) where
  pub elem_here : left ≤ 0 → lex v false (drop i s) ≡ x
  unfolding elem_at
  elem_here h = let e : left ≡ 0 = omega arith in sym (rw e at inv)

  module _ (h : 0 < left) (k : Token) (c : k ≡ token_at v i (drop i s)) where
    pub elem_byte : (b n : ℕ) → k ≡ token.Byte b n → x ≡ elem_at left (lex v false (drop n s))
    elem_byte b n e = inv ∙ ap (elem_at left) (reads_byte v s i k c b n e).0 ∙ skip_byte _ _ _ h

    pub elem_comp : (n : ℕ) → k ≡ token.Comp n → x ≡ elem_at left (lex v false (drop n s))
    elem_comp n e = inv ∙ ap (elem_at left) (reads_comp v s i k c n e).0 ∙ skip_comp _ _ h

    pub elem_elem : (n : ℕ) → k ≡ token.Elem n → x ≡ elem_at (left - 1) (lex v false (drop n s))
    elem_elem n e = inv ∙ ap (elem_at left) (reads_elem v s i k c n e).0 ∙ skip_elem _ _ h

    pub elem_stop : k ≡ token.Stop → lex v false (drop i s) ≡ x
    elem_stop e = let w = reads_stop v s i k c e in w ∙ sym (inv ∙ ap (elem_at left) w ∙ skip_none left)

-- ---- a loop to a component
past_byte : (left b : ℕ) (t : List Tok) → 0 < left → comp_at left (byte b ∷ t) ≡ comp_at left t
unfolding comp_at
past_byte zero b t h = absurd (omega arith)
past_byte (suc n) b t h = refl

past_comp : (left : ℕ) (t : List Tok) → 0 < left → comp_at left (comp ∷ t) ≡ comp_at (left - 1) t
unfolding comp_at
past_comp zero t h = absurd (omega arith)
past_comp (suc n) t h = let e : n ≡ suc n - 1 = omega arith in ap (λ (m : ℕ). comp_at m t) e

past_elem : (left : ℕ) (t : List Tok) → 0 < left → comp_at left (elem ∷ t) ≡ []
unfolding comp_at
past_elem zero t h = absurd (omega arith)
past_elem (suc n) t h = refl

past_none : (left : ℕ) → comp_at left [] ≡ []
unfolding comp_at
past_none zero = refl
past_none (suc n) = refl

module _ (x : List ℕ) (v : Service) (s : List ℕ) (i left : ℕ) (inv : x ≡ value_of (comp_at left (lex v false (drop i s)))) where
  pub comp_here : left ≤ 0 → value_of (lex v false (drop i s)) ≡ x
  unfolding comp_at
  comp_here h = let e : left ≡ 0 = omega arith in sym (rw e at inv)

  module _ (h : 0 < left) (k : Token) (c : k ≡ token_at v i (drop i s)) where
    pub comp_byte : (b n : ℕ) → k ≡ token.Byte b n → x ≡ value_of (comp_at left (lex v false (drop n s)))
    comp_byte b n e = inv ∙ ap value_of (ap (comp_at left) (reads_byte v s i k c b n e).0 ∙ past_byte _ _ _ h)

    pub comp_comp : (n : ℕ) → k ≡ token.Comp n → x ≡ value_of (comp_at (left - 1) (lex v false (drop n s)))
    comp_comp n e = inv ∙ ap value_of (ap (comp_at left) (reads_comp v s i k c n e).0 ∙ past_comp _ _ h)

    pub comp_elem : (n : ℕ) → k ≡ token.Elem n → value_of (lex v false (drop i s)) ≡ x
    unfolding value_of
    comp_elem n e =
        let w = (reads_elem v s i k c n e).0 in
        ap value_of w ∙ sym (inv ∙ ap value_of (ap (comp_at left) w ∙ past_elem _ _ h))

    pub comp_stop : k ≡ token.Stop → value_of (lex v false (drop i s)) ≡ x
    comp_stop e = let w = reads_stop v s i k c e in ap value_of w ∙ sym (inv ∙ ap value_of (ap (comp_at left) w ∙ past_none left))
