-- The next byte of a value, and one turn of each loop over a value. Assumes nothing.
use Rattle.std.specs.Prelude.{ℕ, ◌+◌, ◌*◌, ◌-◌, ltb, ◌≤◌, ◌<◌, ◌≡◌, refl, List, [], ◌∷◌, Bool, true, false, length, drop, eqb, Option, Some, None}
use Rattle.std.proofs.Common.{arith, ◌∙◌}
use Rattle.std.proofs.Math.Path.{sym, ap}
use borrow.Author.Tests.{lt-ltb, le-ltb}
use Rattle.service.specs.declared.Service.{Service}
use Rattle.service.specs.Tests.{if}
use Rattle.parts.specs.declared.Token.{Token}
use Rattle.parts.specs.declared.Token.TheVariants as token
use Rattle.parts.specs.Parts.{lex, value_of}
use Rattle.parts.specs.Forms.Lex.{token_at}
use Rattle.parts.proofs.Laws.LexLaws.{reads_byte, reads_comp, reads_elem, reads_stop}
use Rattle.values.specs.Numbers.{value_from}
use Rattle.values.specs.Forms.Values.{digits, number_of, digit_more, count_of, read_of, is_number, code_from}
use Rattle.values.specs.Text.{same_list}
use Rattle.std.proofs.Common.{length-drop}
use Rattle.std.specs.Prelude.{◌^◌, suc}
use Rattle.std.specs.Iterator.{YieldsFirst, Drains, Yields, ComparesItemsByEq}
use Rattle.std.specs.Prelude.{MatchOption, IfSome}
use Rattle.std.specs.List.{AllZip}
use Rattle.std.proofs.Common.{ap₂}
use Rattle.std.proofs.lemmas.Iterator.Consumers.{count_from_yields_List, YieldsList-from_first}
use Rattle.segments.specs.declared.Class.{Class}
use Rattle.segments.specs.declared.Class.TheVariants.{Plain, Comp, Elem, Rel, Term}
use Rattle.segments.specs.Classes.{class_of}
use Rattle.parts.specs.Parts.{Tok, lex_by}
use Rattle.values.specs.declared.Value.{Value}
use Rattle.values.specs.Left.{value_left}

-- ---- the next byte of a value, by the token
module _ (v : Service) (s : List ℕ) (i : ℕ) (k : Token) (c : k ≡ token_at v i (drop i s)) where
  pub value_byte : (b n : ℕ) → k ≡ token.Byte b n → value_from v i s ≡ b ∷ value_from v n s
  unfolding value_of
  value_byte b n e = ap value_of (reads_byte v s i k c b n e).0

  pub value_comp : (n : ℕ) → k ≡ token.Comp n → value_from v i s ≡ []
  unfolding value_of
  value_comp n e = ap value_of (reads_comp v s i k c n e).0

  pub value_elem : (n : ℕ) → k ≡ token.Elem n → value_from v i s ≡ []
  unfolding value_of
  value_elem n e = ap value_of (reads_elem v s i k c n e).0

  pub value_stop : k ≡ token.Stop → value_from v i s ≡ []
  unfolding value_of
  value_stop e = ap value_of (reads_stop v s i k c e)

-- a value is no longer than the bytes
short_by : (b : ℕ) (rel on : List Tok) (n : ℕ) → length (value_of rel) ≤ n → length (value_of on) ≤ n → (k : Class) → length (value_of (lex_by k b rel on)) ≤ suc n
unfolding value_of
short_by b rel on n h g Plain = omega arith
short_by b rel on n h g Comp = omega arith
short_by b rel on n h g Elem = omega arith
short_by b rel on n h g Rel = omega arith
short_by b rel on n h g Term = omega arith

short : (v : Service) (r : Bool) (l : List ℕ) → length (value_of (lex v r l)) ≤ length l
unfolding lex value_of
short v r [] = omega arith
short v true (b ∷ l) = let w = short v false l in omega arith
short v false (b ∷ l) = short_by b (lex v true l) (lex v false l) (length l) (short v true l) (short v false l) (class_of v b)

pub value_short : (v : Service) (i : ℕ) (s : List ℕ) → length (value_from v i s) ≤ length s
value_short v i s = let w = short v false (drop i s) in let d = length-drop i s in omega arith

-- the bytes that a reader yields are those of the value
pub counted : (r : Value) (l : List ℕ) (n : ℕ) → value_left r ≡ l → ((xs : List ℕ) × Drains (YieldsFirst value_left) r xs × (n ≡ length xs)) → n ≡ length l
counted r l n e h = count_from_yields_List r n h (YieldsList-from_first (λ x. x) value_left l e)

pub count_fits : (r : Value) → length r.text.bytes.now < 2 ^ 64 → 0 + length (value_left r) < 2 ^ 64
count_fits r h = let w = value_short r.text.service r.at r.text.bytes.now in omega arith

-- ---- two values compared: what `eq` of two readers says
abbrev Step : Value → Option ℕ → Value → Type 0
Step = YieldsFirst value_left

abbrev Ends : Option ℕ → Option ℕ → Bool → Type 0
Ends o p r = MatchOption o (MatchOption p (r ≡ true) (λ _. r ≡ false)) (λ x. (r ≡ false) × IfSome p (λ y. eqb x y ≡ false))

module _ (r : Bool) (s' t' u w : Value) where
  same_by : (xs ys : List ℕ) (o p : Option ℕ) (s t : Value) → Yields Step s xs s' → Step s' o u → Yields Step t ys t' → Step t' p w → AllZip (λ x y. eqb x y ≡ true) xs ys → Ends o p r → r ≡ same_list (value_left s) (value_left t)
  unfolding same_list
  same_by [] [] None None s t a b c d z l = l ∙ sym (ap₂ same_list (ap value_left a ∙ b.0) (ap value_left c ∙ d.0))
  same_by [] [] None (Some y) s t a b c d z l = l ∙ sym (ap₂ same_list (ap value_left a ∙ b.0) (ap value_left c ∙ d))
  same_by [] [] (Some x) None s t a b c d z l = l.0 ∙ sym (ap₂ same_list (ap value_left a ∙ b) (ap value_left c ∙ d.0))
  same_by [] [] (Some x) (Some y) s t a b c d z l = l.0 ∙ sym (ap₂ same_list (ap value_left a ∙ b) (ap value_left c ∙ d) ∙ ap (λ (e : Bool). if e (same_list (value_left u) (value_left w)) false) l.1)
  same_by [] (y ∷ ys) o p s t a b c d z l = absurd z
  same_by (x ∷ xs) [] o p s t a b c d z l = absurd z
  same_by (x ∷ xs) (y ∷ ys) o p s t a b c d z l =
      same_by xs ys o p a.0 c.0 a.2 b c.2 d z.1 l
      ∙ sym (ap₂ same_list a.1 c.1 ∙ ap (λ (e : Bool). if e (same_list (value_left a.0) (value_left c.0)) false) z.0)

pub same_is : (s t : Value) (k l : List ℕ) (r : Bool) → value_left s ≡ k → value_left t ≡ l → ComparesItemsByEq Step (λ x y. y ≡ x) Step s t eqb r → r ≡ same_list k l
same_is s t k l r e f h =
    same_by r h.8.0 h.9.0 h.5 h.6 h.1 h.2 h.3 h.4 s h.0 h.8.1 h.8.2 h.9.1 h.9.2 h.10 h.11 ∙ ap₂ same_list e (ap value_left h.7 ∙ f)

-- ---- a code
module _ (x code : ℕ) (l : List ℕ) (inv : x ≡ code_from code l) where
  pub code_done : l ≡ [] → code ≡ x
  unfolding code_from
  code_done e = sym (inv ∙ ap (code_from code) e)

  module _ (b : ℕ) (k : List ℕ) (e : l ≡ b ∷ k) where
    code_on : x ≡ code_from code (b ∷ k)
    code_on = inv ∙ ap (code_from code) e

    pub code_long : 72057594037927935 < code → 0 ≡ x
    unfolding code_from
    code_long h = sym (code_on ∙ simp (lt-ltb _ _ h))

    pub code_more : code ≤ 72057594037927935 → b < 256 → x ≡ code_from (code * 256 + b) k
    unfolding code_from
    code_more h g = code_on ∙ simp (le-ltb _ _ h, lt-ltb _ _ g)

-- ---- a number
abbrev then_read : Option ℕ → (ℕ → Option ℕ) → Option ℕ
then_read None f = None
then_read (Some n) f = f n

digits_more : (a : Option ℕ) (b : ℕ) (k : List ℕ) → digits (count_of a) (read_of a) (b ∷ k) ≡ then_read (digit_more 999999999999999999 a b) (λ n. digits 1 n k)
unfolding digits digit_more
digits_more None b k = go (ltb b 48) (ltb 57 b)
  where
    go : (t u : Bool) → if t None (if u None (digits 1 (0 * 10 + (b - 48)) k)) ≡ then_read (if t None (if u None (Some (b - 48)))) (λ n. digits 1 n k)
    go true u = refl
    go false true = refl
    go false false = ap (λ n. digits 1 n k) (omega arith)
digits_more (Some m) b k = go (ltb b 48) (ltb 57 b) (ltb 999999999999999999 m) (eqb m 0)
  where
    go : (t u w z : Bool) → if t None (if u None (if w None (if z None (digits 1 (m * 10 + (b - 48)) k)))) ≡ then_read (if t None (if u None (if w None (if z None (Some (m * 10 + (b - 48))))))) (λ n. digits 1 n k)
    go true u w z = refl
    go false true w z = refl
    go false false true z = refl
    go false false false true = refl
    go false false false false = refl

pub num_start : (l : List ℕ) → number_of l ≡ digits (count_of None) (read_of None) l
unfolding number_of
num_start l = refl

module _ (x a : Option ℕ) (l : List ℕ) (inv : x ≡ digits (count_of a) (read_of a) l) where
  pub num_end : l ≡ [] → a ≡ x
  unfolding digits
  num_end e = by_read a ∙ sym (inv ∙ ap (digits (count_of a) (read_of a)) e)
    where
      by_read : (a : Option ℕ) → a ≡ digits (count_of a) (read_of a) []
      by_read None = refl
      by_read (Some n) = refl

  module _ (b : ℕ) (k : List ℕ) (e : l ≡ b ∷ k) (d : Option ℕ) (c : d ≡ digit_more 999999999999999999 a b) where
    num_by : x ≡ then_read d (λ n. digits 1 n k)
    num_by = inv ∙ ap (digits (count_of a) (read_of a)) e ∙ digits_more a b k ∙ ap (λ (o : Option ℕ). then_read o (λ n. digits 1 n k)) (sym c)

    pub num_stop : d ≡ None → None ≡ x
    num_stop q = sym (num_by ∙ ap (λ (o : Option ℕ). then_read o (λ n. digits 1 n k)) q)

    pub num_on : (n : ℕ) → d ≡ Some n → x ≡ digits 1 n k
    num_on n q = num_by ∙ ap (λ (o : Option ℕ). then_read o (λ n. digits 1 n k)) q

pub number_is_by : (k : Option ℕ) (l m : List ℕ) (n : ℕ) → l ≡ m → k ≡ number_of l → is_number k n ≡ is_number (number_of m) n
number_is_by k l m n e c = ap (λ (u : Option ℕ). is_number u n) (c ∙ ap number_of e)
