-- What the tests of a value say: `same_list`, `says`, and the tests of numbers, amounts and capitals, each exactly. Assumes nothing.
use Rattle.std.specs.Prelude.{ℕ, ◌+◌, ◌*◌, ◌<◌, ◌≡◌, refl, List, [], ◌∷◌, Bool, true, false, eqb, ltb, Some, None}
use Prim.Native.Char.{code}
use Prim.Native.String.{String, [] as end, ◌∷◌ as ◌before◌}
use Rattle.std.proofs.Common.{arith, sym, ◌∙◌, ap, ap₂, eq-eqb, ne_eqb, eqb-true}
use Rattle.std.proofs.lemmas.Bool.{eqb-false}
use Rattle.service.specs.Tests.{if}
use Rattle.values.specs.Exactly.{Exactly}
use Rattle.values.specs.Numbers.{NumberIs, ThreeCapitals}
use Rattle.values.specs.Amounts.{AmountIs}
use Rattle.values.specs.Text.{text, same_list, says}
use Rattle.values.specs.Forms.Codes.{onto, letters}
use Rattle.values.specs.Forms.Values.{code_from, code_of, number_of, is_number, amount_of, is_capitals}
use Rattle.values.specs.Laws.CodeLaws.{code_one, capitals_value, code_capitals}
use Rattle.values.specs.Laws.NumberLaws.{number_is_true, true_number_is}
use Rattle.values.specs.Laws.AmountIsLaws.{amount_of_lem, of_amount, amount_not, not_amount}

-- ---- values and letters
pub same_refl : (a : List ℕ) → same_list a a ≡ true
unfolding same_list
same_refl [] = refl
same_refl (x ∷ a) = simp (eq-eqb x x refl) (same_refl a)

head_tail : (x y : ℕ) (a b : List ℕ) (t : Bool) → eqb x y ≡ t → if t (same_list a b) false ≡ true → (same_list a b ≡ true → a ≡ b) → x ∷ a ≡ y ∷ b
head_tail x y a b true e h ih = ap₂ (λ (u : ℕ) (w : List ℕ). u ∷ w) (eqb-true x y e) (ih h)
head_tail x y a b false e h ih = absurd (let z : ◌≡◌ {A = ℕ} 0 1 = cc in omega arith)

pub same_eq : (a b : List ℕ) → same_list a b ≡ true → a ≡ b
unfolding same_list
same_eq [] [] h = refl
same_eq [] (y ∷ b) h = absurd (let z : ◌≡◌ {A = ℕ} 0 1 = cc in omega arith)
same_eq (x ∷ a) [] h = absurd (let z : ◌≡◌ {A = ℕ} 0 1 = cc in omega arith)
same_eq (x ∷ a) (y ∷ b) h = head_tail x y a b (eqb x y) refl h (same_eq a b)

pub eq_same : (a b : List ℕ) → a ≡ b → same_list a b ≡ true
eq_same a b e = ap (same_list a) (sym e) ∙ same_refl a

-- two values are the same exactly if they are equal
pub same_exactly : (a b : List ℕ) → Exactly (same_list a b ≡ true) (a ≡ b)
same_exactly a b = (same_eq a b, eq_same a b)

-- a value says letters exactly if it is these letters
pub says_exactly : (l : List ℕ) (w : String) → Exactly (says l w ≡ true) (l ≡ text w)
says_exactly l w = same_exactly l (text w)

onto_code : (n : ℕ) (w : String) → eqb (code_from n (text w)) 0 ≡ false → code_from n (text w) ≡ onto n w
unfolding text code_from
onto_code n end h = refl
onto_code n (c before w) h = go (onto_code (n * 256 + code c) w) (ltb 72057594037927935 n) (ltb (code c) 256) h
  where
    go : (eqb (code_from (n * 256 + code c) (text w)) 0 ≡ false → code_from (n * 256 + code c) (text w) ≡ onto (n * 256 + code c) w)
        → (t u : Bool) → eqb (if t 0 (if u (code_from (n * 256 + code c) (text w)) 0)) 0 ≡ false → if t 0 (if u (code_from (n * 256 + code c) (text w)) 0) ≡ onto (n * 256 + code c) w
    go ih true u e = absurd (let z : ◌≡◌ {A = ℕ} 0 1 = cc in omega arith)
    go ih false true e = ih e
    go ih false false e = absurd (let z : ◌≡◌ {A = ℕ} 0 1 = cc in omega arith)

-- letters as a value have the code of these letters, where theirs is not 0: at most seven, each a byte
pub letters_code : (w : String) → eqb (code_of (text w)) 0 ≡ false → code_of (text w) ≡ letters w
letters_code w h = onto_code 1 w h

-- and the code of a value tells whether it is these letters
pub says_code : (l : List ℕ) (w : String) → eqb (code_of (text w)) 0 ≡ false → says l w ≡ eqb (code_of l) (letters w)
says_code l w n = go (same_list l (text w)) refl ∙ ap (eqb (code_of l)) (letters_code w n)
  where
    go : (t : Bool) → same_list l (text w) ≡ t → same_list l (text w) ≡ eqb (code_of l) (code_of (text w))
    go true e = e ∙ sym (eq-eqb (code_of l) (code_of (text w)) (ap code_of (same_eq l (text w) e)))
    go false e = e ∙ sym (ne_eqb (code_of l) (code_of (text w)) (λ q. let z = sym e ∙ eq_same l (text w) (sym (code_one (text w) l (eqb-false (code_of (text w)) 0 n) (sym q))) in absurd (let y : ◌≡◌ {A = ℕ} 0 1 = cc in omega arith)))

-- ---- numbers, amounts, capitals
-- the test of a number below 10^19 is true exactly if the value writes it
pub writes_exactly : (l : List ℕ) (n : ℕ) → n < 10000000000000000000 → Exactly (is_number (number_of l) n ≡ true) (NumberIs l n)
writes_exactly l n h = (number_is_true l n, λ r. true_number_is l n r h)

-- an amount is answered exactly if the value writes it, and none exactly if it writes none
pub amount_exactly : (l : List ℕ) → ((n : ℕ) → Exactly (amount_of l ≡ Some n) (AmountIs l n)) × Exactly (amount_of l ≡ None) ((n : ℕ) → AmountIs l n → ⊥)
amount_exactly l = (λ (n : ℕ). (amount_of_lem l n, of_amount l n), (amount_not l, not_amount l))

-- a code passes the test of capitals exactly if the value is three capitals
pub capitals_exactly : (l : List ℕ) → Exactly (is_capitals (code_of l) ≡ true) (ThreeCapitals l)
capitals_exactly l = (capitals_value l, code_capitals l)
