-- What tests of values say. Assumes nothing.
use Rattle.std.specs.Prelude.{ℕ, ◌+◌, ◌*◌, ◌≤◌, min, ◌≡◌, refl, List, [], ◌∷◌, Bool, true, false, eqb, ltb, Option, None, Some}
use Rattle.std.proofs.Common.{arith, sym, ◌∙◌, eq-eqb, ne_eqb}
use Rattle.std.proofs.Math.Decide.{ℕ_discrete}
use Rattle.service.specs.Tests.{if, is_empty}
use Rattle.values.specs.Forms.Codes.{EMPTY}
use Rattle.values.specs.Forms.Values.{code_from, code_of, number_of, is_number}
use Rattle.values.specs.Laws.NumberLaws.{number_of_lem}
use Rattle.message.specs.Rules.{writes}
use Rattle.message.specs.Forms.Counts.{most}

-- ---- empty
never_one : (c : ℕ) (l : List ℕ) → 2 ≤ c → code_from c l ≡ 1 → ⊥
unfolding code_from
never_one c [] h e = omega arith
never_one c (b ∷ l) h e = go (ltb 72057594037927935 c) (ltb b 256) (never_one (c * 256 + b) l (omega arith)) e
  where
    go : (t u : Bool) → (code_from (c * 256 + b) l ≡ 1 → ⊥) → if t 0 (if u (code_from (c * 256 + b) l) 0) ≡ 1 → ⊥
    go true u ih q = omega arith
    go false true ih q = ih q
    go false false ih q = omega arith

-- a value has the code of no letter exactly if it is empty
pub empty_code : (l : List ℕ) → eqb (code_of l) EMPTY ≡ is_empty l
unfolding code_from
empty_code [] = refl
empty_code (b ∷ l) = ne_eqb (code_of (b ∷ l)) EMPTY (go (ltb b 256))
  where
    go : (t : Bool) → if t (code_from (256 + b) l) 0 ≡ 1 → ⊥
    go true e = never_one (256 + b) l (omega arith) e
    go false e = omega arith

-- ---- numbers: none that a value writes reaches the end of 64 bits, so a count may stop there
is_capped : (l : List ℕ) (k : Option ℕ) → number_of l ≡ k → (n : ℕ) → is_number k (min n most) ≡ is_number k n
is_capped l (Some x) e n = go (ℕ_discrete x n)
  where
    go : Dec (x ≡ n) → eqb x (min n most) ≡ eqb x n
    go (yes q) = let w = (number_of_lem l x e).1 in eq-eqb x (min n most) (omega arith) ∙ sym (eq-eqb x n q)
    go (no q) = let w = (number_of_lem l x e).1 in ne_eqb x (min n most) (λ p. q (omega arith)) ∙ sym (ne_eqb x n q)
is_capped l None e n = refl

pub writes_capped : (l : List ℕ) (n : ℕ) → writes l (min n most) ≡ writes l n
writes_capped l n = is_capped l (number_of l) refl n
