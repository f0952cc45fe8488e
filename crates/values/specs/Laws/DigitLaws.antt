-- Digits and the numbers that they write. Assumes nothing.
use Rattle.std.specs.Prelude.{ℕ, suc, ◌+◌, ◌*◌, ◌-◌, ◌^◌, ◌≤◌, ◌<◌, ◌≡◌, refl, List, [], ◌∷◌, ◌++◌, Bool, true, false, length, get_or, ltb}
use Rattle.std.proofs.Common.{zero-mul, zero-add, add-mul, mul_assoc, add_assoc, pow-suc, mul-le-mul_right, arith, sym, ◌∙◌, ap, length-append, pow-add, ltb-false, le-ltb}
use Rattle.std.proofs.Math.Nat.{pow-le-pow_right}
use Rattle.std.proofs.Math.Decide.{dec_lt}
use Rattle.service.specs.Tests.{if}
use Rattle.values.specs.Numbers.{Digits, none, more, Unled, worth}

-- ---- a test that was passed
pub passed : {A : Type 0} (t : Bool) (n x y : A) → (n ≡ y → ⊥) → if t n x ≡ y → (t ≡ false) × (x ≡ y)
passed true n x y d e = absurd (d e)
passed false n x y d e = (refl, e)

pub digit_passed : {A : Type 0} (b : ℕ) (n x y : A) → (n ≡ y → ⊥) → if (ltb b 48) n (if (ltb 57 b) n x) ≡ y → (48 ≤ b) × (b ≤ 57) × (x ≡ y)
digit_passed b n x y d e =
    let p = passed (ltb b 48) n (if (ltb 57 b) n x) y d e in
    let q = passed (ltb 57 b) n x y d p.1 in
    (ltb-false b 48 p.0, ltb-false 57 b q.0, q.1)

pub digit_passes : {A : Type 0} (b : ℕ) (n x : A) → 48 ≤ b → b ≤ 57 → if (ltb b 48) n (if (ltb 57 b) n x) ≡ x
digit_passes b n x h g = simp (le-ltb b 48 h, le-ltb 57 b g)

-- ---- digits one after the other
pub digits_append : (p q : List ℕ) → Digits p → Digits q → Digits (p ++ q)
digits_append p q none w = w
digits_append p q (more b l h g d) w = more b (l ++ q) h g (digits_append l q d w)

pub digit_one : (b : ℕ) → 48 ≤ b → b ≤ 57 → Digits (b ∷ [])
digit_one b h g = more b [] h g none

pub append_nil : (p : List ℕ) → p ++ [] ≡ p
append_nil [] = refl
append_nil (x ∷ p) = ap (λ (l : List ℕ). x ∷ l) (append_nil p)

pub append_one : (p : List ℕ) (b : ℕ) (l : List ℕ) → (p ++ b ∷ []) ++ l ≡ p ++ b ∷ l
append_one [] b l = refl
append_one (x ∷ p) b l = ap (λ (u : List ℕ). x ∷ u) (append_one p b l)

pub worth_append : (p q : List ℕ) → worth (p ++ q) ≡ worth p * 10 ^ length q + worth q
unfolding worth
worth_append [] q = rw (zero-mul, zero-add)
worth_append (b ∷ p) q = rw (worth_append p q, length-append p q, pow-add, add-mul, mul_assoc, add_assoc)

pub worth_one : (b : ℕ) → worth (b ∷ []) ≡ b - 48
unfolding worth
worth_one b = omega arith

pub worth_more : (p : List ℕ) (b : ℕ) → worth (p ++ b ∷ []) ≡ worth p * 10 + (b - 48)
worth_more p b = worth_append p (b ∷ []) ∙ rw (worth_one b)

pub length_more : (p : List ℕ) (b : ℕ) → length (p ++ b ∷ []) ≡ suc (length p)
length_more p b = let w = length-append p (b ∷ []) in omega arith

-- ---- how large it is
pub worth_small : (l : List ℕ) → Digits l → worth l < 10 ^ length l
unfolding worth
worth_small l none = omega arith
worth_small l (more b u h g d) =
    let w = worth_small u d in
    let n : b - 48 ≤ 9 = omega arith in
    let m = mul-le-mul_right (10 ^ length u) n in
    let e = pow-suc 10 (length u) in omega arith

pub worth_large : (b : ℕ) (l : List ℕ) → 48 < b → 10 ^ length l ≤ worth (b ∷ l)
unfolding worth
worth_large b l h =
    let n : 1 ≤ b - 48 = omega arith in
    let m = mul-le-mul_right (10 ^ length l) n in omega arith

pub pow_one : (k : ℕ) → 1 ≤ 10 ^ k
pow_one k = let z : 0 < 10 = omega arith in let j : 0 ≤ k = omega arith in let w = pow-le-pow_right {n = 10} z {i = 0} {j = k} j in omega arith

-- a first digit that is not 0 makes the number as large as its length says
pub worth_led : (p : List ℕ) → Digits p → 0 < length p → (get_or p 0 0 ≡ 48 → ⊥) → 10 ^ (length p - 1) ≤ worth p
worth_led p none h n = absurd (omega arith)
worth_led p (more b l x y d) h n =
    let w : 48 < b = omega (arith, strict b x n) in
    let e : length (b ∷ l) - 1 ≡ length l = omega arith in
    rw e (worth_large b l w)
  where
    strict : (b : ℕ) → 48 ≤ b → (b ≡ 48 → ⊥) → 48 < b
    strict b x n = go (dec_lt 48 b)
      where
        go : Dec (48 < b) → 48 < b
        go (yes z) = z
        go (no z) = absurd (n (omega arith))

pub worth_pos : (p : List ℕ) → Digits p → 0 < length p → (get_or p 0 0 ≡ 48 → ⊥) → 0 < worth p
worth_pos p d h n = let w = worth_led p d h n in let u = pow_one (length p - 1) in omega arith

-- 0 alone writes 0
worth_zero : (p : List ℕ) → get_or p 0 0 ≡ 48 → length p ≡ 1 → worth p ≡ 0
unfolding worth
worth_zero [] e h = refl
worth_zero (b ∷ []) e h = let w : b ≡ 48 = e in omega arith
worth_zero (b ∷ c ∷ l) e h = absurd (omega arith)

first_of : (p q : List ℕ) → 0 < length p → get_or (p ++ q) 0 0 ≡ get_or p 0 0
first_of [] q h = absurd (omega arith)
first_of (b ∷ p) q h = refl

-- digits after a number that is not 0 lead it by no zero; and digits after others say that it is not 0
pub unled_more : (p q : List ℕ) → 0 < length p → Unled p → (worth p ≡ 0 → ⊥) → Unled (p ++ q)
unled_more p q h u n e = let w : get_or p 0 0 ≡ 48 = sym (first_of p q h) ∙ e in absurd (n (worth_zero p w (u w)))

pub unled_first : (p q : List ℕ) → 0 < length p → 0 < length q → Unled (p ++ q) → get_or p 0 0 ≡ 48 → ⊥
unled_first p q h g u e =
    let w = u (first_of p q h ∙ e) in
    let m = length-append p q in omega arith

pub unled_one : (b : ℕ) → Unled (b ∷ [])
unled_one b e = refl
