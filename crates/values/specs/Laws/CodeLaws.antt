-- A code that is not 0 stands for one value; and what a code says of three capitals. Assumes nothing.
use Rattle.std.specs.Prelude.{ℕ, suc, zero, ◌+◌, ◌*◌, ◌/◌, ◌%◌, ◌^◌, ◌≤◌, ◌<◌, ◌≡◌, refl, List, [], ◌∷◌, Bool, true, false, length, get_or, T, eqb, ltb, leb}
use Rattle.std.proofs.Common.{pow-suc, mul-le-mul_right, mul_comm, mul_assoc, arith, ◌∙◌, ap, ap₂, subst, lt-ltb, le-ltb, le-leb, eqb-true, ltb-true, ltb-false, leb-true}
use Rattle.std.proofs.Math.Nat.{pow-le-pow_right}
use Rattle.std.proofs.Math.Decide.{dec_le}
use Rattle.std.proofs.Math.Path.{sym}
use Rattle.service.specs.Tests.{if}
use Rattle.values.specs.Numbers.{ThreeCapitals}
use Rattle.values.specs.Forms.Values.{code_from, code_of, is_capital, is_capitals}

-- each number is below 256
abbrev Small : List ℕ → Type 0
Small l = (k : ℕ) → get_or l k 0 < 256

-- ---- the bytes of a value behind a number, to the base 256
unfoldable packed : ℕ → List ℕ → ℕ
packed a [] = a
packed a (b ∷ l) = packed (a * 256 + b) l

tail_small : (b : ℕ) (l : List ℕ) → Small (b ∷ l) → Small l
tail_small b l h k = h (suc k)

-- it lies between a and a + 1, moved by so many places
packed_low : (a : ℕ) (l : List ℕ) → a * 256 ^ length l ≤ packed a l
unfolding packed
packed_low a [] = omega arith
packed_low a (b ∷ l) =
    let w = packed_low (a * 256 + b) l in
    let e = pow-suc 256 (length l) in
    let n : a * 256 ≤ a * 256 + b = omega arith in
    let m = mul-le-mul_right (256 ^ length l) n in
    let q : a * 256 ^ suc (length l) ≡ a * 256 * 256 ^ length l = rw (pow-suc) (moved a (256 ^ length l)) in omega arith
  where
    moved : (a x : ℕ) → a * (x * 256) ≡ a * 256 * x
    moved a x = ap (λ (y : ℕ). a * y) (mul_comm x 256) ∙ sym (mul_assoc a 256 x)

packed_high : (a : ℕ) (l : List ℕ) → Small l → packed a l < (a + 1) * 256 ^ length l
unfolding packed
packed_high a [] h = omega arith
packed_high a (b ∷ l) h =
    let w = packed_high (a * 256 + b) l (tail_small b l h) in
    let g : b < 256 = h 0 in
    let n : a * 256 + b + 1 ≤ (a + 1) * 256 = omega arith in
    let m = mul-le-mul_right (256 ^ length l) n in
    let q : (a + 1) * 256 ^ suc (length l) ≡ (a + 1) * 256 * 256 ^ length l = rw (pow-suc) (moved (a + 1) (256 ^ length l)) in omega arith
  where
    moved : (a x : ℕ) → a * (x * 256) ≡ a * 256 * x
    moved a x = ap (λ (y : ℕ). a * y) (mul_comm x 256) ∙ sym (mul_assoc a 256 x)

-- so it tells the length
packed_length : (l l' : List ℕ) → Small l → packed 1 l ≡ packed 1 l' → length l' ≤ length l
packed_length l l' h e = go (dec_le (length l') (length l))
  where
    go : Dec (length l' ≤ length l) → length l' ≤ length l
    go (yes w) = w
    go (no w) =
        let t : 0 < 256 = omega arith in
        let j : suc (length l) ≤ length l' = omega arith in
        let m = pow-le-pow_right {n = 256} t {i = suc (length l)} {j = length l'} j in
        let p = pow-suc 256 (length l) in
        let x = packed_high 1 l h in
        let y = packed_low 1 l' in
        let z = pow_pos' (length l) in absurd (omega arith)
      where
        pow_pos' : (k : ℕ) → 1 ≤ 256 ^ k
        pow_pos' k = let t : 0 < 256 = omega arith in let i : 0 ≤ k = omega arith in let w = pow-le-pow_right {n = 256} t {i = 0} {j = k} i in omega arith

-- and, of values of one length, each byte
packed_one : (a a' : ℕ) (l l' : List ℕ) → Small l → Small l' → length l ≡ length l' → packed a l ≡ packed a' l' → (a ≡ a') × (l ≡ l')
unfolding packed
packed_one a a' [] [] h h' n e = (e, refl)
packed_one a a' [] (c ∷ l') h h' n e = absurd (omega arith)
packed_one a a' (b ∷ l) [] h h' n e = absurd (omega arith)
packed_one a a' (b ∷ l) (c ∷ l') h h' n e =
    let m : length l ≡ length l' = omega arith in
    let w = packed_one (a * 256 + b) (a' * 256 + c) l l' (tail_small b l h) (tail_small c l' h') m e in
    let q = w.0 in
    let x : b < 256 = h 0 in
    let y : c < 256 = h' 0 in
    let p : a ≡ a' = omega arith in
    let r : b ≡ c = omega arith in
    (p, ap₂ (λ (u : ℕ) (z : List ℕ). u ∷ z) r w.1)

-- ---- a code that is not 0 is the packing of bytes
record Packs (c : ℕ) (l : List ℕ) : Type 0 where
  is : code_from c l ≡ packed c l
  small : Small l

nil_small : Small []
nil_small k = omega arith

cons_small : (b : ℕ) (l : List ℕ) → b < 256 → Small l → Small (b ∷ l)
cons_small b l h g zero = h
cons_small b l h g (suc k) = g k

packs_by : (c b : ℕ) (l : List ℕ) (t u : Bool) → ltb 72057594037927935 c ≡ t → ltb b 256 ≡ u → ((code_from (c * 256 + b) l ≡ 0 → ⊥) → Packs (c * 256 + b) l)
    → (if t 0 (if u (code_from (c * 256 + b) l) 0) ≡ 0 → ⊥) → Packs c (b ∷ l)
unfolding code_from packed
packs_by c b l true u p q ih n = absurd (n refl)
packs_by c b l false false p q ih n = absurd (n refl)
packs_by c b l false true p q ih n = record { is = simp (p, q) (ih n).is; small = cons_small b l (ltb-true b 256 q) (ih n).small }

packs : (c : ℕ) (l : List ℕ) → (code_from c l ≡ 0 → ⊥) → Packs c l
unfolding code_from packed
packs c [] n = record { is = refl; small = nil_small }
packs c (b ∷ l) n = packs_by c b l (ltb 72057594037927935 c) (ltb b 256) refl refl (packs (c * 256 + b) l) n

-- two values with one code, not 0, are the same
pub code_one : (l l' : List ℕ) → (code_of l ≡ 0 → ⊥) → code_of l ≡ code_of l' → l ≡ l'
code_one l l' n e =
    let w = packs 1 l n in
    let w' = packs 1 l' (λ q. n (e ∙ q)) in
    let p : packed 1 l ≡ packed 1 l' = sym w.is ∙ e ∙ w'.is in
    let x = packed_length l l' w.small p in
    let y = packed_length l' l w'.small (sym p) in
    let z : length l ≡ length l' = omega arith in
    (packed_one 1 1 l l' w.small w'.small z p).1

-- ---- three capitals
is_capital_by : (b : ℕ) (t : Bool) → ltb b 65 ≡ t → if t false (leb b 90) ≡ true → (65 ≤ b) × (b ≤ 90)
is_capital_by b true p e = absurd (subst T (sym e) tt)
is_capital_by b false p e = (ltb-false b 65 p, leb-true b 90 e)

is_capital_lem : (b : ℕ) → is_capital b ≡ true → (65 ≤ b) × (b ≤ 90)
unfolding is_capital
is_capital_lem b e = is_capital_by b (ltb b 65) refl e

capital_is : (b : ℕ) → 65 ≤ b → b ≤ 90 → is_capital b ≡ true
unfolding is_capital
capital_is b h g = simp (le-ltb b 65 h, le-leb b 90 g)

three : (a b c : ℕ) → (65 ≤ a) × (a ≤ 90) → (65 ≤ b) × (b ≤ 90) → (65 ≤ c) × (c ≤ 90) → ThreeCapitals (a ∷ b ∷ c ∷ [])
three a b c x y z = record { three = refl; capital = go }
  where
    go : (k : ℕ) → k < 3 → (65 ≤ get_or (a ∷ b ∷ c ∷ []) k 0) × (get_or (a ∷ b ∷ c ∷ []) k 0 ≤ 90)
    go zero h = x
    go (suc zero) h = y
    go (suc (suc zero)) h = z
    go (suc (suc (suc k))) h = absurd (omega arith)

code_three : (a b c : ℕ) → a < 256 → b < 256 → c < 256 → code_of (a ∷ b ∷ c ∷ []) ≡ ((256 + a) * 256 + b) * 256 + c
unfolding code_from
code_three a b c x y z =
    let m : 256 + a ≤ 72057594037927935 = omega arith in
    let n : (256 + a) * 256 + b ≤ 72057594037927935 = omega arith in
    simp (lt-ltb a 256 x, lt-ltb b 256 y, lt-ltb c 256 z, le-ltb 72057594037927935 (256 + a) m, le-ltb 72057594037927935 ((256 + a) * 256 + b) n)

capitals_parts : (code : ℕ) (t x y : Bool) → eqb (code / 16777216) 1 ≡ t → is_capital (code / 65536 % 256) ≡ x → is_capital (code / 256 % 256) ≡ y
    → if t (if x (if y (is_capital (code % 256)) false) false) false ≡ true
    → (code / 16777216 ≡ 1) × (is_capital (code / 65536 % 256) ≡ true) × (is_capital (code / 256 % 256) ≡ true) × (is_capital (code % 256) ≡ true)
capitals_parts code false x y p q r e = absurd (subst T (sym e) tt)
capitals_parts code true false y p q r e = absurd (subst T (sym e) tt)
capitals_parts code true true false p q r e = absurd (subst T (sym e) tt)
capitals_parts code true true true p q r e = (eqb-true (code / 16777216) 1 p, q, r, e)

-- a code that passes is the code of three capitals
pub capitals_code : (code : ℕ) → is_capitals code ≡ true → (l : List ℕ) × ThreeCapitals l × (code ≡ code_of l)
unfolding is_capitals
capitals_code code e =
    let w = capitals_parts code (eqb (code / 16777216) 1) (is_capital (code / 65536 % 256)) (is_capital (code / 256 % 256)) refl refl refl e in
    let n = w.0 in
    let x = is_capital_lem (code / 65536 % 256) w.1 in
    let y = is_capital_lem (code / 256 % 256) w.2 in
    let z = is_capital_lem (code % 256) w.3 in
    let i : code / 65536 % 256 < 256 = omega arith in
    let j : code / 256 % 256 < 256 = omega arith in
    let k : code % 256 < 256 = omega arith in
    let q = code_three (code / 65536 % 256) (code / 256 % 256) (code % 256) i j k in
    (code / 65536 % 256 ∷ code / 256 % 256 ∷ code % 256 ∷ [], three (code / 65536 % 256) (code / 256 % 256) (code % 256) x y z, omega arith)

shape : (l : List ℕ) → length l ≡ 3 → (a b c : ℕ) × (l ≡ a ∷ b ∷ c ∷ [])
shape [] e = absurd (omega arith)
shape (a ∷ []) e = absurd (omega arith)
shape (a ∷ b ∷ []) e = absurd (omega arith)
shape (a ∷ b ∷ c ∷ []) e = (a, b, c, refl)
shape (a ∷ b ∷ c ∷ d ∷ l) e = absurd (omega arith)

of_three : (a b c : ℕ) → ThreeCapitals (a ∷ b ∷ c ∷ []) → is_capitals (code_of (a ∷ b ∷ c ∷ [])) ≡ true
unfolding is_capitals
of_three a b c r =
    let i : 0 < 3 = omega arith in
    let j : 1 < 3 = omega arith in
    let k : 2 < 3 = omega arith in
    let x : (65 ≤ a) × (a ≤ 90) = r.capital 0 i in
    let y : (65 ≤ b) × (b ≤ 90) = r.capital 1 j in
    let z : (65 ≤ c) × (c ≤ 90) = r.capital 2 k in
    let a' : a < 256 = omega arith in
    let b' : b < 256 = omega arith in
    let c' : c < 256 = omega arith in
    let q = code_three a b c a' b' c' in
    let n : code_of (a ∷ b ∷ c ∷ []) / 16777216 ≡ 1 = omega arith in
    let u : code_of (a ∷ b ∷ c ∷ []) / 65536 % 256 ≡ a = omega arith in
    let v : code_of (a ∷ b ∷ c ∷ []) / 256 % 256 ≡ b = omega arith in
    let w : code_of (a ∷ b ∷ c ∷ []) % 256 ≡ c = omega arith in
    simp (n, u, v, w, capital_is a x.0 x.1, capital_is b y.0 y.1, capital_is c z.0 z.1)

-- the code of three capitals passes
pub code_capitals : (l : List ℕ) → ThreeCapitals l → is_capitals (code_of l) ≡ true
code_capitals l r =
    let w = shape l r.three in
    ap (λ (u : List ℕ). is_capitals (code_of u)) w.3 ∙ of_three w.0 w.1 w.2 (subst ThreeCapitals w.3 r)

-- so a value has such a code exactly if it is three capitals
pub capitals_value : (l : List ℕ) → is_capitals (code_of l) ≡ true → ThreeCapitals l
unfolding is_capitals
capitals_value l e =
    let w = capitals_code (code_of l) e in
    let n : code_of w.0 ≡ 0 → ⊥ = λ q. subst T (sym (ap is_capitals (sym (w.2 ∙ q)) ∙ e)) tt in
    subst ThreeCapitals (code_one w.0 l n (sym w.2)) w.1
