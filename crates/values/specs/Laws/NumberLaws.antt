-- `number_of` answers the number that a value writes, where there is one below 10^19, and `Not` where there is none. Assumes nothing.
use Rattle.std.specs.Prelude.{ℕ, ◌+◌, ◌*◌, ◌-◌, ◌^◌, ◌≤◌, ◌<◌, ◌≡◌, refl, List, [], ◌∷◌, ◌++◌, true, length, T, eqb, ltb, Option, Some, None}
use Rattle.std.proofs.Common.{mul-le-mul_left, arith, sym, ◌∙◌, ap, subst, eqb-true, eq-eqb, ltb-false, ne_eqb, le-ltb}
use Rattle.std.proofs.Math.Nat.{pow-le-pow_right}
use Rattle.std.proofs.Math.Decide.{dec_le}
use Rattle.std.proofs.lemmas.Bool.{eqb-false}
use Rattle.values.specs.Numbers.{Digits, none, more, Unled, worth, NumberIs}
use Rattle.values.specs.Forms.Values.{digits, number_of, is_number}
use Rattle.values.specs.Laws.DigitLaws.{passed, digit_passed, digit_passes, digits_append, digit_one, append_nil, append_one, worth_append, worth_one, worth_more, length_more, worth_pos, unled_more, unled_first, unled_one}

pub not_of : (n : ℕ) → None ≡ Some n → ⊥
not_of n q = let z : ◌≡◌ {A = ℕ} 0 1 = cc in omega arith

-- ---- digits p were read, l is left
pub read_number : (p l : List ℕ) (n : ℕ) → Digits p → 0 < length p → Unled p → worth p < 10000000000000000000 → digits 1 (worth p) l ≡ Some n → NumberIs (p ++ l) n × (n < 10000000000000000000)
unfolding digits
read_number p [] n d h u s e =
    let w : worth p ≡ n = cc in
    (rw (append_nil p) (record { digit = d; some = h; lead = u; value = sym w }), omega arith)
read_number p (b ∷ l) n d h u s e =
    let a = digit_passed b None _ (Some n) (not_of n) e in
    let x = a.0 in
    let y = a.1 in
    let f = passed (ltb 999999999999999999 (worth p)) None _ (Some n) (not_of n) a.2 in
    let k : worth p ≤ 999999999999999999 = ltb-false 999999999999999999 (worth p) f.0 in
    let g = passed (eqb (worth p) 0) None _ (Some n) (not_of n) f.1 in
    let z : worth p ≡ 0 → ⊥ = eqb-false (worth p) 0 g.0 in
    let m = worth_more p b in
    let j = length_more p b in
    let s' : worth (p ++ b ∷ []) < 10000000000000000000 = omega arith in
    let h' : 0 < length (p ++ b ∷ []) = omega arith in
    rw append_one at
    (read_number (p ++ b ∷ []) l n (digits_append p (b ∷ []) d (digit_one b x y)) h' (unled_more p (b ∷ []) h u z) s' (ap (λ (c : ℕ). digits 1 c l) m ∙ g.1))

pub number_of_lem : (l : List ℕ) (n : ℕ) → number_of l ≡ Some n → NumberIs l n × (n < 10000000000000000000)
unfolding number_of digits
number_of_lem [] n e = absurd (not_of n e)
number_of_lem (b ∷ l) n e =
    let a = digit_passed b None _ (Some n) (not_of n) e in
    let x = a.0 in
    let y = a.1 in
    let m = worth_one b in
    let s : worth (b ∷ []) < 10000000000000000000 = omega arith in
    let h : 0 < length (b ∷ []) = omega arith in
    let w : worth (b ∷ []) ≡ 0 * 10 + (b - 48) = omega arith in
    read_number (b ∷ []) l n (digit_one b x y) h (unled_one b) s (ap (λ (c : ℕ). digits 1 c l) w ∙ a.2)

-- ---- the other way
large : (p l : List ℕ) (b : ℕ) → worth (p ++ b ∷ l) < 10000000000000000000 → worth p ≤ 999999999999999999
large p l b h = go (dec_le (worth p) 999999999999999999)
  where
    go : Dec (worth p ≤ 999999999999999999) → worth p ≤ 999999999999999999
    go (yes w) = w
    go (no w) =
        let t : 0 < 10 = omega arith in
        let j : 1 ≤ length (b ∷ l) = omega arith in
        let k : 10 ^ 1 ≤ 10 ^ length (b ∷ l) = pow-le-pow_right {n = 10} t {i = 1} {j = length (b ∷ l)} j in
        let m : worth p * 10 ≤ worth p * 10 ^ length (b ∷ l) = mul-le-mul_left (worth p) k in
        let e = worth_append p (b ∷ l) in absurd (omega arith)

pub write_number : (p l : List ℕ) → Digits p → 0 < length p → Digits l → Unled (p ++ l) → worth (p ++ l) < 10000000000000000000 → digits 1 (worth p) l ≡ Some (worth (p ++ l))
unfolding digits
write_number p l d h none u s = ap (λ (q : List ℕ). Some (worth q)) (sym (append_nil p))
write_number p l d h (more b q x y r) u s =
    let k = large p q b s in
    let g : 0 < length (b ∷ q) = omega arith in
    let z = worth_pos p d h (unled_first p (b ∷ q) h g u) in
    let t : worth p ≡ 0 → ⊥ = λ (w : worth p ≡ 0). omega arith in
    let j = length_more p b in
    let h' : 0 < length (p ++ b ∷ []) = omega arith in
    let o = append_one p b q in
    digit_passes b None _ x y
    ∙ simp (le-ltb 999999999999999999 (worth p) k, ne_eqb (worth p) 0 t)
    (ap (λ (c : ℕ). digits 1 c q) (sym (worth_more p b))
    ∙ write_number (p ++ b ∷ []) q (digits_append p (b ∷ []) d (digit_one b x y)) h' r (subst Unled (sym o) u) (subst (λ (c : List ℕ). worth c < 10000000000000000000) (sym o) s)
    ∙ ap (λ (c : List ℕ). Some (worth c)) o)

pub of_number : (l : List ℕ) (n : ℕ) → NumberIs l n → n < 10000000000000000000 → number_of l ≡ Some n
unfolding number_of digits
of_number l n r s = go l r.digit r.some r.lead (subst (λ (c : ℕ). c < 10000000000000000000) r.value s) ∙ ap Some (sym r.value)
  where
    go : (l : List ℕ) → Digits l → 0 < length l → Unled l → worth l < 10000000000000000000 → number_of l ≡ Some (worth l)
    go l none h u s = absurd (omega arith)
    go l (more b q x y d) h u s =
        let w : 0 * 10 + (b - 48) ≡ worth (b ∷ []) = let m = worth_one b in omega arith in
        let h' : 0 < length (b ∷ []) = omega arith in
        digit_passes b None _ x y ∙ ap (λ (c : ℕ). digits 1 c q) w ∙ write_number (b ∷ []) q (digit_one b x y) h' d u s

pub not_number : (l : List ℕ) → ((n : ℕ) → NumberIs l n → n < 10000000000000000000 → ⊥) → number_of l ≡ None
not_number l h = go (number_of l) refl
  where
    go : (k : Option ℕ) → number_of l ≡ k → number_of l ≡ None
    go (Some n) e = let w = number_of_lem l n e in absurd (h n w.0 w.1)
    go None e = e

-- a value writes one number
pub number_one : (l : List ℕ) (n m : ℕ) → NumberIs l n → NumberIs l m → n ≡ m
number_one l n m r q = r.value ∙ sym q.value

-- whether a value writes n
is_by : (k : Option ℕ) (n : ℕ) → is_number k n ≡ true → k ≡ Some n
is_by (Some m) n e = ap Some (eqb-true m n e)
is_by None n e = absurd (subst T (sym e) tt)

pub number_is_true : (l : List ℕ) (n : ℕ) → is_number (number_of l) n ≡ true → NumberIs l n
number_is_true l n e = (number_of_lem l n (is_by (number_of l) n e)).0

pub true_number_is : (l : List ℕ) (n : ℕ) → NumberIs l n → n < 10000000000000000000 → is_number (number_of l) n ≡ true
true_number_is l n r s = ap (λ (k : Option ℕ). is_number k n) (of_number l n r s) ∙ eq-eqb n n refl
