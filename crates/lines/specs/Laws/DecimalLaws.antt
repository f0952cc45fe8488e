-- `decimal` writes its number, and is what the library writes. Assumes nothing.
use Rattle.std.specs.Prelude.{ℕ, suc, zero, ◌+◌, ◌*◌, ◌/◌, ◌%◌, ◌^◌, ◌≤◌, ◌<◌, ◌≡◌, refl, List, [], ◌∷◌, ◌++◌, length}
use Rattle.std.proofs.Common.{div-add-mod', mod-lt, arith, sym, lt-ltb, le-ltb}
use Rattle.std.proofs.Math.Decide.{dec_lt}
use Rattle.std.specs.Fmt.{decimal as decimal_of}
use Rattle.std.proofs.lemmas.Fmt.{AppendsLastDigit, decimal_from_appends, length-decimal-le, length-decimal-le_succ}
use Rattle.values.specs.Numbers.{NumberIs}
use Rattle.values.specs.Laws.DigitLaws.{digits_append, digit_one, worth_one, worth_more, length_more, unled_one, unled_more}
use Rattle.lines.specs.Lines.{digit, last_digits, decimal}

-- ---- by tens
last_none : (n : ℕ) → last_digits zero n ≡ []
unfolding last_digits
last_none n = refl

last_one : (k n : ℕ) → n < 10 → last_digits (suc k) n ≡ digit n ∷ []
unfolding last_digits
last_one k n h = simp (lt-ltb n 10 h)

last_more : (k n : ℕ) → 10 ≤ n → last_digits (suc k) n ≡ last_digits k (n / 10) ++ (digit (n % 10) ∷ [])
unfolding last_digits
last_more k n h = simp (le-ltb n 10 h)

-- a number is ten times its tens and its ones
record Tens (n : ℕ) : Type 0 where
  whole : n / 10 * 10 + n % 10 ≡ n
  ones : n % 10 < 10

tens : (n : ℕ) → Tens n
tens n = let z : 0 < 10 = omega arith in record { whole = div-add-mod' n 10; ones = mod-lt n {m = 10} z }

-- ---- "digits without leading zeros; 0 alone is allowed"
number_one_digit : (n : ℕ) → n < 10 → NumberIs (digit n ∷ []) n
number_one_digit n h =
    let e = worth_one (digit n) in
    let x : 48 ≤ 48 + n = omega arith in
    let y : 48 + n ≤ 57 = omega arith in
    record { digit = digit_one (digit n) x y; some = omega arith; lead = unled_one (digit n); value = omega arith }

number_digit_more : (p : List ℕ) (m d n : ℕ) → NumberIs p m → 0 < m → d < 10 → n ≡ m * 10 + d → NumberIs (p ++ (digit d ∷ [])) n
number_digit_more p m d n w h g e =
    let v = w.value in
    let u = worth_more p (digit d) in
    let x : 48 ≤ 48 + d = omega arith in
    let y : 48 + d ≤ 57 = omega arith in
    let j = length_more p (digit d) in
    record {
      digit = digits_append p (digit d ∷ []) w.digit (digit_one (digit d) x y);
      some = omega arith;
      lead = unled_more p (digit d ∷ []) w.some w.lead (λ z. omega arith);
      value = omega arith;
    }

last_is : (k n : ℕ) → n < k → NumberIs (last_digits k n) n
last_is zero n h = absurd (omega arith)
last_is (suc k) n h = go (dec_lt n 10) (λ (m : ℕ) (g : m < k). last_is k m g)
  where
    go : Dec (n < 10) → ((m : ℕ) → m < k → NumberIs (last_digits k m) m) → NumberIs (last_digits (suc k) n) n
    go (yes g) r = rw (last_one k n g) (number_one_digit n g)
    go (no g) r =
        let t = tens n in
        let w = t.whole in
        let o = t.ones in
        let x : 10 ≤ n = omega arith in
        let y : n / 10 < k = omega arith in
        let z : 0 < n / 10 = omega arith in
        rw (last_more k n x) (number_digit_more (last_digits k (n / 10)) (n / 10) (n % 10) n (r (n / 10) y) z o (sym w))

pub decimal_is : (n : ℕ) → NumberIs (decimal n) n
unfolding decimal
decimal_is n = last_is (suc n) n (omega arith)

-- ---- what the library writes
appends : AppendsLastDigit last_digits
appends = record { one = λ k n h. last_one k n h; more = λ k n h. last_more k n h }

-- of a number of 64 bits
pub decimal_same : (n : ℕ) → n < 2 ^ 64 → decimal_of n ≡ decimal n
unfolding decimal
decimal_same n h =
    let l = length-decimal-le_succ n h in
    let g : length (decimal_of n) ≤ suc n = omega arith in
    sym (decimal_from_appends last_digits appends (suc n) n h g)

-- which has at most 20
pub decimal_short : (n : ℕ) → n < 2 ^ 64 → length (decimal n) ≤ 20
decimal_short n h =
    let x : n < 10 ^ 20 = omega arith in
    let z : 0 < 20 = omega arith in
    rw (← decimal_same n h) (length-decimal-le 20 n z x h)
