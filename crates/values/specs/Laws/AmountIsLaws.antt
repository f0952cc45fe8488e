-- `amount_of` answers the amount that a value writes, and `Not` where it writes none. Assumes nothing.
use Rattle.std.specs.Prelude.{ℕ, suc, ◌+◌, ◌*◌, ◌-◌, ◌^◌, ◌≤◌, ◌<◌, ◌≡◌, refl, List, [], ◌∷◌, ◌++◌, Bool, true, false, ◌||◌, length, get_or, T, eqb, ltb, Option, Some, None}
use Rattle.std.proofs.Math.Nat.{pow-le-pow_right}
use Rattle.std.proofs.Common.{mul-le-mul_right, suc-mul, arith, sym, ◌∙◌, ap, subst, inl, inr, ⊎_elim, length-append, pow-add, eqb-true, ltb-false, ne_eqb, le-ltb}
use Rattle.std.proofs.Math.Decide.{dec_le}
use Rattle.std.proofs.lemmas.Bool.{eqb-false}
use Rattle.service.specs.Service.{is_mark}
use Rattle.service.specs.Tests.{if}
use Rattle.values.specs.Numbers.{Digits, none, more, Unled, worth}
use Rattle.values.specs.Amounts.{Whole, BeforeMark, Mark, Fraction, AmountIs, whole, marked}
use Rattle.values.specs.Forms.Values.{one_more, Part, ends, left, nothing, onward, units, whole_of, fraction, together, amount_by, amount_of}
use Rattle.values.specs.Laws.DigitLaws.{passed, digit_passed, digit_passes, digits_append, digit_one, append_nil, append_one, worth_one, worth_more, length_more, worth_small, worth_led, worth_pos, pow_one, unled_more, unled_first, unled_one}
use Rattle.values.specs.Laws.NumberLaws.{not_of}

-- ---- marks
mark_by : (b : ℕ) (x y : Bool) → eqb b 44 ≡ x → eqb b 46 ≡ y → (x || y) ≡ true → Mark b
mark_by b true y p q e = inl (eqb-true b 44 p)
mark_by b false true p q e = inr (eqb-true b 46 q)
mark_by b false false p q e = absurd (subst T (sym e) tt)

pub is_mark_lem : (b : ℕ) → is_mark b ≡ true → Mark b
unfolding is_mark
is_mark_lem b e = mark_by b (eqb b 44) (eqb b 46) refl refl e

pub mark_is : (b : ℕ) → Mark b → is_mark b ≡ true
unfolding is_mark
mark_is b m = ⊎_elim (λ (q : b ≡ 44). rw q) (λ (q : b ≡ 46). rw q) m

digit_no_mark : (b : ℕ) → 48 ≤ b → is_mark b ≡ false
unfolding is_mark
digit_no_mark b h =
    let n : b ≡ 44 → ⊥ = λ (q : b ≡ 44). omega arith in
    let m : b ≡ 46 → ⊥ = λ (q : b ≡ 46). omega arith in
    simp (ne_eqb b 44 n, ne_eqb b 46 m)

-- ---- the digits after a mark: one, two or three
pub read_fraction : (f : List ℕ) (n : ℕ) → fraction 100 0 f ≡ Some n → Fraction f × (n ≡ worth f * 10 ^ (3 - length f))
unfolding fraction worth
read_fraction [] n e = absurd (not_of n e)
read_fraction (a ∷ []) n e =
    let p = digit_passed a None _ (Some n) (not_of n) e in
    let q : 0 + (a - 48) * 100 ≡ n = cc p.2 in
    (record { digit = digit_one a p.0 p.1; some = omega arith; most = omega arith }, omega arith)
read_fraction (a ∷ b ∷ []) n e =
    let p = digit_passed a None _ (Some n) (not_of n) e in
    let p' = digit_passed b None _ (Some n) (not_of n) p.2 in
    let q : 0 + (a - 48) * 100 + (b - 48) * 10 ≡ n = cc p'.2 in
    (record { digit = more a (b ∷ []) p.0 p.1 (digit_one b p'.0 p'.1); some = omega arith; most = omega arith }, omega arith)
read_fraction (a ∷ b ∷ c ∷ []) n e =
    let p = digit_passed a None _ (Some n) (not_of n) e in
    let p' = digit_passed b None _ (Some n) (not_of n) p.2 in
    let p'' = digit_passed c None _ (Some n) (not_of n) p'.2 in
    let q : 0 + (a - 48) * 100 + (b - 48) * 10 + (c - 48) * 1 ≡ n = cc p''.2 in (
      record { digit = more a (b ∷ c ∷ []) p.0 p.1 (more b (c ∷ []) p'.0 p'.1 (digit_one c p''.0 p''.1)); some = omega arith; most = omega arith },
      omega arith,
    )
read_fraction (a ∷ b ∷ c ∷ d ∷ f) n e =
    let p = digit_passed a None _ (Some n) (not_of n) e in
    let p' = digit_passed b None _ (Some n) (not_of n) p.2 in
    let p'' = digit_passed c None _ (Some n) (not_of n) p'.2 in
    let o = digit_passed d None _ (Some n) (not_of n) p''.2 in absurd (not_of n o.2)

write_three : (f : List ℕ) → Digits f → 0 < length f → length f ≤ 3 → fraction 100 0 f ≡ Some (worth f * 10 ^ (3 - length f))
unfolding fraction worth
write_three f none s m = absurd (omega arith)
write_three f (more a l x y none) s m = digit_passes a None _ x y ∙ ap Some (omega arith)
write_three f (more a l x y (more b l' x' y' none)) s m =
    digit_passes a None _ x y ∙ digit_passes b None _ x' y' ∙ ap Some (omega arith)
write_three f (more a l x y (more b l' x' y' (more c l'' x'' y'' none))) s m =
    digit_passes a None _ x y ∙ digit_passes b None _ x' y' ∙ digit_passes c None _ x'' y'' ∙ ap Some (omega arith)
write_three f (more a l x y (more b l' x' y' (more c l'' x'' y'' (more d k x''' y''' r)))) s m = absurd (omega arith)

pub write_fraction : (f : List ℕ) → Fraction f → fraction 100 0 f ≡ Some (worth f * 10 ^ (3 - length f))
write_fraction f r = write_three f r.digit r.some r.most

-- ---- the whole part: digits p were read, l is left
-- a number of at most eleven digits takes one more
few : (p : List ℕ) → Digits p → 0 < length p → Unled p → worth p ≤ 99999999999 → (worth p ≡ 0 → ⊥) → length p ≤ 11
few p d h u k z = go (dec_le (length p) 11)
  where
    go : Dec (length p ≤ 11) → length p ≤ 11
    go (yes w) = w
    go (no w) =
        let n : get_or p 0 0 ≡ 48 → ⊥ = λ (q : get_or p 0 0 ≡ 48). let r = u q in omega arith in
        let g = worth_led p d h n in
        let t : 0 < 10 = omega arith in
        let j : 11 ≤ length p - 1 = omega arith in
        let m = pow-le-pow_right {n = 10} t {i = 11} {j = length p - 1} j in absurd (omega arith)

-- a whole part that was read: all the bytes, or those before a mark
data Splits (l : List ℕ) (k : Part) : Type 0 where
  in_all : Whole l → k ≡ ends (worth l) → Splits l k
  at_mark : (w f : List ℕ) (m : ℕ) → l ≡ w ++ m ∷ f → BeforeMark w → Mark m → k ≡ left (worth w) f → Splits l k

-- a digit that was taken, and what it makes
record Taken (count acc b n : ℕ) : Type 0 where
  low : 48 ≤ b
  high : b ≤ 57
  room : acc ≤ 99999999999
  lead : 0 < count → acc ≡ 0 → ⊥
  sum : n ≡ acc * 10 + (b - 48)

taken : (acc b n : ℕ) → one_more 1 acc b ≡ Some n → Taken 1 acc b n
unfolding one_more
taken acc b n e =
    let a = digit_passed b None _ (Some n) (not_of n) e in
    let f = passed (ltb 99999999999 acc) None _ (Some n) (not_of n) a.2 in
    let g = passed (eqb acc 0) None _ (Some n) (not_of n) f.1 in
    let q : acc * 10 + (b - 48) ≡ n = cc g.1 in
    record { low = a.0; high = a.1; room = ltb-false 99999999999 acc f.0; lead = λ (h : 0 < 1). eqb-false acc 0 g.0; sum = sym q }

taken_first : (b n : ℕ) → one_more 0 0 b ≡ Some n → Taken 0 0 b n
unfolding one_more
taken_first b n e =
    let a = digit_passed b None _ (Some n) (not_of n) e in
    let q : 0 * 10 + (b - 48) ≡ n = cc a.2 in
    record { low = a.0; high = a.1; room = omega arith; lead = λ (h : 0 < 0). absurd (omega arith); sum = sym q }

takes : (acc b : ℕ) → 48 ≤ b → b ≤ 57 → acc ≤ 99999999999 → (acc ≡ 0 → ⊥) → one_more 1 acc b ≡ Some (acc * 10 + (b - 48))
unfolding one_more
takes acc b x y k z = digit_passes b None _ x y ∙ simp (le-ltb 99999999999 acc k, ne_eqb acc 0 z)

takes_first : (b : ℕ) → 48 ≤ b → b ≤ 57 → one_more 0 0 b ≡ Some (b - 48)
unfolding one_more
takes_first b x y = digit_passes b None _ x y ∙ ap Some (omega arith)

-- one byte after the digits p: a digit more, or a mark
module _ (p : List ℕ) (b : ℕ) (l : List ℕ) (k : Part) (d : nothing ≡ k → ⊥) (r : Whole p) (ih : Whole (p ++ b ∷ []) → units 1 (worth (p ++ b ∷ [])) l ≡ k → Splits ((p ++ b ∷ []) ++ l) k) where
  read_digit : (j : Option ℕ) → one_more 1 (worth p) b ≡ j → onward j (λ (n : ℕ). units 1 n l) ≡ k → Splits (p ++ b ∷ l) k
  read_digit None c q = absurd (d q)
  read_digit (Some n) c q =
      let a = taken (worth p) b n c in
      let z : worth p ≡ 0 → ⊥ = a.lead (omega arith) in
      let i = few p r.digit r.some r.lead a.room z in
      let j = length_more p b in
      let h' : 0 < length (p ++ b ∷ []) = omega arith in
      let t' : length (p ++ b ∷ []) ≤ 12 = omega arith in
      let r' : Whole (p ++ b ∷ []) = record { digit = digits_append p (b ∷ []) r.digit (digit_one b a.low a.high); some = h'; most = t'; lead = unled_more p (b ∷ []) r.some r.lead z } in
      rw append_one at (ih r' (ap (λ (c : ℕ). units 1 c l) (worth_more p b ∙ sym a.sum) ∙ q))

  read_by : (m : Bool) → is_mark b ≡ m → if m (left (worth p) l) (onward (one_more 1 (worth p) b) (λ (n : ℕ). units 1 n l)) ≡ k → Splits (p ++ b ∷ l) k
  read_by true c q = at_mark p l b refl (inr r) (is_mark_lem b c) (sym q)
  read_by false c q = read_digit (one_more 1 (worth p) b) refl q

read_units : (p l : List ℕ) (k : Part) → (nothing ≡ k → ⊥) → Whole p → units 1 (worth p) l ≡ k → Splits (p ++ l) k
unfolding units
read_units p [] k d r e = rw (append_nil p) (in_all r (sym e))
read_units p (b ∷ l) k d r e = read_by p b l k d r (λ r' q. read_units (p ++ b ∷ []) l k d r' q) (is_mark b) refl e

read_whole : (l : List ℕ) (k : Part) → (nothing ≡ k → ⊥) → whole_of l ≡ k → Splits l k
unfolding units worth
read_whole [] k d e = absurd (d e)
read_whole (b ∷ l) k d e = by_mark (is_mark b) refl e
  where
    by_digit : (j : Option ℕ) → one_more 0 0 b ≡ j → onward j (λ (n : ℕ). units 1 n l) ≡ k → Splits (b ∷ l) k
    by_digit None c q = absurd (d q)
    by_digit (Some n) c q =
        let a = taken_first b n c in
        let w : worth (b ∷ []) ≡ n = let m = worth_one b in let o = a.sum in omega arith in
        let r : Whole (b ∷ []) = record { digit = digit_one b a.low a.high; some = omega arith; most = omega arith; lead = unled_one b } in
        read_units (b ∷ []) l k d r (ap (λ (c : ℕ). units 1 c l) w ∙ q)

    by_mark : (m : Bool) → is_mark b ≡ m → if m (left 0 l) (onward (one_more 0 0 b) (λ (n : ℕ). units 1 n l)) ≡ k → Splits (b ∷ l) k
    by_mark true c q = at_mark [] l b refl (inl refl) (is_mark_lem b c) (sym q)
    by_mark false c q = by_digit (one_more 0 0 b) refl q

-- the amount, by the parts
read_together : (w f : List ℕ) (n : ℕ) (x : Option ℕ) → fraction 100 0 f ≡ x → together (worth w) x ≡ Some n → Fraction f × (n ≡ worth w * 1000 + worth f * 10 ^ (3 - length f))
read_together w f n (Some j) c e =
    let a = read_fraction f j c in
    let q : worth w * 1000 + j ≡ n = cc in
    let g = a.1 in (a.0, omega arith)
read_together w f n None c e = absurd (not_of n e)

read_parts : (l : List ℕ) (k : Part) (n : ℕ) → Splits l k → amount_by k ≡ Some n → AmountIs l n
read_parts l k n (in_all r c) e = let w : worth l * 1000 ≡ n = (let q = rw c at e in cc) in whole r (sym w)
read_parts l k n (at_mark w f m q r g c) e = let a = read_together w f n (fraction 100 0 f) refl (rw c at e) in marked w f m q r g a.0 a.1

pub amount_of_lem : (l : List ℕ) (n : ℕ) → amount_of l ≡ Some n → AmountIs l n
amount_of_lem l n e = read_parts l (whole_of l) n (read_whole l (whole_of l) (λ (q : nothing ≡ whole_of l). not_of n (ap amount_by q ∙ e)) refl) e

-- ---- the other way
under : (p q : List ℕ) → Digits p → 0 < length q → length (p ++ q) ≤ 12 → worth p ≤ 99999999999
under p q d h k =
    let w = worth_small p d in
    let m = length-append p q in
    let t : 0 < 10 = omega arith in
    let j : length p ≤ 11 = omega arith in
    let g = pow-le-pow_right {n = 10} t {i = length p} {j = 11} j in omega arith

pub write_units : (p l z : List ℕ) → Digits p → 0 < length p → Digits l → Unled (p ++ l) → length (p ++ l) ≤ 12 → units 1 (worth p) (l ++ z) ≡ units 1 (worth (p ++ l)) z
unfolding units
write_units p l z d h none u s = ap (λ (q : List ℕ). units 1 (worth q) z) (sym (append_nil p))
write_units p l z d h (more b q x y r) u s =
    let g : 0 < length (b ∷ q) = omega arith in
    let k = under p (b ∷ q) d g s in
    let c = worth_pos p d h (unled_first p (b ∷ q) h g u) in
    let t : worth p ≡ 0 → ⊥ = λ (w : worth p ≡ 0). omega arith in
    let j = length_more p b in
    let h' : 0 < length (p ++ b ∷ []) = omega arith in
    let o = append_one p b q in
    rw (digit_no_mark b x)
    (rw (takes (worth p) b x y k t)
    (ap (λ (w : ℕ). units 1 w (q ++ z)) (sym (worth_more p b))
    ∙ write_units (p ++ b ∷ []) q z (digits_append p (b ∷ []) d (digit_one b x y)) h' r (subst Unled (sym o) u) (subst (λ (w : List ℕ). length w ≤ 12) (sym o) s)
    ∙ ap (λ (w : List ℕ). units 1 (worth w) z) o))

write_whole : (w z : List ℕ) → Whole w → units 0 0 (w ++ z) ≡ units 1 (worth w) z
unfolding units
write_whole w z r = go w r.digit r.some r.lead r.most
  where
    go : (w : List ℕ) → Digits w → 0 < length w → Unled w → length w ≤ 12 → units 0 0 (w ++ z) ≡ units 1 (worth w) z
    go w none h u s = absurd (omega arith)
    go w (more b q x y d) h u s =
        let h' : 0 < length (b ∷ []) = omega arith in
        rw (digit_no_mark b x) (rw (takes_first b x y) (ap (λ (c : ℕ). units 1 c (q ++ z)) (sym (worth_one b)) ∙ write_units (b ∷ []) q z (digit_one b x y) h' d u s))

-- what stands before a mark
write_before : (w f : List ℕ) (m : ℕ) → BeforeMark w → Mark m → whole_of (w ++ m ∷ f) ≡ left (worth w) f
unfolding units worth
write_before w f m (inl e) k = rw (e, mark_is m k)
write_before w f m (inr r) k = write_whole w (m ∷ f) r ∙ rw (mark_is m k)

pub of_amount : (l : List ℕ) (n : ℕ) → AmountIs l n → amount_of l ≡ Some n
unfolding units
of_amount l n (whole r e) = ap amount_by (ap whole_of (sym (append_nil l)) ∙ write_whole l [] r) ∙ ap Some (sym e)
of_amount l n (marked w f m q r k g e) = ap amount_by (ap whole_of q ∙ write_before w f m r k) ∙ ap (together (worth w)) (write_fraction f g) ∙ ap Some (sym e)

-- there is none exactly if the answer is `Not`
pub amount_not : (l : List ℕ) → amount_of l ≡ None → (n : ℕ) → AmountIs l n → ⊥
amount_not l e n r = not_of n (sym e ∙ of_amount l n r)

pub not_amount : (l : List ℕ) → ((n : ℕ) → AmountIs l n → ⊥) → amount_of l ≡ None
not_amount l h = go (amount_of l) refl
  where
    go : (k : Option ℕ) → amount_of l ≡ k → amount_of l ≡ None
    go (Some n) e = absurd (h n (amount_of_lem l n e))
    go None e = e

-- a value writes one amount
pub amount_one : (l : List ℕ) (n m : ℕ) → AmountIs l n → AmountIs l m → n ≡ m
amount_one l n m r q = let a = of_amount l n r in let b = of_amount l m q in cc

-- "below 10^15"
thousandths : (f : List ℕ) → Digits f → length f ≤ 3 → worth f * 10 ^ (3 - length f) < 1000
thousandths f d m =
    let w : suc (worth f) ≤ 10 ^ length f = worth_small f d in
    let g = mul-le-mul_right (10 ^ (3 - length f)) w in
    let e = pow-add 10 (length f) (3 - length f) in
    let n : length f + (3 - length f) ≡ 3 = omega arith in
    let k : 10 ^ (length f + (3 - length f)) ≡ 1000 = ap (λ (i : ℕ). 10 ^ i) n in
    let s = suc-mul (worth f) (10 ^ (3 - length f)) in
    let o = pow_one (3 - length f) in omega arith

pub fraction_small : (f : List ℕ) (n : ℕ) → fraction 100 0 f ≡ Some n → n < 1000
fraction_small f n e = let w = read_fraction f n e in let k = thousandths f w.0.digit w.0.most in let q = w.1 in omega arith

whole_below : (w : List ℕ) → Whole w → worth w < 1000000000000
whole_below w r =
    let x = worth_small w r.digit in
    let t : 0 < 10 = omega arith in
    let g = pow-le-pow_right {n = 10} t {i = length w} {j = 12} r.most in omega arith

before_below : (w : List ℕ) → BeforeMark w → worth w < 1000000000000
unfolding worth
before_below w (inl e) = rw e (omega arith)
before_below w (inr r) = whole_below w r

pub amount_below : (l : List ℕ) (n : ℕ) → AmountIs l n → n < 1000000000000000
amount_below l n (whole r e) = let w = whole_below l r in omega arith
amount_below l n (marked w f m q r k g e) =
    let x = before_below w r in
    let y = thousandths f g.digit g.most in omega arith
