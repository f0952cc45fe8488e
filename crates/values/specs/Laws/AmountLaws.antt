-- One turn of the loops over an amount. Assumes nothing.
use Rattle.std.specs.Prelude.{ℕ, ◌+◌, ◌*◌, ◌-◌, ltb, refl, [], ◌/◌, ◌≤◌, ◌<◌, ◌≡◌, List, ◌∷◌, Bool, true, false, Option, Some, None}
use Rattle.std.proofs.Common.{mul-le-mul_right, arith, ◌∙◌, Fits, ⊎_elim}
use Rattle.std.proofs.Math.Path.{sym, ap}
use borrow.Author.Tests.{eq-eqb, ne_eqb, lt-ltb, le-ltb}
use Rattle.std.specs.Int.{w64}
use Rattle.std.specs.Option.{unwrap_or}
use Rattle.std.specs.Char.{IsNotAsciiDigit}
use Rattle.service.specs.Tests.{if}
use Rattle.service.specs.Service.{is_mark}
use Rattle.values.specs.declared.Value.{Value}
use Rattle.values.specs.Left.{value_left}
use Rattle.values.specs.Forms.Values.{one_more, digit_more, count_of, read_of, Part, onward, ends, left, nothing, units, whole_of, part_of, fraction, together, amount_by, amount_of}
use Rattle.values.specs.Laws.AmountIsLaws.{fraction_small, amount_of_lem, amount_below}

-- the room that is left for the digits to come
pub record Weighs (w sum : ℕ) : Type 0 where
  pub small : w ≤ 100
  pub room : sum + w * 10 ≤ 1000

pub weigh_start : Weighs 100 0
weigh_start = record { small = omega arith; room = omega arith }

module _ (w sum : ℕ) (g : Weighs w sum) (b : ℕ) (h : 48 ≤ b) (l : b ≤ 57) where
  pub weigh_mul : Fits w64 ((b - 48) * w)
  weigh_mul = let d : b - 48 ≤ 9 = omega arith in let m = mul-le-mul_right w d in omega arith

  pub weigh_add : Fits w64 (sum + (b - 48) * w)
  weigh_add = let d : b - 48 ≤ 9 = omega arith in let m = mul-le-mul_right w d in omega arith

  pub weigh_on : Weighs (w / 10) (sum + (b - 48) * w)
  weigh_on = let d : b - 48 ≤ 9 = omega arith in let m = mul-le-mul_right w d in record { small = omega arith; room = omega arith }

module _ (x : Option ℕ) (w sum : ℕ) (l : List ℕ) (inv : x ≡ fraction w sum l) where
  module _ (e : l ≡ []) where
    pub frac_of : w < 100 → Some sum ≡ x
    unfolding fraction
    frac_of h = sym (inv ∙ ap (fraction w sum) e ∙ simp (lt-ltb _ _ h))

    pub frac_none : 100 ≤ w → None ≡ x
    unfolding fraction
    frac_none h = sym (inv ∙ ap (fraction w sum) e ∙ simp (le-ltb _ _ h))

  module _ (b : ℕ) (k : List ℕ) (e : l ≡ b ∷ k) where
    frac_by : x ≡ fraction w sum (b ∷ k)
    frac_by = inv ∙ ap (fraction w sum) e

    pub frac_low : b < 48 → None ≡ x
    unfolding fraction
    frac_low h = sym (frac_by ∙ simp (lt-ltb _ _ h))

    pub frac_high : 48 ≤ b → 57 < b → None ≡ x
    unfolding fraction
    frac_high h g = sym (frac_by ∙ simp (le-ltb _ _ h, lt-ltb _ _ g))

    pub frac_other : IsNotAsciiDigit b → None ≡ x
    frac_other o = ⊎_elim frac_low (λ (g : 57 < b). let h : 48 ≤ b = omega arith in frac_high h g) o

    pub frac_long : 48 ≤ b → b ≤ 57 → w ≡ 0 → None ≡ x
    unfolding fraction
    frac_long h g z = sym (frac_by ∙ simp (le-ltb _ _ h, le-ltb _ _ g, eq-eqb _ _ z))

    pub frac_on : 48 ≤ b → b ≤ 57 → (w ≡ 0 → ⊥) → x ≡ fraction (w / 10) (sum + (b - 48) * w) k
    unfolding fraction
    frac_on h g z = frac_by ∙ simp (le-ltb _ _ h, le-ltb _ _ g, ne_eqb _ _ z)

-- ---- one more digit
one_more_is : (a : Option ℕ) (b : ℕ) → one_more (count_of a) (read_of a) b ≡ digit_more 99999999999 a b
unfolding one_more digit_more
one_more_is None b = ap (λ n. if (ltb b 48) None (if (ltb 57 b) None (Some n))) (omega arith)
one_more_is (Some n) b = refl

-- ---- the whole part
pub unwrapped : (a : Option ℕ) (n : ℕ) → n ≡ unwrap_or a 0 → n ≡ read_of a
unwrapped None n e = e
unwrapped (Some m) n e = e

module _ (x : Part) (a : Option ℕ) (l : List ℕ) (inv : x ≡ units (count_of a) (read_of a) l) where
  module _ (e : l ≡ []) where
    pub unit_ends : (n : ℕ) → a ≡ Some n → ends n ≡ x
    unfolding units
    unit_ends n q = sym (rw (e, q) at inv)

    pub unit_none : a ≡ None → nothing ≡ x
    unfolding units
    unit_none q = sym (rw (e, q) at inv)

  module _ (b : ℕ) (k : List ℕ) (e : l ≡ b ∷ k) (m : Bool) (q : m ≡ is_mark b) where
    unit_by : x ≡ if m (left (read_of a) k) (onward (digit_more 99999999999 a b) (λ n. units 1 n k))
    unfolding units
    unit_by = inv ∙ rw (e, sym q, one_more_is a b) refl

    pub unit_mark : m ≡ true → (n : ℕ) → n ≡ read_of a → left n k ≡ x
    unit_mark t n r = sym (rw (t, sym r) at unit_by)

    module _ (f : m ≡ false) (d : Option ℕ) (o : d ≡ digit_more 99999999999 a b) where
      pub unit_other : d ≡ None → nothing ≡ x
      unit_other r = sym (unit_by ∙ rw (f, sym o, r) refl)

      pub unit_more : (n : ℕ) → d ≡ Some n → x ≡ units 1 n k
      unit_more n r = unit_by ∙ rw (f, sym o, r) refl

-- ---- the whole part and the fraction together
pub fraction_below : (f : List ℕ) (k : Option ℕ) → k ≡ fraction 100 0 f → (n : ℕ) → k ≡ Some n → n < 1000
fraction_below f k d n e = fraction_small f n (sym d ∙ e)

amount_small : (l : List ℕ) (n : ℕ) → Some n ≡ amount_of l → n < 1000000000000000
amount_small l n e = amount_below l n (amount_of_lem l n (sym e))

module _ (l : List ℕ) (k : Option (ℕ × Option Value)) (c : part_of k ≡ whole_of l) where
  pub amount_none : k ≡ None → None ≡ amount_of l
  amount_none e = ap (λ j. amount_by (part_of j)) (sym e) ∙ ap amount_by c

  module _ (u : ℕ) (e : k ≡ Some (u, None)) where
    pub amount_ends : Some (u * 1000) ≡ amount_of l
    amount_ends = ap (λ j. amount_by (part_of j)) (sym e) ∙ ap amount_by c

    pub ends_below : u < 1000000000000
    ends_below = let h = amount_small l (u * 1000) amount_ends in omega arith

  module _ (u : ℕ) (rest : Value) (e : k ≡ Some (u, Some rest)) (f : Option ℕ) (d : f ≡ fraction 100 0 (value_left rest)) where
    marked_by : together u f ≡ amount_of l
    marked_by = ap (together u) d ∙ ap (λ j. amount_by (part_of j)) (sym e) ∙ ap amount_by c

    pub marked_not : f ≡ None → None ≡ amount_of l
    marked_not r = rw r at marked_by

    module _ (n : ℕ) (r : f ≡ Some n) where
      pub marked_of : Some (u * 1000 + n) ≡ amount_of l
      marked_of = rw r at marked_by

      pub marked_below : u < 1000000000000
      marked_below = let h = amount_small l (u * 1000 + n) marked_of in omega arith
