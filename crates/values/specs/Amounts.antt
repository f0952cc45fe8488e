-- Amounts in thousandths, as document 01, "Rules on a placed message", says.
use Rattle.std.specs.Prelude.{ℕ, ◌+◌, ◌*◌, ◌-◌, ◌^◌, ◌≤◌, ◌<◌, ◌≡◌, ◌⊎◌, List, [], ◌∷◌, ◌++◌, length}
use Rattle.values.specs.Numbers.{Digits, Unled, worth}

-- "1 to 12 digits, no leading zero unless the whole part is 0"
pub record Whole (w : List ℕ) : Type 0 where
  pub digit : Digits w
  pub some : 0 < length w
  pub most : length w ≤ 12
  pub lead : Unled w

-- "An empty whole part before a mark and digits is from now on 0" (document 02, W-202): no digits, worth 0
abbrev pub BeforeMark : List ℕ → Type 0
BeforeMark w = (w ≡ []) ⊎ Whole w

-- "a comma or a dot": "Either mark is taken, .. whichever UNA names."
abbrev pub Mark : ℕ → Type 0
Mark m = (m ≡ 44) ⊎ (m ≡ 46)

-- "1 to 3 digits"
pub record Fraction (f : List ℕ) : Type 0 where
  pub digit : Digits f
  pub some : 0 < length f
  pub most : length f ≤ 3

-- "1 to 12 digits, .., then optionally a comma or a dot and 1 to 3 digits. .. No sign, no thousands mark. The value is a whole number of
-- thousandths"
pub data AmountIs (bytes : List ℕ) (n : ℕ) : Type 0 where
  whole : Whole bytes → n ≡ worth bytes * 1000 → AmountIs bytes n
  marked : (w f : List ℕ) (m : ℕ) → bytes ≡ w ++ m ∷ f → BeforeMark w → Mark m → Fraction f → n ≡ worth w * 1000 + worth f * 10 ^ (3 - length f) → AmountIs bytes n
