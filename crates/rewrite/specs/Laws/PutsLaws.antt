-- A byte put some times, and a byte of a value. Assumes nothing.
use Rattle.std.specs.Prelude.{ℕ, suc, zero, ◌+◌, ◌-◌, ◌≤◌, ◌<◌, ◌≡◌, List, [], ◌∷◌, ◌++◌, Bool, true, false, replicate}
use Rattle.std.proofs.Common.{arith, ap, ◌∙◌}
use Rattle.lent.specs.Forms.Puts.{Puts, Putting}
use Rattle.lent.specs.Laws.PutsLaws.{puts_more, putting_start, putting_more, putting_done, putting_same}
use Rattle.rewrite.specs.Plain.{is_released, plain_byte}

-- ---- a byte some times, i of the n put so far
times_more : (left b : ℕ) → 0 < left → replicate left b ≡ (b ∷ []) ++ replicate (left - 1) b
times_more zero b h = absurd (omega arith)
times_more (suc n) b h = let e : n ≡ suc n - 1 = omega arith in ap (λ (m : ℕ). b ∷ replicate m b) e

pub times_start : (j n b : ℕ) (o : List ℕ) → Putting j (replicate n b) o o j (replicate (n - 0) b)
times_start j n b o = let e : n ≡ n - 0 = omega arith in putting_same j j (replicate n b) o o (replicate n b) (putting_start j (replicate n b) o) (replicate (n - 0) b) (ap (λ (m : ℕ). replicate m b) e)

module _ (j k : ℕ) (text o o' : List ℕ) (n i b : ℕ) (w : Putting j text o o' k (replicate (n - i) b)) where
  pub times_put : i < n → (o'' : List ℕ) (z : ℕ) → Puts k (b ∷ []) o' o'' z → Putting j text o o'' z (replicate (n - (i + 1)) b)
  times_put h o'' z p =
      let e : n - i - 1 ≡ n - (i + 1) = omega arith in
      putting_more j k text o o' (replicate (n - i) b) w (b ∷ []) (replicate (n - (i + 1)) b) o'' z
      (times_more (n - i) b (omega arith) ∙ ap (λ (m : ℕ). b ∷ replicate m b) e) p

  pub times_done : n ≤ i → Puts j text o o' k
  times_done h = let e : n - i ≡ 0 = omega arith in putting_done j k text o o' (replicate (n - i) b) w (ap (λ (m : ℕ). replicate m b) e)

-- ---- a byte of a value
module _ (j k n b : ℕ) (o o' o'' : List ℕ) where
  pub byte_released : (t : Bool) → t ≡ is_released b → t ≡ true → Puts j (63 ∷ []) o o' k → Puts k (b ∷ []) o' o'' n → Puts j (plain_byte b) o o'' n
  unfolding plain_byte
  byte_released t e f p q = rw (← e, f) (puts_more j k n (63 ∷ []) (b ∷ []) o o' o'' p q)

pub byte_plain : (j k b : ℕ) (o o' : List ℕ) (t : Bool) → t ≡ is_released b → t ≡ false → Puts j (b ∷ []) o o' k → Puts j (plain_byte b) o o' k
unfolding plain_byte
byte_plain j k b o o' t e f p = rw (← e, f) p
