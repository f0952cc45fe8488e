-- The least of all that is told is told, and nothing told stands before it. Assumes nothing.
use Rattle.std.specs.Prelude.{ℕ, ◌≤◌, ◌<◌, ◌≡◌, refl, ◌⊎◌, List, [], ◌∷◌, Option, None, Some}
use Rattle.std.proofs.Common.{arith, sym, ap, subst, inl, inr, lt-ltb, le-ltb}
use Rattle.std.proofs.Math.Decide.{dec_lt}
use Rattle.faults.specs.Firsts.{fault_at}
use Rattle.message.specs.Faults.{rank, Told, told, lower, least, least_of}
use Rattle.report.specs.Reported.{In, here, there}

-- a does not stand after b
abbrev pub NotAfter : Told → Told → Type 0
NotAfter a b = (rank a.number < rank b.number) ⊎ ((rank a.number ≡ rank b.number) × (a.segment ≤ b.segment))

not_after_self : (a : Told) → NotAfter a a
not_after_self a = inr (refl, omega arith)

not_after_on : (a b c : Told) → NotAfter a b → NotAfter b c → NotAfter a c
not_after_on a b c (inl h) (inl g) = inl (omega arith)
not_after_on a b c (inl h) (inr g) = let e = g.0 in inl (omega arith)
not_after_on a b c (inr h) (inl g) = let e = h.0 in inl (omega arith)
not_after_on a b c (inr h) (inr g) = let e = h.0 in let e' = g.0 in let p = h.1 in let q = g.1 in inr (omega arith, omega arith)

-- the lower of two is one of them, and stands after neither
pub record Lower (a b c : Told) : Type 0 where
  pub one : (c ≡ a) ⊎ (c ≡ b)
  pub first : NotAfter c a
  pub second : NotAfter c b

lower_is : (a b : Told) → Lower a b (lower a b)
lower_is a b = go (dec_lt (rank a.number) (rank b.number)) (dec_lt (rank b.number) (rank a.number)) (dec_lt b.segment a.segment)
  where
    go : Dec (rank a.number < rank b.number) → Dec (rank b.number < rank a.number) → Dec (b.segment < a.segment) → Lower a b (lower a b)
    go (yes h) y z = rw (lt-ltb _ _ h) (record { one = inl refl; first = not_after_self a; second = inl h })
    go (no g) (yes h) z = let k : rank b.number ≤ rank a.number = omega arith in rw (le-ltb _ _ k, lt-ltb _ _ h) (record { one = inr refl; first = inl h; second = not_after_self b })
    go (no g) (no h) (yes i) =
        let k : rank b.number ≤ rank a.number = omega arith in
        let l : rank a.number ≤ rank b.number = omega arith in
        rw (le-ltb (rank a.number) (rank b.number) k, le-ltb (rank b.number) (rank a.number) l, lt-ltb _ _ i) (record { one = inr refl; first = inr (omega arith, omega arith); second = not_after_self b })
    go (no g) (no h) (no i) =
        let k : rank b.number ≤ rank a.number = omega arith in
        let l : rank a.number ≤ rank b.number = omega arith in
        let j : a.segment ≤ b.segment = omega arith in
        rw (le-ltb (rank a.number) (rank b.number) k, le-ltb (rank b.number) (rank a.number) l, le-ltb b.segment a.segment j) (record { one = inl refl; first = not_after_self a; second = inr (omega arith, j) })

pub least_in : (a : Told) (l : List Told) → In (least a l) (a ∷ l)
unfolding least
least_in a [] = here
least_in a (b ∷ l) = go (lower a (least b l)) (lower_is a (least b l)) (least_in b l)
  where
    go : (c : Told) → Lower a (least b l) c → In (least b l) (b ∷ l) → In c (a ∷ b ∷ l)
    go c w i = pick w.one
      where
        pick : (c ≡ a) ⊎ (c ≡ least b l) → In c (a ∷ b ∷ l)
        pick (inl e) = subst (λ (x : Told). In x (a ∷ b ∷ l)) (sym e) here
        pick (inr e) = subst (λ (x : Told). In x (a ∷ b ∷ l)) (sym e) (there i)

pub nowhere : (x : Told) (l : List Told) → l ≡ [] → In x l → ⊥
nowhere x l e here = let z : ◌≡◌ {A = ℕ} 0 1 = cc in omega arith
nowhere x l e (there i) = let z : ◌≡◌ {A = ℕ} 0 1 = cc in omega arith

pub least_first_lem : (a : Told) (l : List Told) (c : Told) → In c (a ∷ l) → NotAfter (least a l) c
unfolding least
least_first_lem a [] c here = not_after_self a
least_first_lem a [] c (there i) = absurd (nowhere c [] refl i)
least_first_lem a (b ∷ l) c here = (lower_is a (least b l)).first
least_first_lem a (b ∷ l) c (there i) = not_after_on (lower a (least b l)) (least b l) c (lower_is a (least b l)).second (least_first_lem b l c i)

-- a fault's number and segment
abbrev number_or : Option Told → ℕ
number_or None = 0
number_or (Some f) = f.number

abbrev segment_or : Option Told → ℕ
segment_or None = 0
segment_or (Some f) = f.segment

module _ (n s k t : ℕ) (e : fault_at n s ≡ fault_at k t) where
  pub same_number : n ≡ k
  same_number = ap number_or e

  pub same_segment : s ≡ t
  same_segment = ap segment_or e

pub told_is : (a : Told) (n s : ℕ) → fault_at a.number a.segment ≡ fault_at n s → a ≡ told n s
told_is a n s e = λ i. record { number = number_or (e i); segment = segment_or (e i) }

-- what is given is told
pub least_told : (l : List Told) (n s : ℕ) → least_of l ≡ fault_at n s → In (told n s) l
unfolding least_of
least_told [] n s p = absurd (let z : ◌≡◌ {A = ℕ} 0 1 = cc in omega arith)
least_told (b ∷ l) n s p =
    let w = told_is (least b l) n s p in
    subst (λ (a : Told). In a (b ∷ l)) w (least_in b l)
