-- The lesser of two numbers is the lesser of two places, and it does not matter how places are grouped. Assumes nothing.
use Rattle.std.specs.Prelude.{ℕ, ◌≤◌, ◌<◌, ◌≡◌, refl, min, Bool, true, false, leb, Option, None, Some}
use Rattle.std.proofs.Common.{arith, ap, leb-true, leb-false, le-leb}
use Rattle.std.proofs.lemmas.Bool.{lt-leb}
use Rattle.numbers.specs.Laws.TableLaws.{number_one}
use Rattle.numbers.specs.declared.Number.{Number}
use Rattle.numbers.specs.Table.{table_number}
use Rattle.faults.specs.declared.Fault as code
use Rattle.faults.specs.Firsts.{lesser_by, lesser, Told, told_by, Fault, told_of}

pub lesser_min : (p q : ℕ) → Some (min p q) ≡ lesser_by (leb p q) p q
lesser_min p q = go (leb p q) refl
  where
    go : (t : Bool) → leb p q ≡ t → Some (min p q) ≡ lesser_by t p q
    go true e = let h = leb-true p q e in ap Some (omega arith)
    go false e = let h = leb-false p q e in ap Some (omega arith)

pub lesser_last : (a : Option ℕ) → lesser a None ≡ a
unfolding lesser
lesser_last None = refl
lesser_last (Some p) = refl

-- grouping
nested : (p q r : ℕ) (t u : Bool) → leb p q ≡ t → leb q r ≡ u → lesser (lesser_by t p q) (Some r) ≡ lesser (Some p) (lesser_by u q r)
unfolding lesser
nested p q r true true e f = let h = leb-true p q e in let g = leb-true q r f in let w : p ≤ r = omega arith in rw (e, le-leb p r w)
nested p q r true false e f = refl
nested p q r false true e f = rw (e, f)
nested p q r false false e f = let h = leb-false p q e in let g = leb-false q r f in let w : r < p = omega arith in rw (f, lt-leb p r w)

pub lesser_group : (a b c : Option ℕ) → lesser (lesser a b) c ≡ lesser a (lesser b c)
unfolding lesser
lesser_group None b c = refl
lesser_group (Some p) None c = refl
lesser_group (Some p) (Some q) None = lesser_last (lesser_by (leb p q) p q)
lesser_group (Some p) (Some q) (Some r) = nested p q r (leb p q) (leb q r) refl refl

-- no two faults are told alike
abbrev number_or : Option Told → ℕ
number_or None = 0
number_or (Some a) = a.number

abbrev segment_or : Option Told → ℕ
segment_or None = 0
segment_or (Some a) = a.segment

module _ (N : Type 0) (number : N → ℕ) (one : (a b : N) → number a ≡ number b → a ≡ b) where
  pub fault_one_by : (f g : Option (code.Fault N)) → told_by number f ≡ told_by number g → f ≡ g
  fault_one_by None None e = refl
  fault_one_by None (Some g) e = absurd (let z : ◌≡◌ {A = ℕ} 0 1 = cc in omega arith)
  fault_one_by (Some f) None e = absurd (let z : ◌≡◌ {A = ℕ} 0 1 = cc in omega arith)
  fault_one_by (Some f) (Some g) e =
      let p = one f.number g.number (ap number_or e) in
      let q = ap segment_or e in
      λ i. Some (record { number = p i; segment = q i })

pub fault_one : (f g : Option Fault) → told_of f ≡ told_of g → f ≡ g
fault_one = fault_one_by Number table_number number_one
