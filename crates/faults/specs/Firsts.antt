-- The first of some places, and the fault that the lowest number with a place gives.
use Rattle.std.specs.Prelude.{ℕ, Bool, true, false, leb, Option, None, Some}
use Rattle.numbers.specs.declared.Number.{Number}
use Rattle.numbers.specs.Table.{table_number}
use Rattle.faults.specs.declared.Fault as code

-- the lesser of two places, by whether the first is not above the second
abbrev pub lesser_by : Bool → ℕ → ℕ → Option ℕ
lesser_by true p q = Some p
lesser_by false p q = Some q

-- "the first segment": the lesser of two places, where there are two
unfoldable pub lesser : Option ℕ → Option ℕ → Option ℕ
lesser None b = b
lesser (Some p) None = Some p
lesser (Some p) (Some q) = lesser_by (leb p q) p q

-- the place where a rule does not hold
abbrev pub place_unless : Bool → ℕ → Option ℕ
place_unless true at = None
place_unless false at = Some at

-- a number that applies, and a segment
pub record Told : Type 0 where
  pub number : ℕ
  pub segment : ℕ

abbrev pub told : ℕ → ℕ → Told
told n s = record { number = n; segment = s }

abbrev pub fault_at : ℕ → ℕ → Option Told
fault_at n s = Some (told n s)

-- a fault as it is told, by the number of what it names
abbrev pub told_by : {N : Type 0} → (N → ℕ) → Option (code.Fault N) → Option Told
told_by number None = None
told_by number (Some f) = fault_at (number f.number) f.segment

-- a fault that names a case of the table
abbrev pub Fault : Type 0
Fault = code.Fault Number

abbrev pub told_of : Option Fault → Option Told
told_of f = told_by table_number f

-- "The lowest number that applies is given": a number with a place stands before the faults of higher numbers
abbrev pub number_first : ℕ → Option ℕ → Option Told → Option Told
number_first number None other = other
number_first number (Some p) other = fault_at number p
