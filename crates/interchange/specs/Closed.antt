-- Closing an interchange, as document 01's numbers 5 to 7 say.
use Rattle.std.specs.Prelude.{ℕ, ◌≡◌, List}
use Rattle.numbers.specs.declared.Number.{Number}
use Rattle.numbers.specs.Table.{table_number}
use Rattle.numbers.specs.Table.{number_told}
use Rattle.std.specs.Prelude.{Option}
use Rattle.service.specs.declared.Service.{Service}
use Rattle.values.specs.Numbers.{NumberIs, value_in}
use Rattle.interchange.specs.Answers.{Closing}
use Rattle.interchange.specs.Envelope.{message_count, stray_count, unz_at, closing_with, closing_without}
use Rattle.interchange.specs.Opened.{OpenFault, Opened, Least}

-- the numbers that apply to an interchange that opens, its UNB at first
pub data CloseFault (v : Service) (s : List ℕ) (first n : ℕ) : Type 0 where
  -- "UNZ's count is not the number of messages found"
  count : (NumberIs (value_in v (unz_at v s first) s 1 0) (message_count v s first) → ⊥) → n ≡ 5 → CloseFault v s first n
  -- "its reference is not UNB's"
  reference : (value_in v (unz_at v s first) s 2 0 ≡ value_in v first s 5 0 → ⊥) → n ≡ 6 → CloseFault v s first n
  -- "strays"
  stray : (stray_count v s first ≡ 0 → ⊥) → n ≡ 7 → CloseFault v s first n

-- "lowest first", and 0 where none applies
pub data LeastOrNone (applies : ℕ → Type 0) (n : ℕ) : Type 0 where
  least : Least applies n → LeastOrNone applies n
  none : ((k : ℕ) → applies k → ⊥) → n ≡ 0 → LeastOrNone applies n

-- the answer of closing. "Closing and rewriting give 1 to 4 first, as opening does."
pub data ClosedAs (s : List ℕ) : Closing → Type 0 where
  unopened : (n : Number) → Least (OpenFault s) (table_number n) → ClosedAs s (closing_without n)
  closes : (v : Service) (first : ℕ) (n : Option Number) → Opened s v first → LeastOrNone (CloseFault v s first) (number_told n) → ClosedAs s (closing_with n v s first)
