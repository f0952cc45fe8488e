-- The lines of the report program, as document 01, "Cases", says.
use Rattle.std.specs.Prelude.{ℕ, suc, zero, ◌+◌, ◌/◌, ◌%◌, ◌≡◌, cond, List, [], ◌∷◌, ◌++◌, length, ltb, leb, Result, Ok, Err}
use Rattle.numbers.specs.Table.{table_number}
use Rattle.interchange.specs.declared.Refusal.{Refusal}
use Rattle.lent.specs.Over.{over}
use Rattle.values.specs.Text.{text}
use Rattle.report.specs.declared.Counts.{Counts}
use Rattle.report.specs.Answers.{Report}

-- the digits "0" to "9" as bytes
abbrev pub digit : ℕ → ℕ
digit d = 48 + d

-- the last digits of a number, k at the most
unfoldable pub last_digits : ℕ → ℕ → List ℕ
last_digits zero n = []
last_digits (suc k) n = cond (ltb n 10) (digit n ∷ []) (last_digits k (n / 10) ++ (digit (n % 10) ∷ []))

-- a number's digits; `decimal_is` of DecimalLaws: "digits without leading zeros; 0 alone is allowed", and they write this number
unfoldable pub decimal : ℕ → List ℕ
decimal n = last_digits (suc n) n

-- words, each behind a space, and the line's end
unfoldable pub spaced : List (List ℕ) → List ℕ
spaced [] = text "\n"
spaced (w ∷ l) = text " " ++ w ++ spaced l

-- words with a space between each two, and the line's end
unfoldable pub line : List (List ℕ) → List ℕ
line [] = text "\n"
line (w ∷ l) = w ++ spaced l

-- "MSG: place, NO, number, segment, offset; or place, OK, segments, orders, payments.", by the number of what a refusal names
abbrev pub message_line_by : {N : Type 0} → (N → ℕ) → ℕ → Result Counts (Refusal N) → List ℕ
message_line_by number place (Err f) = line (text "MSG" ∷ decimal place ∷ text "NO" ∷ decimal (number f.number) ∷ decimal f.segment ∷ decimal f.offset ∷ [])
message_line_by number place (Ok c) = line (text "MSG" ∷ decimal place ∷ text "OK" ∷ decimal c.segments ∷ decimal c.orders ∷ decimal c.payments ∷ [])

-- the line of a report, whose refusal names a case of the table
abbrev pub message_line : ℕ → Report → List ℕ
message_line place told = message_line_by table_number place told

-- "END: messages, accepted, strays, closing number (0 for none)."
abbrev pub end_line : ℕ → ℕ → ℕ → ℕ → List ℕ
end_line messages accepted strays closing = line (text "END" ∷ decimal messages ∷ decimal accepted ∷ decimal strays ∷ decimal closing ∷ [])

-- "A failed opening prints only `OPEN NO` and its number."
abbrev pub open_line : ℕ → List ℕ
open_line number = line (text "OPEN" ∷ text "NO" ∷ decimal number ∷ [])

-- a line over the front of a lent room, and its length; where the room is too short, 0 and the room as it was
pub record Lined (l old new : List ℕ) (n : ℕ) : Type 0 where
  pub answer : n ≡ cond (leb (length l) (length old)) (length l) 0
  pub room : new ≡ cond (leb (length l) (length old)) (over l old) old
