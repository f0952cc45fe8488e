-- No two cases have one number, and none has 0. Assumes nothing.
use Rattle.std.specs.Prelude.{ℕ, ◌≡◌, refl, ◌==◌, if◌then◌else◌, Option, None, Some}
use Rattle.std.proofs.Common.{sym, ◌∙◌, ap}
use Rattle.numbers.specs.declared.Number.{Number}
use Rattle.numbers.specs.declared.Number.TheVariants as number
use Rattle.numbers.specs.Table.{table_number, number_told}

-- the case of a number of the table, none of 0
case_of : ℕ → Option Number
case_of n =
    if n == 0 then None else
    if n == 1 then Some number.TooLong else
    if n == 2 then Some number.Characters else
    if n == 3 then Some number.Header else
    if n == 4 then Some number.End else
    if n == 5 then Some number.Count else
    if n == 6 then Some number.Reference else
    if n == 7 then Some number.Strays else
    if n == 8 then Some number.Position else
    if n == 9 then Some number.Room else
    if n == 10 then Some number.Byte else
    if n == 11 then Some number.Unclosed else
    if n == 12 then Some number.Type else
    if n == 13 then Some number.TooMany else
    if n == 14 then Some number.Lists else
    if n == 16 then Some number.Placement else
    if n == 17 then Some number.TrailerCount else
    if n == 18 then Some number.TrailerReference else
    if n == 20 then Some number.LineNumber else
    if n == 21 then Some number.SequenceNumber else
    if n == 22 then Some number.Amount else
    if n == 23 then Some number.Qualifier else
    if n == 24 then Some number.Currency else
    if n == 25 then Some number.Exchange else
    if n == 26 then Some number.Total else
    if n == 27 then Some number.Parties else
    if n == 28 then Some number.Details else
    if n == 29 then Some number.Control else
    if n == 30 then Some number.Dates else
    Some number.References

case_number : (c : Number) → case_of (table_number c) ≡ Some c
unfolding case_of
case_number number.TooLong = refl
case_number number.Characters = refl
case_number number.Header = refl
case_number number.End = refl
case_number number.Count = refl
case_number number.Reference = refl
case_number number.Strays = refl
case_number number.Position = refl
case_number number.Room = refl
case_number number.Byte = refl
case_number number.Unclosed = refl
case_number number.Type = refl
case_number number.TooMany = refl
case_number number.Lists = refl
case_number number.Placement = refl
case_number number.TrailerCount = refl
case_number number.TrailerReference = refl
case_number number.LineNumber = refl
case_number number.SequenceNumber = refl
case_number number.Amount = refl
case_number number.Qualifier = refl
case_number number.Currency = refl
case_number number.Exchange = refl
case_number number.Total = refl
case_number number.Parties = refl
case_number number.Details = refl
case_number number.Control = refl
case_number number.Dates = refl
case_number number.References = refl

case_told : (c : Option Number) → case_of (number_told c) ≡ c
unfolding case_of
case_told None = refl
case_told (Some c) = case_number c

pub told_one : (a b : Option Number) → number_told a ≡ number_told b → a ≡ b
told_one a b e = sym (case_told a) ∙ ap case_of e ∙ case_told b

given : Option Number → Number → Number
given None d = d
given (Some c) d = c

pub number_one : (a b : Number) → table_number a ≡ table_number b → a ≡ b
unfolding given
number_one a b e = ap (λ (c : Option Number). given c a) (told_one (Some a) (Some b) e)
