-- The table of refusals: the number of each case.
use Rattle.std.specs.Prelude.{ℕ, Option, None, Some}
use Rattle.numbers.specs.declared.Number.{Number}
use Rattle.numbers.specs.declared.Number.TheVariants as number

abbrev pub table_number : Number → ℕ
table_number number.TooLong = 1
table_number number.Characters = 2
table_number number.Header = 3
table_number number.End = 4
table_number number.Count = 5
table_number number.Reference = 6
table_number number.Strays = 7
table_number number.Position = 8
table_number number.Room = 9
table_number number.Byte = 10
table_number number.Unclosed = 11
table_number number.Type = 12
table_number number.TooMany = 13
table_number number.Lists = 14
table_number number.Placement = 16
table_number number.TrailerCount = 17
table_number number.TrailerReference = 18
table_number number.LineNumber = 20
table_number number.SequenceNumber = 21
table_number number.Amount = 22
table_number number.Qualifier = 23
table_number number.Currency = 24
table_number number.Exchange = 25
table_number number.Total = 26
table_number number.Parties = 27
table_number number.Details = 28
table_number number.Control = 29
table_number number.Dates = 30
table_number number.References = 31

-- what is told where a case may apply: its number, or 0 where none does
abbrev pub number_told : Option Number → ℕ
number_told None = 0
number_told (Some c) = table_number c
