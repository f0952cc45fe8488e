-- What finding answers: a message from its first byte up to but excluding its end, that none is left, or 4.
use Rattle.std.specs.Prelude.{ℕ, None, Some, Ok, Err}
use Rattle.numbers.specs.declared.Number.TheVariants as numbers
use Rattle.interchange.specs.Answers.{Found, refusal}

abbrev pub Message : ℕ → ℕ → Found
Message a e = Ok (Some (record { start = a; end = e }))

abbrev pub Nothing : Found
Nothing = Ok None

abbrev pub Unfinished : Found
Unfinished = Err (refusal numbers.End)
