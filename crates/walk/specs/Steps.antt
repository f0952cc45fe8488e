-- What the walk answers: a message from a up to but excluding e with its report, that none is left, or a refusal.
use Rattle.std.specs.Prelude.{ℕ, Option, None, Some, Result, Ok, Err}
use Rattle.interchange.specs.Answers.{Refusal}
use Rattle.report.specs.Answers.{Report}
use Rattle.walk.specs.declared.Walked as code

abbrev pub Walked : Type 0
Walked = Result (Option code.Walked) Refusal

abbrev pub Message : ℕ → ℕ → Report → Walked
Message a e y = Ok (Some (record { start = a; end = e; report = y }))

pattern abbrev pub Nothing : Walked
Nothing = Ok None

pattern abbrev pub Refused : Refusal → Walked
Refused f = Err f
