-- What rewriting answers: so many bytes were written, or a refusal.
use Rattle.std.specs.Prelude.{ℕ, Result, Ok, Err}
use Rattle.interchange.specs.Answers.{Refusal}

abbrev pub Rewriting : Type 0
Rewriting = Result ℕ Refusal

abbrev pub Written : ℕ → Rewriting
Written n = Ok n

abbrev pub Refused : Refusal → Rewriting
Refused f = Err f
