-- What opening, closing and finding answer: a value, or a refusal.
use Rattle.std.specs.Prelude.{ℕ, Option, Result, Ok, Err}
use Rattle.numbers.specs.declared.Number.{Number}
use Rattle.service.specs.declared.Service.{Service}
use Rattle.interchange.specs.declared.Refusal as code_refusal
use Rattle.interchange.specs.declared.Opened as code
use Rattle.interchange.specs.declared.Span.{Span}
use Rattle.interchange.specs.declared.Closing as closes

-- a refusal by a case of the table
abbrev pub Refusal : Type 0
Refusal = code_refusal.Refusal Number

-- a refusal at 0, 0
abbrev pub refusal : {N : Type 0} → N → code_refusal.Refusal N
refusal n = record { number = n; segment = 0; offset = 0 }

abbrev pub Opening : Type 0
Opening = Result code.Opened Refusal

abbrev pub Opens : Service → ℕ → Opening
Opens v first = Ok (record { service = v; first = first })

abbrev pub Refused : Refusal → Opening
Refused f = Err f

abbrev pub Closing : Type 0
Closing = Result closes.Closing Refusal

abbrev pub Found : Type 0
Found = Result (Option Span) Refusal
