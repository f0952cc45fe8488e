-- A step of the walk with its report: "one call finds the next message from there, checks it and, whether or not the message is refused, gives its start and its end".
use Rattle.std.specs.Prelude.{ℕ, ◌-◌, ◌≡◌, List, take, drop}
use Rattle.service.specs.declared.Service.{Service}
use Rattle.service.specs.Service.{Fit}
use Rattle.service.specs.Service.{characters_of}
use Rattle.interchange.specs.Answers.{Refusal}
use Rattle.lent.specs.Lists.{Lists}
use Rattle.report.specs.Answers.{Report}
use Rattle.report.specs.Reported.{Reported}
use Rattle.report.specs.Judged.{Enough}
use Rattle.walk.specs.Steps.{Walked}
use Rattle.walk.specs.Steps as walked
use Rattle.walk.specs.Frame.{message, nothing, refused, step_from}

-- "The bytes of a found message are handed on as a part of the interchange": from a up to but excluding e
abbrev pub between : List ℕ → ℕ → ℕ → List ℕ
between s a e = take (e - a) (drop a s)

-- the lists x before and x' after: what the step finds, and of a message its report, which "depends on these bytes, the service characters and the lent
-- room alone"; without one no list is changed
pub data Walks (s : List ℕ) (at : ℕ) (x x' : Lists) : Walked → Type 0 where
  walks_message : (v : Service) (una a e : ℕ) (y : Report) → characters_of s ≡ Fit v una → message a e ≡ step_from s at → Reported v (between s a e) x x' y → Walks s at x x' (walked.Message a e y)
  walks_nothing : nothing ≡ step_from s at → x' ≡ x → Walks s at x x' walked.Nothing
  walks_refused : (f : Refusal) → refused f ≡ step_from s at → x' ≡ x → Walks s at x x' (walked.Refused f)

-- W-203, "judged as if they were long enough": lists that are, for the message that the step finds
abbrev pub LongEnough : List ℕ → ℕ → Lists → Type 0
LongEnough s at x = (v : Service) (una a e : ℕ) → characters_of s ≡ Fit v una → message a e ≡ step_from s at → Enough v (between s a e) x

-- "what the single call gives at that position" with such lists
pub data Judges (s : List ℕ) (at : ℕ) (w : Walked) : Type 0 where
  judges : (x x' : Lists) → LongEnough s at x → Walks s at x x' w → Judges s at w
