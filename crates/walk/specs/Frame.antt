-- What a step of the walk finds, the message's report aside: "walking checks 1, 2, 8, 4, then the message".
use Rattle.std.specs.Prelude.{ℕ, List, length, ltb, Option, Some, None, Result, Ok, Err}
use Rattle.numbers.specs.declared.Number.TheVariants as numbers
use Rattle.service.specs.declared.Service.{Service}
use Rattle.service.specs.declared.Characters.{Characters}
use Rattle.service.specs.Service.{characters_of}
use Rattle.service.specs.Tests.{if}
use Rattle.interchange.specs.Answers.{Refusal}
use Rattle.interchange.specs.Answers.{Found, refusal}
use Rattle.interchange.specs.Finds as found
use Rattle.interchange.specs.Messages.{found_from}

-- a message from its start up to but excluding its end, "which is the next position"; "none is left"; or a refusal
abbrev pub Step : Type 0
Step = Found

abbrev pub message : ℕ → ℕ → Step
message a e = found.Message a e

abbrev pub nothing : Step
nothing = found.Nothing

abbrev pub refused : Refusal → Step
refused f = Err f

-- 8: "walk position above the buffer's length". 4: "an unfinished segment before the found message's end, or anywhere if none is found"
unfoldable pub step_at : Service → List ℕ → ℕ → Step
step_at v s at = if (ltb (length s) at) (refused (refusal numbers.Position)) (found_from v s at)

-- 2: "service characters break the rule above or are cut short"
abbrev pub step_with : List ℕ → ℕ → Option Characters → Step
step_with s at (Some c) = step_at c.service s at
step_with s at None = refused (refusal numbers.Characters)

-- 1: "interchange over 1,048,576 bytes"
unfoldable pub step_from : List ℕ → ℕ → Step
step_from s at = if (ltb 1048576 (length s)) (refused (refusal numbers.TooLong)) (step_with s at (characters_of s))
