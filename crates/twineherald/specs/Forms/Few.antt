-- A step whose numbers 32 bits hold.
use Rattle.std.specs.Prelude.{ℕ, ◌≤◌}
use Rattle.interchange.specs.Answers.{Refusal}
use Rattle.report.specs.Answers.{Report}
use Rattle.report.specs.Forms.Few.{FewIn}
use Rattle.walk.specs.Steps.{Walked}
use Rattle.walk.specs.Steps as walk

-- a message that was found begins and ends within 1,048,576 bytes, and its counts are few (`walk_few` of FewLaws)
pub data FewWalked : Walked → Type 0 where
  few_message : (a e : ℕ) (r : Report) → a ≤ 1048576 → e ≤ 1048576 → FewIn r → FewWalked (walk.Message a e r)
  few_nothing : FewWalked walk.Nothing
  few_refused : (f : Refusal) → FewWalked (walk.Refused f)
