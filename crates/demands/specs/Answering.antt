-- Demand 1: "Every call answers, for all bytes and all lent room." The contracts that are relations can be met whatever the bytes and the lists; the others say what the answer equals.
use Rattle.std.specs.Prelude.{ℕ, List}
use Rattle.service.specs.declared.Service.{Service}
use Rattle.interchange.specs.Answers.{Opening, Closing}
use Rattle.interchange.specs.Opened.{OpenedAs}
use Rattle.interchange.specs.Closed.{ClosedAs}
use Rattle.lent.specs.Lists.{Lists, Left}
use Rattle.report.specs.Reported.{Reported}
use Rattle.report.specs.Answers.{Report}
use Rattle.report.specs.Judged.{Judged}
use Rattle.walk.specs.Steps.{Walked}
use Rattle.walk.specs.Walks.{Walks, Judges}
use Rattle.twineherald.specs.declared.ClosingNumbers.{ClosingNumbers}
use Rattle.twineherald.specs.Numbers.{OpenedWith, ClosedWith, Stepped, Checked}
use Rattle.twineherald.specs.Several.{SteppedEach}

-- some answer, with some content of the lists after it
abbrev pub Some : {A : Type 0} → (Lists → A → Type 0) → Type 0
Some {A} f = (g : Left A) × f g.lists g.answer

pub record Answering : Type 0 where
  pub opening : (s : List ℕ) → (o : Opening) × OpenedAs s o
  pub closing : (s : List ℕ) → (c : Closing) × ClosedAs s c
  pub check : (v : Service) (m : List ℕ) (x : Lists) → Some (Reported v m x)
  pub judge : (v : Service) (m : List ℕ) → (y : Report) × Judged v m y
  pub walk : (b : List ℕ) (at : ℕ) (x : Lists) → Some (Walks b at x)
  pub walk_judge : (b : List ℕ) (at : ℕ) → (w : Walked) × Judges b at w
  pub c_open : (b : List ℕ) → (n : ℕ) × OpenedWith b n
  pub c_close : (b : List ℕ) → (y : ClosingNumbers) × ClosedWith b y
  pub c_check : (h m : List ℕ) (x : Lists) → Some (Checked h m x)
  pub c_walk : (b : List ℕ) (at : ℕ) (x : Lists) → Some (Stepped b at x)
  pub c_walk_each : (b ps : List ℕ) (a : List (List ℕ)) → (a' : List (List ℕ)) × (x : ℕ) × SteppedEach b ps a a' x
