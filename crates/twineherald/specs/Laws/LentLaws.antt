-- Lists that were lent on as one struct: what is left in them is left where they came from. Assumes nothing.
use Rattle.std.specs.Prelude.{ℕ, List, ◌≡◌, Option, Some}
use Rattle.std.proofs.Common.{sym, refl}
use Rattle.lent.specs.declared.Lists.{Lists}
use Rattle.lent.specs.Lists.{lists, Lists as Held}
use Rattle.lent.specs.Lent.{lent, SameLists}
use Rattle.service.specs.declared.Characters.{Characters}
use Rattle.service.specs.Service.{characters_of}
use Rattle.report.specs.Answers.{Report}
use Rattle.report.specs.Reported.{Reported}
use Rattle.walk.specs.Steps.{Walked}
use Rattle.walk.specs.Walks.{Walks}
use Rattle.twineherald.specs.declared.StepNumbers.{StepNumbers}
use Rattle.twineherald.specs.declared.ReportNumbers.{ReportNumbers}
use Rattle.twineherald.specs.Numbers.{report_of, step_of, Stepped, stepped, Checked}
use Rattle.twineherald.specs.Laws.NumbersLaws.{check_fit}

module _ (o n : Lists) (h : SameLists o n) (r s t : List ℕ) (f : o.rows.ghost_name ≡ n.rows.ghost_name → r ≡ n.rows.now) (g : o.starts.ghost_name ≡ n.starts.ghost_name → s ≡ n.starts.now) (k : o.totals.ghost_name ≡ n.totals.ghost_name → t ≡ n.totals.now) where
  came_back : lists r s t ≡ lent n
  came_back = rw (f (sym h.0), g (sym h.1), k (sym h.2)) refl

  pub stepped_back : (b : List ℕ) (at : ℕ) (x : Held) (w : Walked) (y : StepNumbers) → Walks b at x (lent n) w → y ≡ step_of w → Stepped b at x (lists r s t) y
  stepped_back b at x w y p e = rw (came_back) (stepped w p e)

  pub checked_back : (b m : List ℕ) (c : Option Characters) → c ≡ characters_of b → (d : Characters) → c ≡ Some d → (x : Held) (w : Report) → Reported d.service m x (lent n) w → (y : ReportNumbers) → y ≡ report_of w → Checked b m x (lists r s t) y
  checked_back b m c q d e x w p y i = rw (came_back) (check_fit b m c q d e x (lent n) w p y i)
