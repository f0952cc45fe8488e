-- 32 bits hold the numbers of a step. Assumes nothing.
use Rattle.std.specs.Prelude.{ℕ, ◌≤◌, ◌≡◌, List, Some, Ok}
use Rattle.std.proofs.Common.{arith, subst}
use Rattle.lent.specs.Lists.{Lists}
use Rattle.report.specs.Answers.{Report}
use Rattle.report.specs.Forms.Few.{FewIn}
use Rattle.report.specs.Laws.FewLaws.{report_few}
use Rattle.walk.specs.declared.Walked as code
use Rattle.walk.specs.Steps.{Walked}
use Rattle.walk.specs.Steps as walk
use Rattle.walk.specs.Walks.{Walks, walks_message, walks_nothing, walks_refused, Judges, judges}
use Rattle.walk.specs.Laws.PlaceLaws.{found_small, walked_start, walked_end, walked_report}
use Rattle.twineherald.specs.Forms.Few.{FewWalked, few_message, few_nothing, few_refused}

pub walk_few : (b : List ℕ) (at : ℕ) (x x' : Lists) (w : Walked) → Walks b at x x' w → FewWalked w
walk_few b at x x' w (walks_message v una a e y n p r) = let z = found_small b at a e p in few_message a e y (omega arith) (omega arith) (report_few v _ x x' y r)
walk_few b at x x' w (walks_nothing p r) = few_nothing
walk_few b at x x' w (walks_refused f p r) = few_refused f

pub judge_few : (b : List ℕ) (at : ℕ) (w : Walked) → Judges b at w → FewWalked w
judge_few b at w (judges x x' l h) = walk_few b at x x' w h

record Bounds (a e : ℕ) (r : Report) : Type 0 where
  start : a ≤ 1048576
  end : e ≤ 1048576
  counts : FewIn r

bounds : (w : Walked) → FewWalked w → (a e : ℕ) (r : Report) → w ≡ walk.Message a e r → Bounds a e r
bounds w (few_message b c y h g k) a e r q =
    let i = walked_start b c y a e r q in
    let j = walked_end b c y a e r q in
    let l = walked_report b c y a e r q in
    record { start = omega arith; end = omega arith; counts = subst FewIn l k }
bounds w few_nothing a e r q = absurd (let i : ◌≡◌ {A = ℕ} 0 1 = cc in omega arith)
bounds w (few_refused f) a e r q = absurd (let i : ◌≡◌ {A = ℕ} 0 1 = cc in omega arith)

module _ (w : Walked) (h : FewWalked w) (m : code.Walked) (q : w ≡ Ok (Some m)) where
  pub start_small : m.start ≤ 1048576
  start_small = (bounds w h m.start m.end m.report q).start

  pub end_small : m.end ≤ 1048576
  end_small = (bounds w h m.start m.end m.report q).end

  pub counts_few : FewIn m.report
  counts_few = (bounds w h m.start m.end m.report q).counts
