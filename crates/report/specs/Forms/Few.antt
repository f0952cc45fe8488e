-- Counts that 32 bits hold.
use Rattle.std.specs.Prelude.{◌≤◌}
use Rattle.interchange.specs.Answers.{Refusal}
use Rattle.report.specs.declared.Counts.{Counts}
use Rattle.report.specs.Answers.{Report}
use Rattle.report.specs.Answers as report

-- the counts of an accepted message are at most 9,999 (`accepted_few` of FewLaws)
pub record Few (c : Counts) : Type 0 where
  pub segments : c.segments ≤ 9999
  pub orders : c.orders ≤ 9999
  pub payments : c.payments ≤ 9999

pub data FewIn : Report → Type 0 where
  few : (c : Counts) → Few c → FewIn (report.Accepted c)
  no_counts : (f : Refusal) → FewIn (report.Refused f)
