-- What placing a message answers: the reading of its segments on the chart, or where it fails.
use Rattle.std.specs.Prelude.{◌≡◌, List, ℕ, Result, Ok, Err, ⊤}
use Rattle.service.specs.declared.Service.{Service}
use Rattle.chart.specs.Chart.{Reading, FailsAt}
use Rattle.chart.specs.Table.{Table, chart_of}
use Rattle.chart.specs.Tags.{tags_of}
use Rattle.segments.specs.SegmentList.{start_at}
use Rattle.chart.specs.Forms.Next.{rows_of}

-- number 16 is given at the segment that begins at p: j segments stand before it
pub record StuckAt (t : Table) (v : Service) (m : List ℕ) (p : ℕ) : Type 0 where
  pub j : ℕ
  pub start : p ≡ start_at v m j
  pub fails : FailsAt (chart_of t) (tags_of v m) j

-- Ok: the segments have a reading, and these are its rows
abbrev pub Answers : Table → Service → List ℕ → Result ⊤ ℕ → Type 0
Answers t v m (Ok u) = Reading (chart_of t) (tags_of v m) (rows_of t (tags_of v m))
Answers t v m (Err p) = StuckAt t v m p
