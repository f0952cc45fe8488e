-- A message's segments with their rows on a table.
use Rattle.std.specs.Prelude.{ℕ, List}
use Rattle.service.specs.declared.Service.{Service}
use Rattle.chart.specs.Table.{Table}
use Rattle.chart.specs.Tags.{tags_of}
use Rattle.chart.specs.Forms.Next.{rows_of}
use Rattle.message.specs.Segs.{Seg, segs_of}

abbrev pub placed_on : Table → Service → List ℕ → List Seg
placed_on t v m = segs_of v m (rows_of t (tags_of v m))
