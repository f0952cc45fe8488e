-- The segments of a message that are left at a place, each with the row that follows from the one before it.
use Prim.Native.Nat.{ℕ}
use Rattle.std.specs.Prelude.{List}
use Rattle.service.specs.declared.Service.{Service}
use Rattle.chart.specs.Forms.Machine.{rows_by}
use Rattle.chart.specs.Forms.Next.{next_row}
use Rattle.chart.specs.Table.{Table}
use Rattle.chart.specs.Tags.{tags_from}
use Rattle.segments.specs.SegmentList.{starts_from}
use Rattle.message.specs.Segs.{Seg, segs_from}

-- the segments from byte i on, the nth the first of them, with the row prev before it
unfoldable pub segs_after : Table → Service → List ℕ → ℕ → ℕ → ℕ → List Seg
segs_after t v m n prev i = segs_from v m n (rows_by (next_row t) prev (tags_from v m i)) (starts_from v m i)
