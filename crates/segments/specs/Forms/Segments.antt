-- The segment that begins at a position of a text.
use Rattle.std.specs.Prelude.{ℕ, ◌+◌, List, false, length, drop, ltb}
use Rattle.service.specs.declared.Service.{Service}
use Rattle.service.specs.Tests.{if}
use Rattle.std.specs.Prelude.{Option}
use Rattle.std.specs.Prelude.{Some, None}
use Rattle.segments.specs.declared.Segment.{Segment}
use Rattle.segments.specs.declared.Segment.TheVariants.{Finished, Unfinished, Nothing}
use Rattle.segments.specs.Forms.Bytes.{end_from, past_breaks}

-- by its end: bytes that no terminator ends are an unfinished segment; breaks after a terminator belong to nothing
abbrev pub segment_by : List ℕ → Option ℕ → Segment
segment_by s (Some t) = Finished t (past_breaks (t + 1) (drop (t + 1) s))
segment_by s None = Unfinished

-- the segment at i, and where the next one begins; nothing where no byte is left
unfoldable pub segment_at : Service → ℕ → List ℕ → Segment
segment_at v i s = if (ltb i (length s)) (segment_by s (end_from v false i (drop i s))) Nothing
