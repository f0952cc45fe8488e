-- Going from segment to segment: a cursor, and where it stands.
use Rattle.std.specs.Prelude.{◌≡◌, List, ℕ, ◌<◌, ◌≤◌, ltb, length, drop}
use Rattle.service.specs.declared.Service.{Service}
use Rattle.service.specs.Tests.{if}
use Rattle.segments.specs.declared.Segment.{Segment}
use Rattle.segments.specs.declared.Segment.TheVariants.{Finished, Unfinished, Nothing}
use Rattle.segments.specs.Forms.Segments.{segment_at}
use Rattle.chart.specs.declared.Cursor.{Cursor}
use Rattle.chart.specs.Tags.{tag_on, tags_from, tags_of}
use Rattle.segments.specs.SegmentList.{starts_from, starts_of}

-- the tag of the segment that begins at i, 0 past the last one
unfoldable pub tag_at : Service → List ℕ → ℕ → ℕ
tag_at v m i = if (ltb i (length m)) (tag_on v m i) 0

-- the cursor at i
abbrev pub cursor_at : Service → List ℕ → ℕ → Cursor
cursor_at v m i = record { at = i; tag = tag_at v m i }

-- the cursor after c, by the segment at c
abbrev pub step_by : Segment → Service → List ℕ → Cursor → Cursor
step_by (Finished t n) v m c = cursor_at v m n
step_by Unfinished v m c = record { at = length m; tag = 0 }
step_by Nothing v m c = c

-- the cursor one segment further
unfoldable pub step_from : Service → List ℕ → Cursor → Cursor
step_from v m c = step_by (segment_at v c.at m) v m c

-- from a place i of n bytes the next place, j, lies further on
pub record Onward (n i j : ℕ) : Type 0 where
  pub further : i < n → i < j

-- r is the cursor at i
pub record CursorIs (v : Service) (m : List ℕ) (i : ℕ) (r : Cursor) : Type 0 where
  pub at : r.at ≡ i
  pub tag : r.tag ≡ tag_at v m i

-- r is the cursor after c
pub record Stepped (v : Service) (m : List ℕ) (c r : Cursor) : Type 0 where
  pub is : r ≡ step_from v m c
  pub onward : Onward (length m) c.at r.at

-- the cursor's tag is that of the segment at it
pub record Tagged (v : Service) (m : List ℕ) (c : Cursor) : Type 0 where
  pub tag : c.tag ≡ tag_at v m c.at

-- the cursor c stands at the segment before which i stand, or past the last one
pub record Stands (v : Service) (m : List ℕ) (i : ℕ) (c : Cursor) : Type 0 where
  pub within : c.at ≤ length m
  pub count : i ≤ length (tags_of v m)
  pub starts : drop i (starts_of v m) ≡ starts_from v m c.at
  pub tags : drop i (tags_of v m) ≡ tags_from v m c.at
  pub tagged : Tagged v m c
