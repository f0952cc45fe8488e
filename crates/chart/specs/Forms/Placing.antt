-- What placing rows, and one occurrence of a row, comes to: the machine's run, whatever is to be placed after them.
use Rattle.std.specs.Prelude.{◌≡◌, List, Bool, true, false, ◌&&◌ as and, ℕ, zero, ◌+◌, ◌^◌, ◌<◌, ltb, length, get_or, drop, Result, Ok, Err}
use Rattle.service.specs.declared.Service.{Service}
use Rattle.chart.specs.declared.Cursor.{Cursor}
use Rattle.chart.specs.declared.Turn.{Turn}
use Rattle.chart.specs.declared.Turn.TheVariants.{Takes, Owes, Passes}
use Rattle.chart.specs.Chart.{Rows}
use Rattle.chart.specs.Forms.Machine.{Frames, frame, stuck, run, takes, owed}
use Rattle.chart.specs.Table.{Table}
use Rattle.chart.specs.Forms.Columns.{tag_of, req_of, first_of, end_of, most_of, row_at, Is}
use Rattle.chart.specs.Tags.{tags_of}
use Rattle.segments.specs.SegmentList.{start_at}
use Rattle.chart.specs.Forms.Cursor.{Stands}

-- a row that may be had at place i of the tags
unfoldable pub takes_at : List ℕ → ℕ → ℕ → ℕ → ℕ → Bool
takes_at ts i c tag most = and (ltb i (length ts)) (takes (get_or ts i 0) c tag most)

-- the rows from lo to hi take the tags from i up to j, whatever is to come after them; or no message goes on at j
abbrev pub RowsTo : Table → ℕ → ℕ → List ℕ → ℕ → ℕ → Type 0
RowsTo t lo hi ts i j = (rows : Rows) → Is t lo hi rows → (K : Frames) → run (drop i ts) (frame zero rows K) i ≡ run (drop j ts) K j

abbrev pub RowsNo : Table → ℕ → ℕ → List ℕ → ℕ → ℕ → Type 0
RowsNo t lo hi ts i j = (rows : Rows) → Is t lo hi rows → (K : Frames) → run (drop i ts) (frame zero rows K) i ≡ stuck j

-- the same of one occurrence more of the row r, of which n have been had
abbrev pub OnceTo : Table → ℕ → List ℕ → ℕ → ℕ → Type 0
OnceTo t r ts i j =
    (n : ℕ) → n < most_of t r → (kids rest : Rows) → Is t (first_of t r + 1) (end_of t r) kids → (K : Frames)
    → run (drop i ts) (frame n (row_at t r kids rest) K) i ≡ run (drop j ts) (frame (n + 1) (row_at t r kids rest) K) j

abbrev pub OnceNo : Table → ℕ → List ℕ → ℕ → ℕ → Type 0
OnceNo t r ts i j =
    (n : ℕ) → n < most_of t r → (kids rest : Rows) → Is t (first_of t r + 1) (end_of t r) kids → (K : Frames)
    → run (drop i ts) (frame n (row_at t r kids rest) K) i ≡ stuck j

-- from a cursor to the cursor d, or to where no message goes on
pub record RowsPass (t : Table) (v : Service) (m : List ℕ) (lo hi : ℕ) (from d : Cursor) : Type 0 where
  pub pass : (i : ℕ) → Stands v m i from → (j : ℕ) × Stands v m j d × RowsTo t lo hi (tags_of v m) i j

pub record RowsStop (t : Table) (v : Service) (m : List ℕ) (lo hi : ℕ) (from : Cursor) (p : ℕ) : Type 0 where
  pub stop : (i : ℕ) → Stands v m i from → (j : ℕ) × (p ≡ start_at v m j) × RowsNo t lo hi (tags_of v m) i j

abbrev pub RowsDone : Table → Service → List ℕ → ℕ → ℕ → Cursor → Result Cursor ℕ → Type 0
RowsDone t v m lo hi from (Ok d) = RowsPass t v m lo hi from d
RowsDone t v m lo hi from (Err p) = RowsStop t v m lo hi from p

pub record OncePass (t : Table) (v : Service) (m : List ℕ) (r : ℕ) (from d : Cursor) : Type 0 where
  pub pass : (i : ℕ) → Stands v m i from → (j : ℕ) × Stands v m j d × OnceTo t r (tags_of v m) i j

pub record OnceStop (t : Table) (v : Service) (m : List ℕ) (r : ℕ) (from : Cursor) (p : ℕ) : Type 0 where
  pub stop : (i : ℕ) → Stands v m i from → (j : ℕ) × (p ≡ start_at v m j) × OnceNo t r (tags_of v m) i j

abbrev pub OnceDone : Table → Service → List ℕ → ℕ → Cursor → Result Cursor ℕ → Type 0
OnceDone t v m r from (Ok d) = OncePass t v m r from d
OnceDone t v m r from (Err p) = OnceStop t v m r from p

-- what a row that has been had n times makes of the segment at c: it is had once more, it is owed, or it is passed
pub record Taken (t : Table) (r n : ℕ) (c : Cursor) : Type 0 where
  pub tag : c.tag ≡ tag_of t r
  pub few : n < most_of t r
  pub fits : n + 1 < 2 ^ 64

pub record Untaken (t : Table) (r n : ℕ) (c : Cursor) (o : Bool) : Type 0 where
  pub not : takes c.tag n (tag_of t r) (most_of t r) ≡ false
  pub owes : owed (req_of t r) n ≡ o

abbrev pub TurnIs : Table → ℕ → ℕ → Cursor → Turn → Type 0
TurnIs t r n c Takes = Taken t r n c
TurnIs t r n c Owes = Untaken t r n c true
TurnIs t r n c Passes = Untaken t r n c false
