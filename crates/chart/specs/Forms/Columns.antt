-- The table's columns, as the code reads them, and what rows of the table are in the tree.
use Rattle.std.specs.Prelude.{◌≡◌, Bool, ℕ, ◌+◌, ◌<◌, ◌≤◌, ltb, get_or, length}
use Rattle.service.specs.Tests.{if}
use Rattle.table.specs.declared.Row.{Row}
use Rattle.table.specs.declared.Status.{Status}
use Rattle.table.specs.Entries.{tag_in, parent_in, end_in, status_in, repeats_in, most_in, required, blank}
use Rattle.chart.specs.Chart.{Rows, none, row}
use Rattle.chart.specs.Table.{Table}

-- the line of row r
abbrev pub line_of : Table → ℕ → Row
line_of t r = get_or t r blank

abbrev pub tag_of : Table → ℕ → ℕ
tag_of t r = tag_in (line_of t r)

unfoldable pub parent_of : Table → ℕ → ℕ
parent_of t r = parent_in (line_of t r)

abbrev pub end_of : Table → ℕ → ℕ
end_of t r = end_in (line_of t r)

abbrev pub status_of : Table → ℕ → Status
status_of t r = status_in (line_of t r)

abbrev pub repeats_of : Table → ℕ → ℕ
repeats_of t r = repeats_in (line_of t r)

unfoldable pub req_of : Table → ℕ → Bool
req_of t r = required (status_of t r)

unfoldable pub most_of : Table → ℕ → ℕ
most_of t r = most_in (line_of t r)

-- the row of the first segment of an occurrence: the next row for a group, the row itself for a segment
unfoldable pub first_of : Table → ℕ → ℕ
first_of t r = if (ltb (r + 1) (end_of t r)) (r + 1) r

-- the rows of the table from lo to hi are these
pub data Is (t : Table) : ℕ → ℕ → Rows → Type 0 where
  is_none : {i : ℕ} → Is t i i none
  is_row : {lo hi num tag : ℕ} {req : Bool} {most : ℕ} {kids rest : Rows}
      → lo < length t → lo ≤ first_of t lo → first_of t lo < end_of t lo → end_of t lo ≤ hi → num ≡ first_of t lo → tag ≡ tag_of t lo → req ≡ req_of t lo → most ≡ most_of t lo
      → Is t (first_of t lo + 1) (end_of t lo) kids → Is t (end_of t lo) hi rest → Is t lo hi (row num tag req most kids rest)

abbrev pub row_at : Table → ℕ → Rows → Rows → Rows
row_at t r kids rest = row (first_of t r) (tag_of t r) (req_of t r) (most_of t r) kids rest

-- rows of the table from lo to hi
pub record Some (t : Table) (lo hi : ℕ) : Type 0 where
  pub rows : Rows
  pub are : Is t lo hi rows

-- a row of the table with rows below it
pub record RowIs (t : Table) (r : ℕ) : Type 0 where
  pub small : r < length t
  pub up : r ≤ first_of t r
  pub down : first_of t r < end_of t r
  pub kids : Rows
  pub below : Is t (first_of t r + 1) (end_of t r) kids
