-- A chart's table as the tree that it is.
use Rattle.std.specs.Prelude.{Bool, List, [], ◌∷◌, ℕ, suc, eqb}
use Rattle.service.specs.Tests.{if}
use Rattle.table.specs.declared.Row.{Row}
use Rattle.table.specs.Entries.{tag_in, parent_in, status_in, required, most_in, outside}
use Rattle.chart.specs.Chart.{Rows, none, row}

-- a table, one row for each segment and group
abbrev pub Table : Type 0
Table = List Row

-- the row r with the rows inside it and those beside it: a segment, or a group, whose first row is its first segment
unfoldable pub row_over : ℕ → ℕ → Bool → ℕ → Rows → Rows → Rows
row_over r tag req most none rest = row r tag req most none rest
row_over r tag req most (row num t q m k others) rest = row num tag req most others rest

-- the rows inside row p, from row r on, where the lines begin: those that have it for parent, in chart order, each with the rows inside it
unfoldable pub inside : ℕ → ℕ → Table → Rows
inside p r [] = none
inside p r (l ∷ ls) =
    if (eqb p (parent_in l))
    (row_over r (tag_in l) (required (status_in l)) (most_in l) (inside r (suc r) ls) (inside p (suc r) ls))
    (inside p (suc r) ls)

-- the table as a tree
unfoldable pub chart_of : Table → Rows
chart_of t = inside outside 0 t
