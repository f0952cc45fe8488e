-- The row of a segment, from the row of the segment before it.
use Rattle.std.specs.Prelude.{◌&&◌ as and, List, [], ◌∷◌, ℕ, zero, suc, ltb, eqb, length}
use Rattle.service.specs.Tests.{if}
use Rattle.chart.specs.Forms.Machine.{rows_by}
use Rattle.chart.specs.Table.{Table}
use Rattle.chart.specs.Forms.Columns.{tag_of, parent_of, end_of, first_of}

-- the row to try after a row: the one beside it, or after the last of a group the group again
unfoldable pub next_of : Table → ℕ → ℕ
next_of t r = if (and (ltb (end_of t r) (length t)) (eqb (parent_of t (end_of t r)) (parent_of t r))) (end_of t r) (parent_of t r)

-- the rows to try from r on, at most n
unfoldable pub chain_from : Table → ℕ → ℕ → List ℕ
chain_from t zero r = []
chain_from t (suc n) r = if (ltb r (length t)) (r ∷ chain_from t n (next_of t r)) []

-- the first segment's row in the first of the rows with the tag; past the table if there is none
unfoldable pub find_in : Table → List ℕ → ℕ → ℕ
find_in t [] tag = length t
find_in t (r ∷ rs) tag = if (eqb tag (tag_of t r)) (first_of t r) (find_in t rs tag)

-- the row of a segment with the tag, after a segment at the row prev: at most as many rows are tried as the table has
unfoldable pub next_row : Table → ℕ → ℕ → ℕ
next_row t prev tag = find_in t (chain_from t (length t) prev) tag

-- the rows of the tags of a message, one by one: 0, the message's own row, stands before the first
abbrev pub rows_of : Table → List ℕ → List ℕ
rows_of t ts = rows_by (next_row t) 0 ts
