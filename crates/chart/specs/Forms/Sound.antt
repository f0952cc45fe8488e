-- The tests that a table passes by being computed; what follows from them is proved once for every table that passes.
use Rattle.std.specs.Prelude.{Bool, true, not, ◌&&◌ as and, ◌||◌ as or, [], ◌∷◌, ℕ, zero, suc, ◌+◌, T, ltb, leb, eqb, length}
use Rattle.service.specs.Tests.{alike}
use Rattle.table.specs.Entries.{parent_in, required}
use Rattle.chart.specs.Chart.{Rows, none, row}
use Rattle.chart.specs.Forms.Machine.{only, det_k, good_k, agree, guides_k, labels, closing}
use Rattle.values.specs.Forms.Codes.{UNT}
use Rattle.chart.specs.Table.{Table, chart_of}
use Rattle.chart.specs.Forms.Columns.{tag_of, parent_of, status_of, repeats_of, end_of, req_of, most_of, first_of}
use Rattle.chart.specs.Forms.Next.{next_row}

-- a test of every row
unfoldable pub all_to : ℕ → (ℕ → Bool) → Bool
all_to zero P = true
all_to (suc n) P = and (P n) (all_to n P)

-- nesting and order: the rows of the table from lo to hi are those of the tree
unfoldable pub nests : Table → ℕ → ℕ → Rows → Bool
nests t lo hi none = eqb lo hi
nests t lo hi (row num tag req most kids rest) =
    and (ltb lo (length t))
    (and (leb lo (first_of t lo))
    (and (ltb (first_of t lo) (end_of t lo))
    (and (leb (end_of t lo) hi)
    (and (eqb num (first_of t lo))
    (and (eqb tag (tag_of t lo))
    (and (alike req (req_of t lo))
    (and (eqb most (most_of t lo)) (and (nests t (first_of t lo + 1) (end_of t lo) kids) (nests t (end_of t lo) hi rest)))))))))

-- no row has the parent p
unfoldable pub childless : ℕ → Table → Bool
childless p [] = true
childless p (l ∷ ls) = and (not (eqb (parent_in l) p)) (childless p ls)

-- 'each occurrence of a group is its first segment once': a row has no rows inside it, or the first of them is a segment of its own tag, required, once
unfoldable pub heads : Table → ℕ → Bool
heads t r =
    or (childless r t)
    (and (eqb (parent_of t (suc r)) r)
    (and (childless (suc r) t)
    (and (eqb (tag_of t (suc r)) (tag_of t r)) (and (required (status_of t (suc r))) (eqb (repeats_of t (suc r)) 1)))))

-- 'The message is such a group, opened by UNH': its own row has all the others inside it, is required, and comes once
unfoldable pub alone : Table → Bool
alone t = and (ltb 0 (length t)) (and (eqb (end_of t 0) (length t)) (and (req_of t 0) (eqb (most_of t 0) 1)))

pub record Sound (t : Table) : Type 0 where
  -- all rows are the message's
  pub whole : T (alone t)
  -- the lines nest as the tree does, in its order
  pub nested : T (nests t 0 (length t) (chart_of t))
  -- each group begins with its first segment
  pub headed : T (all_to (length t) (heads t))
  -- no tag is ever in doubt, and what must be may be
  pub decided : T (det_k (only (chart_of t)))
  pub allowed : T (good_k (only (chart_of t)))
  -- the row of each segment follows from the row before it
  pub near : T (agree (next_row t 0) (only (chart_of t)))
  pub far : T (guides_k (next_row t) (only (chart_of t)))
  -- each row of the tree has its tag in the table
  pub labelled : T (labels (tag_of t) (chart_of t))
  -- a message's last segment is its UNT, and no other is
  pub closed : T (closing UNT (chart_of t))
