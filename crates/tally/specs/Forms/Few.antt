-- No count of a tally passes the number of segments gone over, and those left are few and lie within the bytes.
use Rattle.std.specs.Prelude.{ℕ, ◌+◌, ◌≤◌, ◌<◌, List, [], ◌∷◌, length, ⊤}
use Rattle.segments.specs.declared.Piece.{Piece}
use Rattle.segments.specs.SegmentList.{end_of}
use Rattle.tally.specs.declared.Tally.{Tally}

-- no count is above that of the segments, which is below n
pub record Below (t : Tally) (n : ℕ) : Type 0 where
  pub segments : t.segments < n
  pub orders : t.orders ≤ t.segments
  pub payments : t.payments ≤ t.segments

-- each segment of a list ends within n bytes
abbrev pub Inside : ℕ → List Piece → Type 0
Inside n [] = ⊤
Inside n (p ∷ l) = (end_of p ≤ n) × Inside n l

-- a tally with the segments that are left, of n bytes
pub record Few (t : Tally) (l : List Piece) (n : ℕ) : Type 0 where
  pub segments : t.segments + length l ≤ n
  pub orders : t.orders ≤ t.segments
  pub payments : t.payments ≤ t.segments
  pub inside : Inside n l
