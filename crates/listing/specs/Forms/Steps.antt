-- One turn of the loop that lists segments.
use Rattle.std.specs.Prelude.{ℕ, ◌+◌, ◌≤◌, ◌<◌, ◌≡◌, List, set}
use Rattle.service.specs.declared.Service.{Service}
use Rattle.values.specs.Forms.Values.{amount_of}
use Rattle.values.specs.Numbers.{value_in}
use Rattle.message.specs.Segs.{row_of, MOA5}
use Rattle.message.specs.Rules.{worth}
use Rattle.listing.specs.Listing.{low16, low32}

-- one segment of the row x at i, k of them written: its row and its start are
pub record SegmentPut (i x k : ℕ) (r r' s s' : List ℕ) : Type 0 where
  pub rows : r' ≡ set r k (low16 x)
  pub starts : s' ≡ set s k (low32 i)

-- the amount of the MOA that begins at i: the second component of its first element
abbrev pub total_at : Service → List ℕ → ℕ → ℕ
total_at v m i = worth (amount_of (value_in v i m 1 1))

-- one segment of the row r at i, k of n totals written: where it is an order's own MOA and not all are, one more is
pub data TotalPut (v : Service) (m : List ℕ) (i r k n : ℕ) (t : List ℕ) : List ℕ → ℕ → Type 0 where
  total : r ≡ row_of MOA5 → k < n → TotalPut v m i r k n t (set t k (total_at v m i)) (k + 1)
  other : (r ≡ row_of MOA5 → ⊥) → TotalPut v m i r k n t t k
  full : n ≤ k → TotalPut v m i r k n t t k
