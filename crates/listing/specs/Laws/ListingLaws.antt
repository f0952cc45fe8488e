-- What is listed where there is room and where there is none; rows and starts that are written whole. Assumes nothing.
use Rattle.std.specs.Prelude.{ℕ, ◌≤◌, ◌<◌, ◌≡◌, refl, Bool, true, false, ◌&&◌, List, [], ◌∷◌, map, length}
use Rattle.std.proofs.Common.{mod-eq_of_lt, arith, ap}
use Rattle.std.proofs.Math.Dec.{leb}
use borrow.Author.Tests.{le-leb, lt-leb}
use Rattle.service.specs.declared.Service.{Service}
use Rattle.segments.specs.SegmentList.{starts_of}
use Rattle.segments.specs.Laws.StartsLaws.{Below, starts_below}
use Rattle.chart.specs.Table.{Table}
use Rattle.chart.specs.Forms.Machine.{rows_by}
use Rattle.chart.specs.Forms.Next.{next_row}
use Rattle.chart.proofs.Stream.{next_bound}
use Rattle.lent.specs.Lists.{Lists}
use Rattle.listing.specs.Listing.{low16, low32, listed, lists_after}

both_false : (b : Bool) → b && false ≡ false
both_false true = refl
both_false false = refl

module _ (t : Table) (v : Service) (m : List ℕ) (n k : ℕ) (x : Lists) where
  pub room : n ≤ length x.rows → n ≤ length x.starts → k ≤ length x.totals → lists_after t v m n k x ≡ listed t v m n k x
  unfolding lists_after
  room a b c = rw (le-leb n (length x.rows) a, le-leb n (length x.starts) b, le-leb k (length x.totals) c)

  pub short_rows : length x.rows < n → x ≡ lists_after t v m n k x
  unfolding lists_after
  short_rows h = rw (lt-leb n (length x.rows) h)

  pub short_starts : length x.starts < n → x ≡ lists_after t v m n k x
  unfolding lists_after
  short_starts h = rw (lt-leb n (length x.starts) h, both_false (leb n (length x.rows)))

  pub short_totals : length x.totals < k → x ≡ lists_after t v m n k x
  unfolding lists_after
  short_totals h = rw (lt-leb k (length x.totals) h, both_false (leb n (length x.rows) && leb n (length x.starts)))

-- ---- the rows of a table that is not too long are written whole
pub rows_low : (t : Table) → length t < 65536 → (p : ℕ) (ts : List ℕ) → map low16 (rows_by (next_row t) p ts) ≡ rows_by (next_row t) p ts
unfolding rows_by
rows_low t h p [] = refl
rows_low t h p (c ∷ ts) =
    let b = next_bound t p c in
    rw (rows_low t h (next_row t p c) ts) (ap (λ (y : ℕ). y ∷ rows_by (next_row t) (next_row t p c) ts) (mod-eq_of_lt (omega arith)))

-- ---- starts of at most 1,048,576 bytes are written whole
low_all : (l : List ℕ) → Below 4294967296 l → map low32 l ≡ l
low_all [] h = refl
low_all (x ∷ l) h = rw (low_all l h.1) (ap (λ (y : ℕ). y ∷ l) (mod-eq_of_lt h.0))

pub starts_low : (v : Service) (m : List ℕ) → length m ≤ 1048576 → map low32 (starts_of v m) ≡ starts_of v m
starts_low v m h = low_all (starts_of v m) (starts_below v m 4294967296 (omega arith))
