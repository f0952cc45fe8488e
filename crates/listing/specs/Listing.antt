-- "Lent lists of 16-, 32- and 64-bit numbers receive the row and the start of every segment (from the UNH's first byte) and the total of every order; entries beyond these keep their content."
use Rattle.std.specs.Prelude.{ℕ, ◌%◌, Bool, ◌&&◌, List, map, leb, length, take}
use Rattle.service.specs.declared.Service.{Service}
use Rattle.service.specs.Tests.{if}
use Rattle.segments.specs.SegmentList.{starts_of}
use Rattle.chart.specs.Table.{Table}
use Rattle.chart.specs.Tags.{tags_of}
use Rattle.chart.specs.Forms.Next.{rows_of}
use Rattle.lent.specs.Lists.{Lists, lists}
use Rattle.lent.specs.Over.{over}
use Rattle.message.specs.Segs.{segs_of}
use Rattle.message.specs.Rules.{totals_of}

-- what 16 bits take of a number; `rows_low` of ListingLaws: of a row of a table that has fewer than 65,536, all
abbrev pub low16 : ℕ → ℕ
low16 x = x % 65536

-- what 32 bits take of a number; `starts_low` of ListingLaws: of a start in a message that is no longer than an interchange may be, all
abbrev pub low32 : ℕ → ℕ
low32 x = x % 4294967296

-- whether lists have room for n segments and k orders
abbrev pub has_room : ℕ → ℕ → Lists → Bool
has_room n k x = leb n (length x.rows) && leb n (length x.starts) && leb k (length x.totals)

-- the first n segments of a message written over the front of the lists, their rows by the table t, and the first k totals of these segments' orders
abbrev pub listed : Table → Service → List ℕ → ℕ → ℕ → Lists → Lists
listed t v m n k x =
    lists (over (take n (map low16 (rows_of t (tags_of v m)))) x.rows)
    (over (take n (map low32 (starts_of v m))) x.starts)
    (over (take k (totals_of (segs_of v m (take n (rows_of t (tags_of v m)))))) x.totals)

-- the lists after that, unchanged where one is too short
unfoldable pub lists_after : Table → Service → List ℕ → ℕ → ℕ → Lists → Lists
lists_after t v m n k x = if (has_room n k x) (listed t v m n k x) x
