-- put_lists: what its loop keeps.
use Prim.Native.Nat.{◌+◌}
use mathlib.Core.Path.{◌≡◌}
use Rattle.std.specs.Iterator.Adapters.{enumerate_source, enumerate_count, take_source, take_count}
use Rattle.lent.specs.Lent.{SameLists}
use Rattle.segments.specs.Left.{segments_left}
use Rattle.listing.proofs.put_lists.Given as goal
use Rattle.listing.proofs.Segments.{Listing}

abbrev pub invariant-loop-k : goal.invariant-loop-k
invariant-loop-k l =
    Listing l.t l.text.service l.text.bytes.now l.segments l.orders (enumerate_count l.k-iterator) l.n l.row (segments_left (take_source (enumerate_source l.k-iterator)))
    l.initial.lists.rows.now l.lists.rows.now l.initial.lists.starts.now l.lists.starts.now l.initial.lists.totals.now l.lists.totals.now
    × SameLists l.initial.lists l.lists
    × (take_count (enumerate_source l.k-iterator) + enumerate_count l.k-iterator ≡ l.segments)
