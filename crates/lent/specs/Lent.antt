-- What a caller's lists hold, and that they are still the lists that the caller lent.
use Rattle.std.specs.Prelude.{◌≡◌}
use Rattle.lent.specs.declared.Lists.{Lists}
use Rattle.lent.specs.Lists.{lists, Lists as Held}

abbrev pub lent : Lists → Held
lent x = lists x.rows.now x.starts.now x.totals.now

abbrev pub SameLists : Lists → Lists → Type 0
SameLists x y = (y.rows.ghost_name ≡ x.rows.ghost_name) × (y.starts.ghost_name ≡ x.starts.ghost_name) × (y.totals.ghost_name ≡ x.totals.ghost_name)
