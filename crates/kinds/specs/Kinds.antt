-- The kinds of messages, and the table of each one's chart.
use Rattle.std.specs.Prelude.{ℕ, List, Bool, ◌||◌}
use Rattle.table.specs.declared.Row.{Row}
use Rattle.kinds.specs.declared.Kind.{Kind}
use Rattle.kinds.specs.declared.Kind.TheVariants.{Paymul, Debmul}
use Rattle.paymul.specs.Table.{PAYMUL}
use Rattle.debmul.specs.Table.{DEBMUL}

-- "Its own chart, same placement definition"
abbrev pub table_of : Kind → List Row
table_of Paymul = PAYMUL
table_of Debmul = DEBMUL

-- whether a test holds of one of the kinds
abbrev pub any_kind : (Kind → Bool) → Bool
any_kind t = t Paymul || t Debmul
