-- What goes with a kind of message, a row for each: "read a message by the type in its UNH".
use Rattle.std.specs.Prelude.{ℕ, List, [], Bool, true, false, length}
use Prim.Native.String.{String}
use Rattle.service.specs.Tests.{if}
use Rattle.kinds.specs.declared.Kind.{Kind}
use Rattle.kinds.specs.declared.Kind.TheVariants.{Paymul, Debmul}
use Rattle.kinds.specs.Kinds.{table_of}
use Rattle.chart.specs.Chart.{Rows}
use Rattle.chart.specs.Table.{chart_of}
use Rattle.message.specs.Segs as order
use Rattle.message.specs.Segs.{Seg, on_row}
use Rattle.message.specs.Rules.{count, paymul_of, totals_of}
use Rattle.message.specs.Advices as advice
use Rattle.message.specs.Advices.{debmul_of}

pub record Means : Type 0 where
  -- the type in its UNH
  pub type : String
  -- the rows of its LIN and SEQ segments
  pub lin : ℕ
  pub seq : ℕ
  -- its rules with their numbers, in the order in which refusals are given, of a message of so many segments and LIN segments
  pub rules : ℕ → ℕ → List Seg → List (ℕ × List ℕ)
  -- whether the total of every order is written
  pub totals : Bool

abbrev pub means : Kind → Means
means Paymul = record { type = "PAYMUL"; lin = order.row_of order.LIN; seq = order.row_of order.SEQ; rules = paymul_of; totals = true }
means Debmul = record { type = "DEBMUL"; lin = advice.row_of advice.LIN; seq = advice.row_of advice.SEQ; rules = λ k n m. debmul_of k m; totals = false }

-- its chart
abbrev pub chart_for : Kind → Rows
chart_for k = chart_of (table_of k)

-- orders and payments are counted by LIN and SEQ
abbrev pub order_count : Kind → List Seg → ℕ
order_count k m = count (on_row (means k).lin) m

abbrev pub payment_count : Kind → List Seg → ℕ
payment_count k m = count (on_row (means k).seq) m

-- the rules on a placed message
abbrev pub rules_for : Kind → List Seg → List (ℕ × List ℕ)
rules_for k m = (means k).rules (length m) (order_count k m) m

-- "no totals are written" of some kinds
abbrev pub totals_for : Kind → List Seg → List ℕ
totals_for k m = if (means k).totals (totals_of m) []
