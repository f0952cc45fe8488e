-- The table of each kind of message passes the tests. Assumes nothing.
use mathlib.Core.Path.{◌≡◌, sym, subst}
use mathlib.Core.List.{List}
use Prim.Native.Nat.{ℕ}
use Rattle.std.specs.Prelude.{Result}
use Rattle.service.specs.declared.Service.{Service}
use Rattle.kinds.specs.declared.Kind.{Kind}
use Rattle.kinds.specs.declared.Kind.TheVariants.{Paymul, Debmul}
use Rattle.kinds.specs.Kinds.{table_of}
use Rattle.paymul.specs.Table as paymul
use Rattle.paymul.specs.Table.{PAYMUL}
use Rattle.debmul.specs.Table as debmul
use Rattle.debmul.specs.Table.{DEBMUL}
use Rattle.chart.specs.declared.Cursor.{Cursor}
use Rattle.table.specs.Entries.{lines_from, within, text}
use Rattle.chart.specs.Forms.Machine.{det, det_k, good, good_k, doubt, may, may_rows, takes, owed, choose, agree, agree_rows, guides, guides_k, labels, closing, lacking}
use Rattle.chart.specs.Table.{Table, chart_of, inside, row_over}
use Rattle.chart.specs.Forms.Columns.{parent_of, req_of, most_of, first_of}
use Rattle.chart.specs.Forms.Next.{next_of, chain_from, find_in, next_row}
use Rattle.chart.specs.Forms.Placing.{RowsDone}
use lib.ListN.{length}
use Rattle.chart.specs.Forms.Sound.{Sound, alone, all_to, nests, childless, heads}

-- THE COMPUTED TESTS
paymul_sound : Sound PAYMUL
unfolding PAYMUL paymul.table lines_from within text chart_of inside row_over parent_of req_of most_of first_of alone all_to nests childless heads det_k det good_k good doubt may may_rows takes owed choose agree agree_rows guides guides_k labels closing lacking next_row chain_from find_in next_of
paymul_sound = record { whole = tt; nested = tt; headed = tt; decided = tt; allowed = tt; near = tt; far = tt; labelled = tt; closed = tt }

debmul_sound : Sound DEBMUL
unfolding DEBMUL debmul.table lines_from within text chart_of inside row_over parent_of req_of most_of first_of alone all_to nests childless heads det_k det good_k good doubt may may_rows takes owed choose agree agree_rows guides guides_k labels closing lacking next_row chain_from find_in next_of
debmul_sound = record { whole = tt; nested = tt; headed = tt; decided = tt; allowed = tt; near = tt; far = tt; labelled = tt; closed = tt }

pub sound : (k : Kind) → Sound (table_of k)
sound Paymul = paymul_sound
sound Debmul = debmul_sound

-- .. also where the code has them
pub sound_as : (k : Kind) (t : Table) → t ≡ table_of k → Sound t
sound_as k t e = subst Sound (sym e) (sound k)

pub done_as : (v : Service) (m : List ℕ) (c : Cursor) (w : Result Cursor ℕ) (k : Kind) (t : Table) → t ≡ table_of k → RowsDone t v m 0 (length t) c w → RowsDone (table_of k) v m 0 (length (table_of k)) c w
done_as v m c w k t e h = subst (λ (u : Table). RowsDone u v m 0 (length u) c w) e h
