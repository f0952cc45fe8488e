-- Some messages on the chart: the least one, the document's message of a UNH and a UNT, and where that message's segments begin. Assumes nothing.
use mathlib.Core.Path.{◌≡◌, refl, subst}
use mathlib.Core.Bool.{true}
use mathlib.Core.List.{List, [], ◌∷◌}
use Prim.Native.Nat.{ℕ}
use Rattle.service.specs.declared.Service.{Service}
use Rattle.segments.specs.Classes.{class_of}
use Rattle.chart.specs.Chart.{Reading, FirstMisfit}
use Rattle.chart.specs.Forms.Machine.{only, run, step, step_rows, free, free_rows, placed, stuck, choose, takes, owed, rows_by}
use Rattle.table.specs.Entries.{lines_from, within, text}
use Rattle.values.specs.Forms.Codes.{UNH, BGM, DTM, LIN, RFF, MOA, FII, SEQ, CNT, UNT}
use Rattle.kinds.specs.declared.Kind.TheVariants.{Paymul}
use Rattle.paymul.specs.Table.{PAYMUL, table}
use Rattle.chart.specs.Chart.{Rows}
use Rattle.chart.specs.Table.{chart_of, row_over, inside}
use Rattle.chart.specs.Forms.Columns.{parent_of, first_of}
use Rattle.chart.specs.Forms.Next.{next_of, chain_from, find_in, next_row, rows_of}
use Rattle.segments.specs.SegmentList.{pieces, starts_from, starts_of}
use Rattle.chart.proofs.Plain.{placed_one, stuck_fails}
use Rattle.chart.proofs.Theorems.{closed_fails}
use Rattle.chart.proofs.Whole.{fine, reading_of}
use Rattle.chart.proofs.Tables.{sound}

abbrev chart : Rows
chart = chart_of PAYMUL

-- ---- one order of one payment, with no segment that may be left out
abbrev least : List ℕ
least = UNH ∷ BGM ∷ DTM ∷ LIN ∷ DTM ∷ RFF ∷ MOA ∷ FII ∷ SEQ ∷ MOA ∷ RFF ∷ CNT ∷ UNT ∷ []

least_run : run least (only chart) 0 ≡ placed
unfolding PAYMUL table lines_from within text chart_of row_over inside run step step_rows free free_rows choose takes owed
least_run = refl

least_rows : rows_of PAYMUL least ≡ 1 ∷ 2 ∷ 3 ∷ 17 ∷ 18 ∷ 19 ∷ 23 ∷ 28 ∷ 50 ∷ 51 ∷ 53 ∷ 108 ∷ 112 ∷ []
unfolding PAYMUL table lines_from within text rows_by next_row chain_from find_in next_of parent_of first_of
least_rows = refl

pub least_reading : Reading chart least (1 ∷ 2 ∷ 3 ∷ 17 ∷ 18 ∷ 19 ∷ 23 ∷ 28 ∷ 50 ∷ 51 ∷ 53 ∷ 108 ∷ 112 ∷ [])
least_reading =
    let p = placed_one chart least (fine PAYMUL (sound Paymul)) least_run in
    subst (λ (l : List ℕ). Reading chart least l) least_rows (reading_of PAYMUL (sound Paymul) least p.0 p.1)

-- ---- UNH and UNT alone: no message begins so, and the misfit is the second segment
short_run : run (UNH ∷ UNT ∷ []) (only chart) 0 ≡ stuck 1
unfolding PAYMUL table lines_from within text chart_of row_over inside run step step_rows free free_rows choose takes owed
short_run = refl

pub short_misfit : FirstMisfit chart (UNH ∷ UNT ∷ []) 1
short_misfit = closed_fails chart UNT (sound Paymul).closed (UNH ∷ UNT ∷ []) (UNH ∷ []) refl 1 (stuck_fails chart (UNH ∷ UNT ∷ []) 1 (fine PAYMUL (sound Paymul)) short_run)

-- ---- its bytes, UNH+1+PAYMUL:D:96A:UN'UNT+2+1'
abbrev plain : Service
plain = record { component = 58; element = 43; release = 63; releases = true; terminator = 39 }

abbrev short : List ℕ
short =
    85 ∷ 78 ∷ 72 ∷ 43 ∷ 49 ∷ 43 ∷ 80 ∷ 65 ∷ 89 ∷ 77 ∷ 85 ∷ 76 ∷ 58 ∷ 68 ∷ 58 ∷ 57 ∷ 54 ∷ 65 ∷ 58 ∷ 85 ∷ 78 ∷ 39 ∷
    85 ∷ 78 ∷ 84 ∷ 43 ∷ 50 ∷ 43 ∷ 49 ∷ 39 ∷ []

pub short_starts : starts_of plain short ≡ 0 ∷ 22 ∷ []
unfolding starts_from pieces class_of
short_starts = refl
