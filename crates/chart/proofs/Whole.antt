-- On a table that passes the tests: the row of each segment follows from the one before it, and what placing says of a message. Assumes nothing.
use mathlib.Core.Path.{◌≡◌, refl, subst, ◌∙◌}
use mathlib.Core.List.{List, map}
use mathlib.Core.Logic.{inl}
use Prim.Native.Nat.{ℕ, suc, ◌<◌, ◌≤◌}
use Rattle.std.specs.Prelude.{Ok, Err}
use lib.ListN.{length, get_or, drop, drop_of_length-le}
use lib.Seq.{drop-cons}
use Rattle.service.specs.declared.Service.{Service}
use Rattle.chart.specs.declared.Cursor.{Cursor}
use Rattle.chart.specs.Chart.{Placement, Reading}
use Rattle.chart.specs.Forms.Machine.{only, done, placed, stuck, run, step, free}
use Rattle.chart.specs.Table.{Table, chart_of}
use Rattle.chart.specs.Forms.Sound.{Sound}
use Rattle.chart.specs.Forms.Columns.{tag_of}
use Rattle.chart.specs.Forms.Next.{next_row, rows_of}
use Rattle.chart.specs.Tags.{tags_of}
use Rattle.chart.specs.Forms.Cursor.{CursorIs}
use Rattle.chart.specs.Laws.CursorLaws.{stands_first, stands_lt, stands_ge, stands_at}
use Rattle.chart.specs.Forms.Placing.{RowsDone}
use Rattle.chart.specs.Answer.{StuckAt}
use Rattle.chart.proofs.Theory.{Fine, run_end, run_fail}
use Rattle.chart.proofs.Plain.{placed_one, stuck_fails}
use Rattle.chart.proofs.Theorems.{own_tags}
use Rattle.chart.proofs.Guide.{placement_rows}
use Rattle.chart.proofs.Nest.{chart_is}

pub fine : (t : Table) → Sound t → Fine (only (chart_of t))
fine t s = (s.decided, s.allowed)

-- ---- what a placement's rows are
pub placed_rows : (t : Table) → Sound t → (ts ns : List ℕ) → Placement (chart_of t) ts ns → ns ≡ rows_of t ts
placed_rows t s ts ns h = placement_rows (next_row t) (chart_of t) 0 ts ns (fine t s) (record { near = s.near; far = s.far }) h

-- 'A placement gives each segment a row of its tag'
pub placed_tags : (t : Table) → Sound t → (ts ns : List ℕ) → Placement (chart_of t) ts ns → map (tag_of t) ns ≡ ts
placed_tags t s ts ns h = own_tags (tag_of t) (chart_of t) s.labelled ts ns h

pub reading_of : (t : Table) → Sound t → (ts ns : List ℕ) → Placement (chart_of t) ts ns → Reading (chart_of t) ts (rows_of t ts)
reading_of t s ts ns h = record {
  placement = subst (λ (l : List ℕ). Placement (chart_of t) ts l) (placed_rows t s ts ns h) h;
  first = λ ms g. inl (placed_rows t s ts ms g);
}

-- ---- what is left after the whole chart: nothing, or a segment too many
run_done : (ts : List ℕ) (j : ℕ) → j < length ts → run (drop j ts) done j ≡ stuck j
unfolding step
run_done ts j lt = rw (drop-cons ts j 0 lt) (run_fail (get_or ts j 0) (drop (suc j) ts) done j refl)

run_all : (ts : List ℕ) (j : ℕ) → length ts ≤ j → run (drop j ts) done j ≡ placed
unfolding free
run_all ts j le = rw (drop_of_length-le ts le) (run_end done j refl)

module _ (t : Table) (sd : Sound t) (v : Service) (m : List ℕ) (c d : Cursor) (h : CursorIs v m 0 c) where
  pub whole_over : RowsDone t v m 0 (length t) c (Ok d) → d.at < length m → StuckAt t v m d.at
  whole_over p e =
      let x = p.pass 0 (stands_first v m c h) in
      let f = x.2 (chart_of t) (chart_is t sd) done ∙ run_done (tags_of v m) x.0 (stands_lt v m x.0 d x.1 e) in
      record { j = x.0; start = stands_at v m x.0 d x.1; fails = stuck_fails (chart_of t) (tags_of v m) x.0 (fine t sd) f }

  pub whole_placed : RowsDone t v m 0 (length t) c (Ok d) → length m ≤ d.at → Reading (chart_of t) (tags_of v m) (rows_of t (tags_of v m))
  whole_placed p e =
      let x = p.pass 0 (stands_first v m c h) in
      let f = placed_one (chart_of t) (tags_of v m) (fine t sd) (x.2 (chart_of t) (chart_is t sd) done ∙ run_all (tags_of v m) x.0 (stands_ge v m x.0 d x.1 e)) in
      reading_of t sd (tags_of v m) f.0 f.1

module _ (t : Table) (sd : Sound t) (v : Service) (m : List ℕ) (c : Cursor) (h : CursorIs v m 0 c) where
  pub whole_stuck : (p : ℕ) → RowsDone t v m 0 (length t) c (Err p) → StuckAt t v m p
  whole_stuck p s =
      let x = s.stop 0 (stands_first v m c h) in
      record { j = x.0; start = x.1; fails = stuck_fails (chart_of t) (tags_of v m) x.0 (fine t sd) (x.2 (chart_of t) (chart_is t sd) done) }
