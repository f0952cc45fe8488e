-- What the answer of placing says, and that there is no second one. Assumes nothing.
use mathlib.Core.Path.{◌≡◌, refl, sym, ap, ◌∙◌}
use mathlib.Core.List.{List, [], ◌∷◌, ◌++◌}
use Prim.Native.Nat.{ℕ}
use native.Mathlib.Omega.{arith}
use Rattle.service.specs.declared.Service.{Service}
use Rattle.std.specs.Prelude.{Result, Ok, Err, ⊤}
use Rattle.chart.specs.Chart.{Placement, Unplaced, FirstMisfit}
use Rattle.chart.specs.Table.{Table, chart_of}
use Rattle.values.specs.Forms.Codes.{UNT}
use Rattle.chart.specs.Forms.Sound.{Sound}
use Rattle.chart.specs.Tags.{tags_of}
use Rattle.segments.specs.SegmentList.{start_at}
use Rattle.chart.specs.Forms.Next.{rows_of}
use Rattle.chart.specs.Answer.{StuckAt, Answers}
use Rattle.chart.proofs.Theorems.{one_fault, closed_fails, closed_misfit}
use Rattle.chart.proofs.Whole.{fine}

module _ (t : Table) (sd : Sound t) where
  -- ---- on the chart: at most one placement; with none, a first misfit, or all of it begins a message

  -- a message that ends with its UNT and has no placement has a first segment with which no message begins
  pub unt_misfit : (ts us : List ℕ) → ts ≡ us ++ (UNT ∷ []) → Unplaced (chart_of t) ts → (j : ℕ) × FirstMisfit (chart_of t) ts j
  unt_misfit = closed_misfit (chart_of t) (fine t sd) UNT sd.closed

  -- ---- of a message that ends with its UNT: the answer is its first misfit
  pub unt_stuck : (v : Service) (m : List ℕ) (p : ℕ) → StuckAt t v m p → (us : List ℕ) → tags_of v m ≡ us ++ (UNT ∷ [])
      → (j : ℕ) × (p ≡ start_at v m j) × FirstMisfit (chart_of t) (tags_of v m) j
  unt_stuck v m p a us e = (a.j, a.start, closed_fails (chart_of t) UNT sd.closed (tags_of v m) us e a.j a.fails)

-- ---- a placement exists exactly if the answer says so
module _ (t : Table) (v : Service) (m : List ℕ) where
  abbrev Fits : Type 0
  Fits = (ns : List ℕ) × Placement (chart_of t) (tags_of v m) ns

  err_not_ok : (p : ℕ) → ◌≡◌ {A = Result ⊤ ℕ} (Err p) (Ok tt) → ⊥
  err_not_ok p e = let z : ◌≡◌ {A = ℕ} 0 1 = cc in omega arith

  pub whole_fits : (x : Result ⊤ ℕ) → Answers t v m x → x ≡ Ok tt → Fits
  whole_fits (Ok u) a e = (rows_of t (tags_of v m), a.placement)
  whole_fits (Err p) a e = absurd (err_not_ok p e)

  pub fits_whole : (x : Result ⊤ ℕ) → Answers t v m x → Fits → x ≡ Ok tt
  fits_whole (Ok u) a f = refl
  fits_whole (Err p) a f = absurd (a.fails.unplaced f.0 f.1)

  -- ---- no second answer
  pub one_answer : (x y : Result ⊤ ℕ) → Answers t v m x → Answers t v m y → x ≡ y
  one_answer (Ok u) (Ok w) a b = refl
  one_answer (Ok u) (Err q) a b = absurd (b.fails.unplaced (rows_of t (tags_of v m)) a.placement)
  one_answer (Err p) (Ok u) a b = absurd (a.fails.unplaced (rows_of t (tags_of v m)) b.placement)
  one_answer (Err p) (Err q) a b =
      ap Err (a.start ∙ ap (start_at v m) (one_fault (chart_of t) (tags_of v m) a.j b.j a.fails b.fails) ∙ sym b.start)
