-- For any chart: placements as the document has them and as the machine counts them are the same; with that, what a run says of placements.
-- Assumes nothing.
use mathlib.Core.Path.{◌≡◌, refl, sym, ap, subst, subst₂, ◌∙◌}
use mathlib.Core.Bool.{Bool}
use mathlib.Core.List.{List, [], ◌∷◌, ◌++◌, append_assoc, append-nil}
use Prim.Native.Nat.{ℕ, zero, suc, ◌+◌, ◌<◌, ◌≤◌}
use native.Mathlib.Decide.{dec_lt}
use native.Mathlib.Omega.{arith}
use mathlib.Core.Logic.{◌⊎◌, inl, inr}
use lib.Dec.{T}
use lib.ListN.{length, take}
use lib.Seq.{take_all}
use Rattle.chart.specs.Chart.{Rows, none, row, Placement, no_rows, row_then, Occurrences, no_more, one_then, Begins, FirstMisfit, FailsAt}
use Rattle.chart.specs.Forms.Machine.{only, Goes, stop, skip, have, Ends, ends, goes, Out, placed, stuck, run}
use Rattle.chart.proofs.Theory.{Fine, Said, all, part, Stuck, said, run_of}

mutual
  placement_goes : {rows : Rows} {ts ns : List ℕ} → Placement rows ts ns → (us ms : List ℕ) → Goes zero rows (ts ++ us) (ns ++ ms) us ms
  placement_goes no_rows us ms = stop
  placement_goes (row_then {req = req} {most = most} {rest = rest} {ts = ts} {us = us'} {ns = ns} {ms = ms'} le o t r p q) us ms =
      rw (p, q, append_assoc ts us' us, append_assoc ns ms' ms)
      (occurrences_goes t req most rest zero (omega arith) (λ x. let y = o x in omega arith) (placement_goes r us ms))

  occurrences_goes : {num tag : ℕ} {kids : Rows} {n : ℕ} {ts ns : List ℕ} → Occurrences num tag kids n ts ns
      → (req : Bool) (most : ℕ) (rest : Rows) (c : ℕ) → c + n ≤ most → (T req → 1 ≤ c + n)
      → {us ms vs ls : List ℕ} → Goes zero rest us ms vs ls → Goes c (row num tag req most kids rest) (ts ++ us) (ns ++ ms) vs ls
  occurrences_goes no_more req most rest c le o g =
      let o2 : (T req → 1 ≤ c) = λ x. let y = o x in omega arith in
      skip o2 g
  occurrences_goes (one_then {ts = ts} {us = us'} {ns = ns} {ms = ms'} f t p q) req most rest c le o {us} {ms} g =
      let lt : c < most = omega arith in
      rw (p, q, append_assoc ts us' us, append_assoc ns ms' ms)
      (have lt (placement_goes f (us' ++ us) (ms' ++ ms)) (occurrences_goes t req most rest (suc c) (omega arith) (λ x. let y = o x in omega arith) g))

-- the other way: what was placed, and what was left
abbrev Taken : Rows → List ℕ → List ℕ → List ℕ → List ℕ → Type 0
Taken rows ts ns us ms = (vs : List ℕ) × (ls : List ℕ) × Placement rows vs ls × (ts ≡ vs ++ us) × (ns ≡ ls ++ ms)

-- n more occurrences of a first row that was had c times, and what the other rows take
abbrev More : ℕ → Rows → List ℕ → List ℕ → List ℕ → List ℕ → Type 0
More c none ts ns us ms = (ts ≡ us) × (ns ≡ ms)
More c (row num tag req most kids rest) ts ns us ms =
    (n : ℕ) × (vs : List ℕ) × (ls : List ℕ) × (ws : List ℕ) × (ks : List ℕ)
    × Occurrences num tag kids n vs ls × (c ≤ most → c + n ≤ most) × (T req → 1 ≤ c + n)
    × Taken rest ws ks us ms × (ts ≡ vs ++ ws) × (ns ≡ ls ++ ks)

taken_of : (rows : Rows) (ts ns us ms : List ℕ) → More zero rows ts ns us ms → Taken rows ts ns us ms
taken_of none ts ns us ms m = ([], [], no_rows, m.0, m.1)
taken_of (row num tag req most kids rest) ts ns us ms m =
    let n = m.0 in
    let vs = m.1 in
    let ls = m.2 in
    let f = m.8 in
    let h : zero + n ≤ most = m.6 (omega arith) in
    let le : n ≤ most = omega arith in
    let o : (T req → 1 ≤ n) = λ x. let y = m.7 x in omega arith in (
      vs ++ f.0,
      ls ++ f.1,
      row_then le o m.5 f.2 refl refl,
      m.9 ∙ ap (λ (l : List ℕ). vs ++ l) f.3 ∙ sym (append_assoc vs f.0 us),
      m.10 ∙ ap (λ (l : List ℕ). ls ++ l) f.4 ∙ sym (append_assoc ls f.1 ms),
    )

goes_more : {c : ℕ} {rows : Rows} {ts ns us ms : List ℕ} → Goes c rows ts ns us ms → More c rows ts ns us ms
goes_more stop = (refl, refl)
goes_more (skip {c = c} {rest = rest} {ts = ts} {ns = ns} {us = us} {ms = ms} o g) =
    (0, [], [], ts, ns, no_more, (λ h. omega arith), (λ x. let y = o x in omega arith), taken_of rest ts ns us ms (goes_more g), refl, refl)
goes_more (have {c = c} {num = num} {tag = tag} {kids = kids} {ts = ts} {ns = ns} {us = us} {ms = ms} lt g g') =
    let f = taken_of kids ts ns us ms (goes_more g) in
    let m = goes_more g' in (
      suc m.0,
      tag ∷ f.0 ++ m.1,
      num ∷ f.1 ++ m.2,
      m.3,
      m.4,
      one_then f.2 m.5 refl refl,
      (λ h. let y = m.6 lt in omega arith),
      (λ x. omega arith),
      m.8,
      ap (λ (l : List ℕ). tag ∷ l) (f.3 ∙ ap (λ (l : List ℕ). f.0 ++ l) m.9 ∙ sym (append_assoc f.0 m.1 m.3)),
      ap (λ (l : List ℕ). num ∷ l) (f.4 ∙ ap (λ (l : List ℕ). f.1 ++ l) m.10 ∙ sym (append_assoc f.1 m.2 m.4)),
    )

pub placement_ends : {rows : Rows} {ts ns : List ℕ} → Placement rows ts ns → Ends (only rows) ts ns
placement_ends {rows} {ts} {ns} f =
    let g : Goes zero rows ts ns [] [] = subst₂ (λ (x y : List ℕ). Goes zero rows x y [] []) (append-nil ts) (append-nil ns) (placement_goes f [] []) in
    goes g ends

placement_is : {rows : Rows} {ts ns vs ls : List ℕ} → Placement rows vs ls → ts ≡ vs → ns ≡ ls → Placement rows ts ns
placement_is f p q = rw (p, q) f

pub ends_placement : {rows : Rows} {ts ns : List ℕ} → Ends (only rows) ts ns → Placement rows ts ns
ends_placement {rows} {ts} {ns} (goes g ends) =
    let f = taken_of rows ts ns [] [] (goes_more g) in
    placement_is f.2 (f.3 ∙ append-nil f.0) (f.4 ∙ append-nil f.1)

-- WHAT A RUN SAYS OF PLACEMENTS
same_stuck : {o : Out} {i j : ℕ} → o ≡ stuck i → o ≡ stuck j → j ≡ i
same_stuck p q = cc

apart : {o : Out} {j : ℕ} → o ≡ placed → o ≡ stuck j → ⊥
apart p q = let z : ◌≡◌ {A = ℕ} 0 1 = cc in omega arith

pub placed_one : (rows : Rows) (ts : List ℕ) → Fine (only rows) → run ts (only rows) 0 ≡ placed → (ns : List ℕ) × Placement rows ts ns
placed_one rows ts f e = go (said ts (only rows) 0 f)
  where
    go : Said (only rows) ts 0 → (ns : List ℕ) × Placement rows ts ns
    go (all ns h r) = (ns, ends_placement h)
    go (part j s r) = absurd (apart e r)

-- j tags begin a message and, unless they are all, with one more they begin none
module _ (rows : Rows) (ts : List ℕ) (j : ℕ) (s : Stuck (only rows) ts j) where
  stuck_begins : Begins rows (take j ts)
  stuck_begins = record { tail = s.begins.0; nos = s.begins.1; placement = ends_placement s.begins.2 }

  stuck_place : FirstMisfit rows ts j ⊎ ((j ≡ length ts) × Begins rows ts)
  stuck_place = go (dec_lt j (length ts))
    where
      go : Dec (j < length ts) → FirstMisfit rows ts j ⊎ ((j ≡ length ts) × Begins rows ts)
      go (yes lt) = inl (record { within = lt; before = stuck_begins; misfit = λ b. s.never lt b.tail b.nos (placement_ends b.placement) })
      go (no n) =
          let e : j ≡ length ts = omega (arith, s.within) in
          inr (e, subst (λ (l : List ℕ). Begins rows l) (take_all j ts (omega arith)) stuck_begins)

pub stuck_fails : (rows : Rows) (ts : List ℕ) (j : ℕ) → Fine (only rows) → run ts (only rows) 0 ≡ stuck j → FailsAt rows ts j
stuck_fails rows ts j f e = go (said ts (only rows) 0 f)
  where
    go : Said (only rows) ts 0 → FailsAt rows ts j
    go (all ms h r) = absurd (apart r e)
    go (part k s r) =
        let z : 0 + k ≡ j = same_stuck e r in
        record {
          unplaced = λ ns h. apart (run_of ts (only rows) 0 ns f (placement_ends h)) e;
          place = stuck_place rows ts j (subst (λ (x : ℕ). Stuck (only rows) ts x) (omega arith) s);
        }
