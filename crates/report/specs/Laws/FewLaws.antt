-- The counts of an accepted message are at most 9,999. Assumes nothing.
use Rattle.std.specs.Prelude.{ℕ, suc, ◌≤◌, ◌≡◌, List, [], ◌∷◌, Bool, true, false, length}
use Rattle.std.proofs.Common.{arith, ap, leb-true}
use Rattle.std.proofs.lemmas.List.{length-map}
use Rattle.service.specs.declared.Service.{Service}
use Rattle.service.specs.Tests.{if}
use Rattle.segments.specs.SegmentList.{segments_from, starts_of}
use Rattle.lent.specs.Lists.{Lists}
use Rattle.chart.specs.Laws.TagsLaws.{same_count}
use Rattle.message.specs.Segs.{Seg, segs_from, segs_of, those, on_row}
use Rattle.message.specs.Kinds.{means}
use Rattle.report.specs.declared.Counts.{Counts}
use Rattle.report.specs.Answers.{Report}
use Rattle.report.specs.Answers as report
use Rattle.report.specs.Reported.{raw_of, bare_of, room_of, Reported, accepted, refused}
use Rattle.report.specs.Laws.FreeLaws.{free_few}
use Rattle.report.specs.Laws.PieceLaws.{pieces_tags}
use Rattle.report.specs.Forms.Few.{Few, FewIn, few, no_counts}

few_segs : (v : Service) (m : List ℕ) (n : ℕ) (rs is : List ℕ) → length (segs_from v m n rs is) ≤ length is
unfolding segs_from
few_segs v m n [] is = omega arith
few_segs v m n (r ∷ rs) [] = omega arith
few_segs v m n (r ∷ rs) (i ∷ is) = let z = few_segs v m (suc n) rs is in omega arith

few_those : (t : Seg → Bool) (l : List Seg) → length (those t l) ≤ length l
unfolding those
few_those t [] = omega arith
few_those t (s ∷ l) = go (t s) (few_those t l)
  where
    go : (b : Bool) → length (those t l) ≤ length l → length (if b (s ∷ those t l) (those t l)) ≤ suc (length l)
    go true h = omega arith
    go false h = omega arith

pub report_few : (v : Service) (m : List ℕ) (x x' : Lists) (y : Report) → Reported v m x x' y → FewIn y
report_few v m x x' y (accepted c k o rows a none e p) =
    let g = leb-true (length (bare_of v m).segments) 9999 (free_few v m (room_of x) none) in
    let h = length-map (segments_from v m 0) (raw_of v m) in
    let i = few_segs v m 1 rows (starts_of v m) in
    let j = same_count v m 0 in
    let w = pieces_tags v m in
    let l = few_those (on_row (means k).lin) (segs_of v m rows) in
    let n = few_those (on_row (means k).seq) (segs_of v m rows) in
    let q = ap (λ (z : Counts). z.segments) e in
    let r = ap (λ (z : Counts). z.orders) e in
    let t = ap (λ (z : Counts). z.payments) e in
    few c (record { segments = omega arith; orders = omega arith; payments = omega arith })
report_few v m x x' y (refused f l o p) = no_counts f

pub accepted_few : (y : Report) → FewIn y → (c : Counts) → y ≡ report.Accepted c → Few c
accepted_few y (few d w) c e =
    let f : d ≡ c = cc in
    let q = ap (λ (z : Counts). z.segments) f in
    let r = ap (λ (z : Counts). z.orders) f in
    let t = ap (λ (z : Counts). z.payments) f in
    record { segments = omega (arith, w.segments); orders = omega (arith, w.orders); payments = omega (arith, w.payments) }
accepted_few y (no_counts f) c e = absurd (let z : ◌≡◌ {A = ℕ} 0 1 = cc in omega arith)
