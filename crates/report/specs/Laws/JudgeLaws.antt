-- A report is judging and then listing, and which lists are lent does not matter to it if they are long enough. Assumes nothing.
use Rattle.std.specs.Prelude.{ℕ, suc, ◌≤◌, ◌≡◌, List, [], ◌∷◌, Bool, true, false, ◌&&◌, leb}
use Rattle.std.proofs.Common.{arith, subst, ◌∙◌, true≢false}
use Rattle.std.proofs.Math.Path.{refl, sym, ap}
use Rattle.std.proofs.Math.ListN.{length}
use Rattle.numbers.specs.Table.{table_number}
use borrow.Author.Tests.{le-leb, leb-true}
use Rattle.service.specs.declared.Service.{Service}
use Rattle.service.specs.Tests.{if}
use Rattle.values.specs.Text.{says}
use Rattle.interchange.specs.Answers.{Refusal}
use Rattle.lent.specs.Lists.{Lists, Left, lists}
use Rattle.chart.specs.Chart.{Reading, Placement}
use Rattle.chart.specs.Tags.{tags_of}
use Rattle.chart.specs.Laws.TagsLaws.{tags_few}
use Rattle.chart.specs.Forms.Next.{rows_of}
use Rattle.chart.proofs.Whole.{placed_rows}
use Rattle.chart.proofs.Tables.{sound}
use Rattle.kinds.specs.declared.Kind.{Kind}
use Rattle.kinds.specs.Kinds.{any_kind, table_of}
use Rattle.message.specs.Segs.{segs_of}
use Rattle.message.specs.Kinds.{means, chart_for, order_count}
use Rattle.message.specs.Faults.{told, tell_all}
use Rattle.report.specs.Answers.{Report}
use Rattle.report.specs.Answers.{Refused}
use Rattle.report.specs.Reported.{Raw, bare_of, Room, room_of, is_kind, lines, asked, fits, early, In, Of, Applies, soon, misfit, late, counts_of, filled, Reported, accepted, refused}
use Rattle.report.specs.Judged.{Enough, Judged, judged}
use Rattle.report.specs.Forms.Checks.{listed_orders}
use Rattle.report.specs.Forms.Judging.{JudgedIn, accepts, refuses, lists_of, lists_by}
use Rattle.report.specs.Laws.CheckLaws.{raws_length}
use Rattle.report.specs.Laws.CountLaws.{lin_tags}
use Rattle.report.specs.Laws.EarlyLaws.{numbers_told, late_numbers}
use Rattle.report.specs.Laws.FreeLaws.{short_told, free_short, free_fits}
use Rattle.report.specs.Laws.FillLaws.{placed_length, lists_over}
use Rattle.report.specs.Laws.KindLaws.{kind_is, asked_is}
use Rattle.report.specs.Laws.PieceLaws.{lines_tags, pieces_tags}
use Rattle.report.specs.Laws.ReportedLaws.{one_report}

all_true : (a b c : Bool) → a && b && c ≡ true → (a ≡ true) × (b ≡ true) × (c ≡ true)
all_true true true true e = (refl, refl, refl)
all_true true true false e = absurd (let z : ◌≡◌ {A = ℕ} 0 1 = cc in omega arith)
all_true true false c e = absurd (let z : ◌≡◌ {A = ℕ} 0 1 = cc in omega arith)
all_true false b c e = absurd (let z : ◌≡◌ {A = ℕ} 0 1 = cc in omega arith)

-- no more LIN tags than segments
lines_few : (l : List Raw) → lines l ≤ length l
unfolding lines
lines_few [] = omega arith
lines_few (s ∷ l) = go (says (s.value 0 0) "LIN") (lines_few l)
  where
    go : (b : Bool) → lines l ≤ length l → if b (suc (lines l)) (lines l) ≤ suc (length l)
    go true h = omega arith
    go false h = omega arith

pub asked_few : (l : List Raw) → asked l ≤ length l
unfolding asked
asked_few l = go (any_kind (λ k. is_kind k l && (means k).totals)) (lines_few l)
  where
    go : (b : Bool) → lines l ≤ length l → if b (lines l) 0 ≤ length l
    go true h = h
    go false h = omega arith

module _ (v : Service) (m : List ℕ) where
  -- ---- a report is judging and, where that accepts, listing
  module _ (x : Lists) where
    room_of_lem : fits (bare_of v m).segments (room_of x) ≡ true
        → (leb (length (bare_of v m).segments) (length x.rows) ≡ true) × (leb (length (bare_of v m).segments) (length x.starts) ≡ true) × (leb (asked (bare_of v m).segments) (length x.totals) ≡ true)
    unfolding fits
    room_of_lem e = all_true (leb (length (bare_of v m).segments) (length x.rows)) (leb (length (bare_of v m).segments) (length x.starts)) (leb (asked (bare_of v m).segments) (length x.totals)) e

    -- what is listed by the counts of a reading is what it fills
    module _ (k : Kind) (o : Of k v m) (free : (n s : ℕ) → Applies v m (room_of x) n s → ⊥) where
      listed : Placement (chart_for k) (tags_of v m) (rows_of (table_of k) (tags_of v m))
          → lists_of k v m (counts_of k (segs_of v m (rows_of (table_of k) (tags_of v m)))) x ≡ filled k v m (rows_of (table_of k) (tags_of v m)) x
      unfolding lists_of
      listed p =
          let w = room_of_lem (free_fits v m (room_of x) free) in
          let a = leb-true (length (bare_of v m).segments) (length x.rows) w.0 in
          let b = leb-true (length (bare_of v m).segments) (length x.starts) w.1 in
          let c = leb-true (asked (bare_of v m).segments) (length x.totals) w.2 in
          let d : length (bare_of v m).segments ≡ length (segs_of v m (rows_of (table_of k) (tags_of v m))) = raws_length v m ∙ pieces_tags v m ∙ sym (placed_length (table_of k) v m) in
          let e : asked (bare_of v m).segments ≡ listed_orders k (order_count k (segs_of v m (rows_of (table_of k) (tags_of v m)))) = asked_is v m k o ∙ ap (listed_orders k) (lines_tags v m ∙ sym (lin_tags v m k p)) in
          lists_over v m k (length (segs_of v m (rows_of (table_of k) (tags_of v m)))) (listed_orders k (order_count k (segs_of v m (rows_of (table_of k) (tags_of v m))))) x
          (placed_length (table_of k) v m) (omega arith) (omega arith) (omega arith) (leb-true _ _ (free_short v m (room_of x) free)) p refl

      listed_by : (rows : List ℕ) → Reading (chart_for k) (tags_of v m) rows → lists_of k v m (counts_of k (segs_of v m rows)) x ≡ filled k v m rows x
      listed_by rows r =
          let q : rows ≡ rows_of (table_of k) (tags_of v m) = placed_rows (table_of k) (sound k) (tags_of v m) rows r.placement in
          subst (λ (l : List ℕ). lists_of k v m (counts_of k (segs_of v m l)) x ≡ filled k v m l x) (sym q) (listed (subst (Placement (chart_for k) (tags_of v m)) q r.placement))

    pub report_by : (y : Report) → JudgedIn v m (room_of x) y → (x' : Lists) → x' ≡ lists_by v m y x → Reported v m x x' y
    report_by y (refuses g l o) x' w = refused g l o w
    report_by y (accepts c k o rows r free q) x' w =
        accepted c k o rows r free q (w ∙ rw (kind_is v m k o, q) (listed_by k o free rows r))

    -- with some content of the lists afterwards
    reported_some : (y : Report) → JudgedIn v m (room_of x) y → (x' : Lists) × Reported v m x x' y
    reported_some y (refuses g l o) = (x, refused g l o refl)
    reported_some y (accepts d i o rows r free q) = (filled i v m rows x, accepted d i o rows r free q refl)

  -- ---- lists that are long enough
  module _ (x z : Room) (e : fits (bare_of v m).segments x ≡ fits (bare_of v m).segments z) where
    early_same : early (bare_of v m) x ≡ early (bare_of v m) z
    unfolding early
    early_same = rw e

    applies_same : (n s : ℕ) → Applies v m x n s → Applies v m z n s
    applies_same n s (soon i) = soon (subst (λ (l : List (ℕ × List ℕ)). In (told n s) (tell_all l)) early_same i)
    applies_same n s (misfit k o j f p q) = misfit k o j f p q
    applies_same n s (late k o rows r i) = late k o rows r i

  module _ (x z : Lists) (e : Enough v m x) (f : Enough v m z) where
    judged_same : (x' : Lists) (y : Report) → Reported v m x x' y → JudgedIn v m (room_of z) y
    judged_same x' y (accepted c k o rows r free q p) = accepts c k o rows r (λ n s i. free n s (applies_same (room_of z) (room_of x) (f ∙ sym e) n s i)) q
    judged_same x' y (refused g l o p) = refuses g (record {
      applies = applies_same (room_of x) (room_of z) (e ∙ sym f) (table_number g.number) g.segment l.applies;
      least = λ k t i. l.least k t (applies_same (room_of z) (room_of x) (f ∙ sym e) k t i);
    }) o

    pub enough_same : (x' z' : Lists) (y w : Report) → Reported v m x x' y → Reported v m z z' w → y ≡ w
    enough_same x' z' y w a b =
        let c = reported_some z y (judged_same x' y a) in
        ap (λ (g : Left Report). g.answer) (one_report v m z c.0 z' y w c.1 b)

  -- no second answer
  pub one_judged : (y w : Report) → Judged v m y → Judged v m w → y ≡ w
  one_judged y w (judged x x' e a) (judged z z' f b) = enough_same x z e f x' z' y w a b

  -- and not 14
  applies_not : (x : Room) → fits (bare_of v m).segments x ≡ true → (n s : ℕ) → Applies v m x n s → n ≡ 14 → ⊥
  applies_not x e n s (soon i) q = true≢false (sym e ∙ short_told v m x s (subst (λ (k : ℕ). In (told k s) (tell_all (early (bare_of v m) x))) q i))
  applies_not x e n s (misfit k o j f p h) q = omega arith
  applies_not x e n s (late k o rows r i) q = let z = (numbers_told 17 31 _ (told n s) (late_numbers k (segs_of v m rows)) i).0 in omega arith

  not_by : (y : Report) → Judged v m y → (f : Refusal) → y ≡ Refused f → table_number f.number ≡ 14 → ⊥
  not_by y (judged x x' e (accepted c k o rows r free q p)) f h n = let z : ◌≡◌ {A = ℕ} 0 1 = cc in omega arith
  not_by y (judged x x' e (refused g l o p)) f h n = let i : g ≡ f = cc in applies_not (room_of x) e (table_number g.number) g.segment l.applies (ap (λ (k : Refusal). table_number k.number) i ∙ n)

  pub not_fourteen : (f : Refusal) → Judged v m (Refused f) → table_number f.number ≡ 14 → ⊥
  not_fourteen f h = not_by (Refused f) h f refl

  -- lists with an entry for each byte
  pub bytes_enough : Enough v m (lists m m m)
  unfolding fits
  bytes_enough =
      let a = raws_length v m ∙ pieces_tags v m in
      let b = tags_few v m 0 in
      let c = asked_few (bare_of v m).segments in
      rw (le-leb (length (bare_of v m).segments) (length m) (omega arith), le-leb (asked (bare_of v m).segments) (length m) (omega arith))

  pub judge_enough : (y : Report) → JudgedIn v m (record { rows = length m; starts = length m; totals = length m }) y → Judged v m y
  judge_enough y h = let w = reported_some (lists m m m) y h in judged (lists m m m) w.0 bytes_enough w.1
