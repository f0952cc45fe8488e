-- Demand 2 in its own words. Assumes nothing.
use Rattle.std.specs.Prelude.{ℕ, ◌≡◌, refl, List, [], ◌∷◌, Bool, true, false, None}
use Rattle.std.proofs.Common.{arith, sym, ◌∙◌, subst}
use Rattle.std.proofs.Math.Path.{ap}
use Rattle.service.specs.declared.Service.{Service}
use Rattle.service.specs.Tests.{if}
use Rattle.lent.specs.Lists.{Lists, Left, left}
use Rattle.lent.specs.Over.{over}
use Rattle.chart.specs.Chart.{Placement, Reading}
use Rattle.chart.specs.Tags.{tags_of}
use Rattle.kinds.specs.declared.Kind.{Kind}
use Rattle.kinds.specs.Kinds.{table_of}
use Rattle.chart.proofs.Whole.{placed_rows, reading_of}
use Rattle.chart.proofs.Tables.{sound}
use Rattle.message.specs.Segs.{segs_of}
use Rattle.message.specs.Rules.{totals_of}
use Rattle.message.specs.Kinds.{means, chart_for, rules_for}
use Rattle.message.specs.Faults.{Told, told, tell_all, least_of}
use Rattle.report.specs.declared.Counts.{Counts}
use Rattle.report.specs.Answers.{Report, Accepted}
use Rattle.report.specs.Reported.{bare_of, Room, room_of, early, In, here, Of, Applies, soon, late, counts_of, filled, Reported, accepted, refused}
use Rattle.report.specs.Laws.ReportedLaws.{one_report}
use Rattle.report.specs.Laws.FreeLaws.{short_told, free_fits}
use Rattle.report.specs.Laws.LateLaws.{late_none}
use Rattle.report.specs.Laws.KindLaws.{one_kind}
use Rattle.demands.specs.Accepting.{Meets, Accepting}

nothing_in : (l : List Told) → ((n s : ℕ) → In (told n s) l → ⊥) → l ≡ []
nothing_in [] h = refl
nothing_in (a ∷ l) h = absurd (h a.number a.segment here)

module _ (v : Service) (m : List ℕ) (x : Room) where
  meets : (k : Kind) → Of k v m → (rows : List ℕ) → Reading (chart_for k) (tags_of v m) rows → ((n s : ℕ) → Applies v m x n s → ⊥) → Meets v m x
  meets k o rows r free = record {
    kind = k;
    of = o;
    long = free_fits v m x free;
    rows = rows;
    placement = r.placement;
    bytes = λ n s i. absurd (free n s (soon i));
    rules = nothing_in (tell_all (rules_for k (segs_of v m rows))) (λ n s i. free n s (late k o rows r i));
  }

  -- the only placement is the reading
  pub read : (k : Kind) (rows : List ℕ) → Placement (chart_for k) (tags_of v m) rows → Reading (chart_for k) (tags_of v m) rows
  read k rows p = subst (Reading (chart_for k) (tags_of v m)) (sym (placed_rows (table_of k) (sound k) (tags_of v m) rows p)) (reading_of (table_of k) (sound k) (tags_of v m) rows p)

  quiet : Meets v m x → tell_all (early (bare_of v m) x) ≡ []
  quiet w = nothing_in (tell_all (early (bare_of v m) x)) (λ n s i.
      let e = short_told v m x s (subst (λ (k : ℕ). In (told k s) (tell_all (early (bare_of v m) x))) (w.bytes n s i) i) in
      let z : true ≡ false = sym w.long ∙ e in
      let y : ◌≡◌ {A = ℕ} 0 1 = cc in omega arith)

  least_none : (l : List Told) → l ≡ [] → least_of l ≡ None
  unfolding least_of
  least_none l e = ap least_of e

  free_of : (w : Meets v m x) → (n s : ℕ) → Applies v m x n s → ⊥
  free_of w = late_none w.kind v m w.of x w.rows (read w.kind w.rows w.placement) (quiet w) (least_none (tell_all (rules_for w.kind (segs_of v m w.rows))) w.rules)

module _ (v : Service) (m : List ℕ) (x x' : Lists) (y : Report) (h : Reported v m x x' y) where
  gives : (w : Meets v m (room_of x)) → left y x' ≡ left (Accepted (counts_of w.kind (segs_of v m w.rows))) (filled w.kind v m w.rows x)
  gives w = one_report v m x x' (filled w.kind v m w.rows x) y (Accepted (counts_of w.kind (segs_of v m w.rows))) h
      (accepted (counts_of w.kind (segs_of v m w.rows)) w.kind w.of w.rows (read v m (room_of x) w.kind w.rows w.placement) (free_of v m (room_of x) w) refl refl)

  accepts : Meets v m (room_of x) → (c : Counts) × (y ≡ Accepted c)
  accepts w = (counts_of w.kind (segs_of v m w.rows), ap (λ (k : Left Report). k.answer) (gives w))

  met_by : (z : Report) → Reported v m x x' z → (c : Counts) → z ≡ Accepted c → Meets v m (room_of x)
  met_by z (accepted d k o rows r free e p) c u = meets v m (room_of x) k o rows r free
  met_by z (refused g l o p) c u = absurd (let q : ◌≡◌ {A = ℕ} 0 1 = cc in omega arith)

-- what is written of totals, where none are
untouched : (k : Kind) (v : Service) (m : List ℕ) (x x' : Lists) (y : Report) → Of k v m → (means k).totals ≡ false → Reported v m x x' y → x'.totals ≡ x.totals
unfolding over
untouched k v m x x' y o t (accepted d k' o' rows r free e p) =
    let q : (means k').totals ≡ false = ap (λ (i : Kind). (means i).totals) (one_kind v m k' k o' o) ∙ t in
    ap (λ (l : Lists). l.totals) p ∙ ap (λ (b : Bool). over (if b (totals_of (segs_of v m rows)) []) x.totals) q
untouched k v m x x' y o t (refused g l i p) = ap (λ (l : Lists). l.totals) p

pub accepting : Accepting
accepting = record {
  exactly = λ v m x x' y h. (λ w. met_by v m x x' y h y h w.0 w.1, accepts v m x x' y h);
  given = gives;
  one = λ k v m rows rows' p q. placed_rows (table_of k) (sound k) (tags_of v m) rows p ∙ sym (placed_rows (table_of k) (sound k) (tags_of v m) rows' q);
  one_kind = λ k k' v m o o'. one_kind v m k k' o o';
  no_totals = untouched;
}
