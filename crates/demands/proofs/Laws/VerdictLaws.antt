-- Messages whose segments have the same values are told the same, offsets aside. Assumes nothing.
use Rattle.std.specs.Prelude.{ℕ, ◌≤◌, ◌≡◌, refl, List, true, length}
use Rattle.std.proofs.Common.{sym, ◌∙◌, ap, subst}
use Rattle.numbers.specs.Table.{table_number}
use Rattle.service.specs.declared.Service.{Service}
use Rattle.service.specs.Service.{Fits}
use Rattle.segments.specs.SegmentList.{segments_from}
use Rattle.interchange.specs.Answers.{Refusal}
use Rattle.interchange.specs.Messages.{ends_closed}
use Rattle.lent.specs.Lists.{Lists, left}
use Rattle.lent.specs.Over.{over}
use Rattle.chart.specs.Chart.{Reading, FirstMisfit}
use Rattle.chart.specs.Tags.{tags_of}
use Rattle.kinds.specs.declared.Kind.{Kind}
use Rattle.message.specs.Segs.{Seg, segs_of}
use Rattle.message.specs.Kinds.{chart_for, rules_for, totals_for}
use Rattle.message.specs.Faults.{told, tell_all}
use Rattle.report.specs.Answers.{Report, Accepted, Refused}
use Rattle.report.specs.Reported.{Bare, bare_of, Room, early, In, is_kind, Of, Applies, soon, misfit, late, Lowest, offset_of, counts_of, room_of, filled, Reported, accepted, refused}
use Rattle.report.specs.Laws.ReportedLaws.{one_report}
use Rattle.demands.specs.Verdicts.{verdict_of}
use Rattle.demands.specs.Verdicts as verdicts
use Rattle.interchange.specs.Alike.{Alike}
use Rattle.report.specs.Laws.AlikeLaws.{same_tags, same_segs, same_bare}

-- ---- two messages as rewriting leaves them
module _ (v : Service) (m : List ℕ) (v' : Service) (m' : List ℕ) (f : Fits v) (f' : Fits v') (h : length m ≤ 1048576) (h' : length m' ≤ 1048576)
    (c : ends_closed v m ≡ ends_closed v' m') (w : Alike v m v' m' (segments_from v m 0) (segments_from v' m' 0)) where
  tags : tags_of v m ≡ tags_of v' m'
  tags = same_tags v m v' m' w

  segs : (rows : List ℕ) → segs_of v m rows ≡ segs_of v' m' rows
  segs = same_segs v m v' m' w

  bare : bare_of v m ≡ bare_of v' m'
  bare = same_bare v m v' m' w f f' h h' c

  kinds : (k : Kind) → Of k v m → Of k v' m'
  kinds k o = subst (λ (b : Bare). is_kind k b.segments ≡ true) bare o

  kinds' : (k : Kind) → Of k v' m' → Of k v m
  kinds' k o = subst (λ (b : Bare). is_kind k b.segments ≡ true) (sym bare) o

  -- what applies to one applies to the other
  carries : (x : Room) (n s : ℕ) → Applies v m x n s → Applies v' m' x n s
  carries x n s (soon i) = soon (subst (λ (b : Bare). In (told n s) (tell_all (early b x))) bare i)
  carries x n s (misfit k o j g p q) = misfit k (kinds k o) j (subst (λ (l : List ℕ). FirstMisfit (chart_for k) l j) tags g) p q
  carries x n s (late k o rows r i) =
      late k (kinds k o) rows (subst (λ (l : List ℕ). Reading (chart_for k) l rows) tags r) (subst (λ (l : List Seg). In (told n s) (tell_all (rules_for k l))) (segs rows) i)

  carried : (x : Room) (n s : ℕ) → Applies v' m' x n s → Applies v m x n s
  carried x n s (soon i) = soon (subst (λ (b : Bare). In (told n s) (tell_all (early b x))) (sym bare) i)
  carried x n s (misfit k o j g p q) = misfit k (kinds' k o) j (subst (λ (l : List ℕ). FirstMisfit (chart_for k) l j) (sym tags) g) p q
  carried x n s (late k o rows r i) =
      late k (kinds' k o) rows (subst (λ (l : List ℕ). Reading (chart_for k) l rows) (sym tags) r) (subst (λ (l : List Seg). In (told n s) (tell_all (rules_for k l))) (sym (segs rows)) i)

  pub same_lowest : (x : Room) (n s : ℕ) → Lowest v m x n s → Lowest v' m' x n s
  same_lowest x n s l = record { applies = carries x n s l.applies; least = λ k t a. l.least k t (carried x k t a) }

  -- two answers, each by its own bytes
  pub same_verdict : (x x1 x2 : Lists) (y y' : Report) → Reported v m x x1 y → Reported v' m' x x2 y' → verdict_of (left y x1) ≡ verdict_of (left y' x2)
  same_verdict x x1 x2 y y' (accepted d k o rows a free e p) z =
      let i : Reported v' m' x (filled k v' m' rows x) (Accepted d) =
      accepted d k (kinds k o) rows (subst (λ (l : List ℕ). Reading (chart_for k) l rows) tags a) (λ n s g. free n s (carried (room_of x) n s g)) (e ∙ ap (counts_of k) (segs rows)) refl in
      let u : over (totals_for k (segs_of v m rows)) x.totals ≡ over (totals_for k (segs_of v' m' rows)) x.totals = ap (λ (l : List Seg). over (totals_for k l) x.totals) (segs rows) in
      ap (λ (l : Lists). verdicts.accepted d l.rows l.totals) p
      ∙ ap (verdicts.accepted d (over rows x.rows)) u
      ∙ ap verdict_of (one_report v' m' x (filled k v' m' rows x) x2 (Accepted d) y' i z)
  same_verdict x x1 x2 y y' (refused g l o p) z =
      let g' : Refusal = record { number = g.number; segment = g.segment; offset = offset_of v' m' (table_number g.number) g.segment } in
      let i : Reported v' m' x x1 (Refused g') = refused g' (same_lowest (room_of x) (table_number g.number) g.segment l) refl p in
      ap verdict_of (one_report v' m' x x1 x2 (Refused g') y' i z)
