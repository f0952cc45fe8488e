-- A placed message of a kind, to which no early fault applies: what `rule_fault` gives is the lowest fault that applies, and none is given exactly if none applies. Assumes nothing.
use Rattle.std.specs.Prelude.{ℕ, suc, ◌+◌, ◌≤◌, ◌<◌, refl, ◌⊎◌, drop, None}
use Rattle.std.proofs.Math.Path.{◌≡◌}
use Rattle.std.proofs.Common.{sym, subst, inl, inr, take-append-drop}
use mathlib.Core.List.{List, [], ◌∷◌}
use native.Mathlib.Omega.{arith}
use Rattle.service.specs.declared.Service.{Service}
use Rattle.faults.specs.Firsts.{fault_at}
use Rattle.chart.specs.Chart.{Placement, Reading, FirstMisfit, Rows}
use Rattle.chart.specs.Tags.{tags_of}
use Rattle.chart.proofs.Theorems.{one_reading, one_misfit}
use Rattle.message.specs.Segs.{segs_of}
use Rattle.kinds.specs.declared.Kind.{Kind}
use Rattle.message.specs.Kinds.{chart_for, rules_for}
use Rattle.message.specs.Faults.{rank, Told, told, tell_all, least, least_of}
use Rattle.report.specs.Reported.{bare_of, Room, early, In, Of, Applies, soon, misfit, late, Lowest}
use Rattle.report.specs.Laws.KindLaws.{one_kind}
use Rattle.report.specs.Laws.LeastLaws.{NotAfter, nowhere, least_in, least_first_lem, told_is}

-- a number has one rank
rank_one : (n k : ℕ) → rank n ≡ rank k → n ≡ k
unfolding rank
rank_one n k e = e

-- a message with a reading has no misfit
no_misfit : (chart : Rows) (ts ns : List ℕ) → Placement chart ts ns → (j : ℕ) → FirstMisfit chart ts j → ⊥
no_misfit chart ts ns p j f = f.misfit (record { tail = drop (suc j) ts; nos = ns; placement = subst (λ (l : List ℕ). Placement chart l ns) (sym (take-append-drop (suc j) ts)) p })

module _ (c : Kind) (v : Service) (m : List ℕ) (o : Of c v m) (x : Room) (rows : List ℕ) (r : Reading (chart_for c) (tags_of v m) rows) (e : tell_all (early (bare_of v m) x) ≡ []) where
  -- what applies is told by the rules on the placed message
  only_late : (n s : ℕ) → Applies v m x n s → In (told n s) (tell_all (rules_for c (segs_of v m rows)))
  only_late n s (soon i) = absurd (nowhere (told n s) _ e i)
  only_late n s (misfit c' o' j f p q) = absurd (no_misfit (chart_for c) (tags_of v m) rows r.placement j (subst (λ (k : Kind). FirstMisfit (chart_for k) (tags_of v m) j) (one_kind v m c' c o' o) f))
  only_late n s (late c' o' rows' r' i) = same c' (one_kind v m c' c o' o) r' i
    where
      same : (k : Kind) → k ≡ c → Reading (chart_for k) (tags_of v m) rows' → In (told n s) (tell_all (rules_for k (segs_of v m rows'))) → In (told n s) (tell_all (rules_for c (segs_of v m rows)))
      same k e r' i =
          subst (λ (l : List ℕ). In (told n s) (tell_all (rules_for c (segs_of v m l)))) (one_reading (chart_for c) (tags_of v m) rows' rows (subst (λ (k : Kind). Reading (chart_for k) (tags_of v m) rows') e r') r)
          (subst (λ (k : Kind). In (told n s) (tell_all (rules_for k (segs_of v m rows')))) e i)

  none_by : (l : List Told) → l ≡ tell_all (rules_for c (segs_of v m rows)) → least_of l ≡ None → (n s : ℕ) → Applies v m x n s → ⊥
  unfolding least_of
  none_by [] q p n s a = nowhere (told n s) _ (sym q) (only_late n s a)
  none_by (b ∷ l) q p n s a = let z : ◌≡◌ {A = ℕ} 0 1 = cc in omega arith

  -- accepted: nothing applies
  pub late_none : least_of (tell_all (rules_for c (segs_of v m rows))) ≡ None → (n s : ℕ) → Applies v m x n s → ⊥
  late_none p = none_by (tell_all (rules_for c (segs_of v m rows))) refl p

  lowest_by : (n s k t : ℕ) → NotAfter (told n s) (told k t) → (rank n < rank k) ⊎ ((n ≡ k) × (s ≤ t))
  lowest_by n s k t (inl h) = inl h
  lowest_by n s k t (inr h) = inr (rank_one n k h.0, h.1)

  at_by : (l : List Told) → l ≡ tell_all (rules_for c (segs_of v m rows)) → (n s : ℕ) → least_of l ≡ fault_at n s → Lowest v m x n s
  unfolding least_of
  at_by [] q n s p = absurd (let z : ◌≡◌ {A = ℕ} 0 1 = cc in omega arith)
  at_by (b ∷ l) q n s p =
      let w = told_is (least b l) n s p in
      record {
        applies = late c o rows r (subst (λ (t : List Told). In (told n s) t) q (subst (λ (a : Told). In a (b ∷ l)) w (least_in b l)));
        least = λ k t a. lowest_by n s k t (subst (λ (c : Told). NotAfter c (told k t)) w (least_first_lem b l (told k t) (subst (λ (u : List Told). In (told k t) u) (sym q) (only_late k t a))));
      }

  -- refused: the lowest number that applies, and under it the first segment
  pub late_lowest : (n s : ℕ) → least_of (tell_all (rules_for c (segs_of v m rows))) ≡ fault_at n s → Lowest v m x n s
  late_lowest n s p = at_by (tell_all (rules_for c (segs_of v m rows))) refl n s p

-- 16, where there is no placement
module _ (c : Kind) (v : Service) (m : List ℕ) (o : Of c v m) (x : Room) (j : ℕ) (f : FirstMisfit (chart_for c) (tags_of v m) j) (e : tell_all (early (bare_of v m) x) ≡ []) where
  misfit_first : (k t : ℕ) → Applies v m x k t → (rank 16 < rank k) ⊎ ((16 ≡ k) × (j + 1 ≤ t))
  misfit_first k t (soon i) = absurd (nowhere (told k t) _ e i)
  misfit_first k t (misfit c' o' j' f' p q) =
      let w = one_misfit (chart_for c) (tags_of v m) j j' f (subst (λ (i : Kind). FirstMisfit (chart_for i) (tags_of v m) j') (one_kind v m c' c o' o) f') in
      inr (sym p, omega arith)
  misfit_first k t (late c' o' rows r i) = absurd (no_misfit (chart_for c) (tags_of v m) rows (subst (λ (i : Kind). Reading (chart_for i) (tags_of v m) rows) (one_kind v m c' c o' o) r).placement j f)

  pub misfit_lowest : Lowest v m x 16 (j + 1)
  misfit_lowest = record { applies = misfit c o j f refl refl; least = misfit_first }
