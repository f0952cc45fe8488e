-- What applies under 1, 2 and 10 to 14 comes before all else. Assumes nothing.
use Rattle.std.specs.Prelude.{ℕ, ◌≤◌, ◌<◌, ◌⊎◌, None}
use Rattle.std.proofs.Common.{arith, sym, ◌∙◌, inl, inr}
use Rattle.std.proofs.Math.Path.{◌≡◌, refl, subst}
use mathlib.Core.List.{List, [], ◌∷◌, ◌++◌}
use Rattle.service.specs.declared.Service.{Service}
use Rattle.faults.specs.Firsts.{fault_at}
use Rattle.message.specs.Segs.{Seg, segs_of}
use Rattle.kinds.specs.declared.Kind.{Kind}
use Rattle.kinds.specs.declared.Kind.TheVariants.{Paymul, Debmul}
use Rattle.message.specs.Kinds.{rules_for}
use Rattle.message.specs.Faults.{rank, Told, told, tell, tell_all, least, least_of}
use Rattle.message.proofs.Laws.FaultLaws.{Rising, by_rules, by_rules_lem}
use Rattle.report.specs.Reported.{Bare, bare_of, Room, early, In, here, there, Applies, soon, misfit, late, Lowest}
use Rattle.report.specs.Laws.LeastLaws.{NotAfter, nowhere, least_in, least_first_lem, told_is}

-- the numbers of some rules lie from lo to hi
pub Numbers : ℕ → ℕ → List (ℕ × List ℕ) → Type 0
Numbers lo hi [] = Unit {0}
Numbers lo hi (r ∷ rs) = (lo ≤ r.0) × (r.0 ≤ hi) × Numbers lo hi rs

number_told : (lo hi k : ℕ) (ps : List ℕ) (l : List Told) (a : Told) → lo ≤ k → k ≤ hi → (In a l → (lo ≤ a.number) × (a.number ≤ hi)) → In a (tell k ps ++ l) → (lo ≤ a.number) × (a.number ≤ hi)
unfolding tell
number_told lo hi k [] l a p q g i = g i
number_told lo hi k (x ∷ ps) l a p q g here = (p, q)
number_told lo hi k (x ∷ ps) l a p q g (there i) = number_told lo hi k ps l a p q g i

pub numbers_told : (lo hi : ℕ) (rs : List (ℕ × List ℕ)) (a : Told) → Numbers lo hi rs → In a (tell_all rs) → (lo ≤ a.number) × (a.number ≤ hi)
unfolding tell_all Numbers
numbers_told lo hi [] a h i = absurd (nowhere a [] refl i)
numbers_told lo hi (r ∷ rs) a h i = number_told lo hi r.0 r.1 (tell_all rs) a h.0 h.1 (numbers_told lo hi rs a h.2) i

early_numbers : (b : Bare) (x : Room) → Numbers 1 14 (early b x)
unfolding Numbers early
early_numbers b x = omega arith

pub late_numbers : (k : Kind) (m : List Seg) → Numbers 17 31 (rules_for k m)
unfolding Numbers
late_numbers Paymul m = omega arith
late_numbers Debmul m = omega arith

-- the rules stand in the order of their ranks, so the code's chain of tests gives the least
early_rising : (b : Bare) (x : Room) → Rising 0 (early b x)
unfolding rank early
early_rising b x = omega arith

pub early_least : (b : Bare) (x : Room) → least_of (tell_all (early b x)) ≡ by_rules (early b x) None
early_least b x = by_rules_lem 0 (early b x) (early_rising b x)

rank_is : (n : ℕ) → rank n ≡ n
unfolding rank
rank_is n = refl

module _ (v : Service) (m : List ℕ) (x : Room) where
  lowest_by : (n s k t : ℕ) → n ≤ 14 → NotAfter (told n s) (told k t) → (rank n < rank k) ⊎ ((n ≡ k) × (s ≤ t))
  lowest_by n s k t h (inl g) = inl g
  lowest_by n s k t h (inr g) = inr (sym (rank_is n) ∙ g.0 ∙ rank_is k, g.1)

  first_by : (b : Told) (l : List Told) → (b ∷ l) ≡ tell_all (early (bare_of v m) x) → (n s : ℕ) → least b l ≡ told n s → n ≤ 14 → (k t : ℕ) → Applies v m x k t → (rank n < rank k) ⊎ ((n ≡ k) × (s ≤ t))
  first_by b l q n s w h k t (soon i) = lowest_by n s k t h (subst (λ (c : Told). NotAfter c (told k t)) w (least_first_lem b l (told k t) (subst (λ (u : List Told). In (told k t) u) (sym q) i)))
  first_by b l q n s w h k t (misfit c o j f p r) = let e = rank_is n in let g = rank_is k in inl (omega arith)
  first_by b l q n s w h k t (late c o rows r i) = let e = rank_is n in let g = rank_is k in let z = (numbers_told 17 31 _ (told k t) (late_numbers c (segs_of v m rows)) i).0 in inl (omega arith)

  at_by : (l : List Told) → l ≡ tell_all (early (bare_of v m) x) → (n s : ℕ) → least_of l ≡ fault_at n s → Lowest v m x n s
  unfolding least_of
  at_by [] q n s p = absurd (let z : ◌≡◌ {A = ℕ} 0 1 = cc in omega arith)
  at_by (b ∷ l) q n s p =
      let w = told_is (least b l) n s p in
      let i : In (told n s) (tell_all (early (bare_of v m) x)) = subst (λ (t : List Told). In (told n s) t) q (subst (λ (a : Told). In a (b ∷ l)) w (least_in b l)) in
      let h : n ≤ 14 = (numbers_told 1 14 _ (told n s) (early_numbers (bare_of v m) x) i).1 in
      record { applies = soon i; least = first_by b l q n s w h }

  -- refused early: whatever else would apply
  pub early_lowest : (n s : ℕ) → least_of (tell_all (early (bare_of v m) x)) ≡ fault_at n s → Lowest v m x n s
  early_lowest n s p = at_by (tell_all (early (bare_of v m) x)) refl n s p

  none_by : (l : List Told) → least_of l ≡ None → l ≡ []
  unfolding least_of
  none_by [] p = refl
  none_by (b ∷ l) p = absurd (let z : ◌≡◌ {A = ℕ} 0 1 = cc in omega arith)

  -- none early: the premise of the late laws
  pub early_none : least_of (tell_all (early (bare_of v m) x)) ≡ None → tell_all (early (bare_of v m) x) ≡ []
  early_none p = none_by (tell_all (early (bare_of v m) x)) p
