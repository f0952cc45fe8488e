-- What the run of amounts comes to: the first faults under 22 to 26. Assumes nothing.
use Rattle.std.specs.Prelude.{ℕ, ◌+◌, ◌<◌, min, ◌≡◌, Bool, ◌||◌, eqb, Option, None, Some}
use Rattle.std.proofs.Common.{arith, ◌∙◌, eq-eqb, ne_eqb}
use Rattle.std.proofs.Math.Decide.{ℕ_discrete}
use Rattle.std.proofs.Math.Path.{refl, sym, ap}
use mathlib.Core.List.{List, [], ◌∷◌}
use Rattle.std.proofs.Math.Bool.{true, false}
use Rattle.values.specs.Forms.Values.{amount_of}
use Rattle.values.specs.Laws.AmountIsLaws.{amount_of_lem, amount_below}
use Rattle.faults.specs.Firsts.{lesser, Told, number_first}
use Rattle.faults.specs.Laws.FirstsLaws.{lesser_last, lesser_group}
use Rattle.rule.specs.Refusals.{by_rules}
use Rattle.message.specs.Segs.{Seg, Stretch, LIN, MOA5, CUX5, MOA11, is, those, amounts, each}
use Rattle.message.specs.Rules as rules
use Rattle.message.specs.Rules.{worth, amount, failing, sum, fault23, fault24, fault25, fault26}
use Rattle.message.specs.Forms.Run.{run, first_of, test_step, level_step, close}
use Rattle.message.proofs.Laws.FirstLaws.{none_lesser, lesser_swap, first_append, first_unless, test_tells}
use Rattle.message.proofs.Laws.LevelLaws.{goes, Tells, level_tells}
use Rattle.message.specs.Forms.Counts.{some_step, most}
use Rattle.message.proofs.Laws.CountLaws.{some_came}
use Rattle.service.specs.declared.Service.{Service}
use Rattle.amounts.specs.declared.Amounts.{Amounts}
use Rattle.amounts.specs.Forms.Steps.{sums_of, amounts_close, Held, held, add_step, held_inner, Rule, rule23, rule24, rule25, rule26, ends, tells_by, comes_by, level_of, Sums, held_step, first_step, is_moa, is_formed, sums_step, sums_idle, ended_by}

-- ---- the order at hand, part by part
held_run : (o : Seg) (x : Bool) (n : ℕ) (ss : List Seg) → run held_inner (Some (held o x n)) ss ≡ Some (held o (run (some_step (is CUX5)) x ss) (run add_step n ss))
unfolding run held_inner
held_run o x n [] = refl
held_run o x n (s ∷ ss) = held_run o (some_step (is CUX5) x s) (add_step n s) ss

add_turn : (n : ℕ) (s : Seg) (ss : List Seg) (b : Bool) → is MOA11 s ≡ b → ((n' : ℕ) → run add_step (min n' most) ss ≡ min (n' + sum (those (is MOA11) ss)) most)
    → run add_step (add_step (min n most) s) ss ≡ min (n + sum (those (is MOA11) (s ∷ ss))) most
unfolding add_step those sum
add_turn n s ss false e ih = rw e (ih n)
add_turn n s ss true e ih =
    let q : min (min n most + worth (amount_of (amount s))) most ≡ min (n + worth (amount_of (amount s))) most = omega arith in
    rw (e, q) (ih (n + worth (amount_of (amount s))) ∙ omega arith)

add_run : (n : ℕ) (ss : List Seg) → run add_step (min n most) ss ≡ min (n + sum (those (is MOA11) ss)) most
unfolding run those sum
add_run n [] = omega arith
add_run n (s ∷ ss) = add_turn n s ss (is MOA11 s) refl (λ n'. add_run n' ss)

added : (ss : List Seg) → run add_step 0 ss ≡ min (sum (those (is MOA11) ss)) most
added ss = add_run 0 ss ∙ omega arith

-- no amount reaches the end of the range
worth_below : (l : List ℕ) (a : Option ℕ) → amount_of l ≡ a → worth a < most
worth_below l (Some n) e = let h = amount_below l n (amount_of_lem l n e) in omega arith
worth_below l None e = omega arith

sum_capped : (l : List ℕ) (n : ℕ) → eqb (worth (amount_of l)) (min n most) ≡ eqb (worth (amount_of l)) n
sum_capped l n = go (ℕ_discrete (worth (amount_of l)) n)
  where
    go : Dec (worth (amount_of l) ≡ n) → eqb (worth (amount_of l)) (min n most) ≡ eqb (worth (amount_of l)) n
    go (yes e) = let h = worth_below l (amount_of l) refl in eq-eqb _ (min n most) (omega arith) ∙ sym (eq-eqb _ n e)
    go (no g) = let h = worth_below l (amount_of l) refl in ne_eqb _ (min n most) (λ e. g (omega arith)) ∙ sym (ne_eqb _ n g)

-- ---- what any of the rules tells of an order
module _ (R : Rule) where
  goes_turn : (o : Seg) (x : Bool) (n : ℕ) (s : Seg) (ss : List Seg) (b : Bool) → R.kind s ≡ b
      → ((x' : Bool) (n' : ℕ) → goes (level_of R) (Some (held o x' n')) ss ≡ lesser (first_of (failing (R.test o) (those R.kind ss))) (comes_by R (run held_inner (Some (held o x' n')) ss)))
      → lesser (tells_by R (Some (held o x n)) s) (goes (level_of R) (held_inner (Some (held o x n)) s) ss)
      ≡ lesser (first_of (failing (R.test o) (those R.kind (s ∷ ss)))) (comes_by R (run held_inner (held_inner (Some (held o x n)) s) ss))
  unfolding held_inner those failing
  goes_turn o x n s ss false e ih = rw (e, none_lesser) (ih (some_step (is CUX5) x s) (add_step n s))
  goes_turn o x n s ss true e ih =
      rw (e, ih (some_step (is CUX5) x s) (add_step n s), first_append, first_unless)
      (sym (lesser_group _ _ _))

  goes_by : (o : Seg) (x : Bool) (n : ℕ) (ss : List Seg)
      → goes (level_of R) (Some (held o x n)) ss ≡ lesser (first_of (failing (R.test o) (those R.kind ss))) (comes_by R (run held_inner (Some (held o x n)) ss))
  unfolding goes run those failing first_of
  goes_by o x n [] = sym (none_lesser _)
  goes_by o x n (s ∷ ss) = goes_turn o x n s ss (R.kind s) refl (λ x' n'. goes_by o x' n' ss)

  quiet : (ss : List Seg) → goes (level_of R) None ss ≡ None
  unfolding goes held_inner
  quiet [] = refl
  quiet (s ∷ ss) = none_lesser _ ∙ quiet ss

  neither : (a b : Bool) → a || b ≡ false → b ≡ false
  neither true b e = cc
  neither false b e = e

  tells : (f : Stretch → List ℕ)
      → ((s : Seg) (ss : List Seg) → first_of (f (record { head = s; body = ss })) ≡ lesser (comes_by R (run held_inner (Some (held s false 0)) ss)) (first_of (failing (R.test s) (those R.kind ss))))
      → Tells (level_of R) f
  tells f h = record {
    sound = λ s ss. h s ss ∙ lesser_swap _ _ ∙ sym (goes_by s false 0 ss);
    quiet = quiet;
    ended = λ s e. neither (is LIN s) (is MOA5 s) e;
  }

  -- ---- one rule of the run
  split_by : (a : Option Held) (f : Option ℕ) (s : Seg) (b : Bool) → ends s ≡ b → level_step (level_of R) (a, f) s ≡ (held_step a s, first_step R a f s)
  unfolding level_step held_step first_step
  split_by a f s true e = rw e
  split_by a f s false e = rw e

  module _ (pr : Sums → Option ℕ) (h : (st : Sums) (s : Seg) → pr (sums_step st s) ≡ first_step R st.order (pr st) s) where
    part : (st : Sums) (ss : List Seg) → run (level_step (level_of R)) (st.order, pr st) ss ≡ ((run sums_step st ss).order, pr (run sums_step st ss))
    unfolding run sums_step
    part st [] = refl
    part st (s ∷ ss) = rw (split_by st.order (pr st) s (ends s) refl, ← h st s) (part (sums_step st s) ss)

-- ---- the rules
tells23 : Tells (level_of rule23) fault23
tells23 = tells rule23 fault23 (λ s ss. rw (first_append, first_unless, held_run))

tells24 : Tells (level_of rule24) fault24
tells24 = tells rule24 fault24 (λ s ss. rw (first_append, first_unless, held_run))

tells25 : Tells (level_of rule25) fault25
tells25 = tells rule25 fault25 (λ s ss. rw (first_append, first_unless, held_run, some_came (is CUX5) ss))

nobody : (ss : List Seg) → those (λ s. false) ss ≡ []
unfolding those
nobody [] = refl
nobody (s ∷ ss) = nobody ss

tells26 : Tells (level_of rule26) fault26
unfolding failing first_of
tells26 = tells rule26 fault26 (λ s ss. rw (first_unless, held_run, added ss, sum_capped (amount s), nobody ss) (sym (lesser_last _)))

form_run : (st : Sums) (ss : List Seg) → run (test_step is_moa is_formed) st.first22 ss ≡ (run sums_step st ss).first22
unfolding run sums_step
form_run st [] = refl
form_run st (s ∷ ss) = form_run (sums_step st s) ss

module _ (m : List Seg) where
  agree22 : (ended_by (run sums_step sums_idle m)).first22 ≡ first_of (rules.rule22 m)
  unfolding rules.rule22
  agree22 = sym (form_run sums_idle m) ∙ test_tells is_moa is_formed m

  by_level : (R : Rule) (f : Stretch → List ℕ) → Tells (level_of R) f → (pr : Sums → Option ℕ) → ((st : Sums) (s : Seg) → pr (sums_step st s) ≡ first_step R st.order (pr st) s) → pr sums_idle ≡ None
      → lesser (pr (run sums_step sums_idle m)) (comes_by R (run sums_step sums_idle m).order) ≡ first_of (each f (amounts m))
  unfolding close
  by_level R f T pr h e = ap (close (level_of R)) (sym (part R pr h sums_idle m)) ∙ rw e (level_tells (level_of R) f T m)

  agree23 : (ended_by (run sums_step sums_idle m)).first23 ≡ first_of (rules.rule23 m)
  unfolding rules.rule23 sums_step
  agree23 = by_level rule23 fault23 tells23 (λ st. st.first23) (λ st s. refl) refl

  agree24 : (ended_by (run sums_step sums_idle m)).first24 ≡ first_of (rules.rule24 m)
  unfolding rules.rule24 sums_step
  agree24 = by_level rule24 fault24 tells24 (λ st. st.first24) (λ st s. refl) refl

  agree25 : (ended_by (run sums_step sums_idle m)).first25 ≡ first_of (rules.rule25 m)
  unfolding rules.rule25 sums_step
  agree25 = by_level rule25 fault25 tells25 (λ st. st.first25) (λ st s. refl) refl

  agree26 : (ended_by (run sums_step sums_idle m)).first26 ≡ first_of (rules.rule26 m)
  unfolding rules.rule26 sums_step
  agree26 = by_level rule26 fault26 tells26 (λ st. st.first26) (λ st s. refl) refl

-- what the places of an ended state come to
module _ (v : Service) (m : List ℕ) (st r : Amounts) (ss : List Seg) (h : sums_of v m st ≡ run sums_step sums_idle ss) (e : r ≡ amounts_close v m st) where
  closed : sums_of v m r ≡ ended_by (run sums_step sums_idle ss)
  closed = rw (e, ← h) refl

  pub refused : (o : Option Told) → number_first 22 r.first22 (number_first 23 r.first23 (number_first 24 r.first24 (number_first 25 r.first25 (number_first 26 r.first26 o))))
      ≡ by_rules ((22, rules.rule22 ss) ∷ (23, rules.rule23 ss) ∷ (24, rules.rule24 ss) ∷ (25, rules.rule25 ss) ∷ (26, rules.rule26 ss) ∷ []) o
  unfolding by_rules
  refused o = rw (
    ap (λ (x : Sums). x.first22) closed ∙ agree22 ss,
    ap (λ (x : Sums). x.first23) closed ∙ agree23 ss,
    ap (λ (x : Sums). x.first24) closed ∙ agree24 ss,
    ap (λ (x : Sums). x.first25) closed ∙ agree25 ss,
    ap (λ (x : Sums). x.first26) closed ∙ agree26 ss,
  ) refl
