-- New entries written one by one over the front of a list. Assumes nothing.
use Rattle.std.specs.Prelude.{ℕ, suc, ◌+◌, ◌≤◌, ◌<◌, ◌≡◌, refl, List, ◌∷◌, ◌++◌, length, take, drop, set, get_or}
use Rattle.std.proofs.Common.{add-one, arith, sym, ◌∙◌, ap, length-take-le, take_all, take-suc, drop-cons}
use Rattle.std.proofs.Math.Seq.{append_snoc}
use Rattle.std.proofs.lemmas.List.{set_at}
use Rattle.lent.specs.Over.{over}
use Rattle.lent.specs.Forms.Written.{Written}

over_more : (k : ℕ) (new old : List ℕ) → k < length new → over (take (suc k) new) old ≡ take k new ++ get_or new k 0 ∷ drop (suc k) old
unfolding over
over_more k new old h =
    let l : length (take (suc k) new) ≡ suc k = length-take-le (suc k) new h in
    rw (l, take-suc new k 0 h) (append_snoc (take k new) (get_or new k 0) (drop (suc k) old))

over_set : (k x : ℕ) (new old : List ℕ) → k < length new → k < length old → x ≡ get_or new k 0 → set (over (take k new) old) k x ≡ over (take (k + 1) new) old
unfolding over
over_set k x new old h g e =
    let l : length (take k new) ≡ k = length-take-le k new (omega arith) in
    ap (λ (n : ℕ). set (take k new ++ drop n old) k x) l
    ∙ ap (λ (r : List ℕ). set (take k new ++ r) k x) (drop-cons old k 0 g)
    ∙ set_at (take k new) (get_or old k 0) (drop (suc k) old) x k l
    ∙ ap (λ (y : ℕ). take k new ++ y ∷ drop (suc k) old) e
    ∙ sym (over_more k new old h)
    ∙ ap (λ (n : ℕ). over (take n new) old) (sym (add-one k))

-- nothing is written yet
pub written_start : (new old : List ℕ) → Written 0 new old old
unfolding over
written_start new old = record { is = refl }

module _ (k : ℕ) (new old now : List ℕ) (w : Written k new old now) where
  -- one more entry
  pub written_set : (x : ℕ) → k < length new → k < length old → x ≡ get_or new k 0 → Written (k + 1) new old (set now k x)
  written_set x h g e = record { is = ap (λ (l : List ℕ). set l k x) w.is ∙ over_set k x new old h g e }

  -- all entries
  pub written_all : (n : ℕ) → k ≤ n → length new ≤ k → Written n new old now
  written_all n h g = record { is = w.is ∙ ap (λ (l : List ℕ). over l old) (take_all k new g ∙ sym (take_all n new (omega arith))) }
