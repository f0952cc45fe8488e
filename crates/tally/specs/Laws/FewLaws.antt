-- The counts of a tally while segments are gone over. Assumes nothing.
use Rattle.std.specs.Prelude.{ℕ, ◌≤◌, ◌≡◌, List, ◌∷◌, length, Bool, true, false, eqb}
use Rattle.std.proofs.Common.{arith, subst}
use Rattle.service.specs.declared.Service.{Service}
use Rattle.segments.specs.declared.Piece.{Piece}
use Rattle.segments.specs.SegmentList.{segments_from, end_of}
use Rattle.segments.specs.Laws.StartsLaws.{by_place, starts_count, starts_few}
use Rattle.values.specs.Forms.Codes.{LIN, SEQ}
use Rattle.tally.specs.declared.Tally.{Tally}
use Rattle.tally.specs.Tallied.{nothing, one_if, finished_one, unfinished_one, together}
use Rattle.tally.specs.Forms.Few.{Below, Inside, Few}

inside : (v : Service) (m : List ℕ) (i : ℕ) → Inside (length m) (segments_from v m i)
inside v m = by_place v m (λ i. Inside (length m) (segments_from v m i)) (λ i h q. rw q tt) (λ i h e q. rw q (omega arith, tt))
    (λ i t n e w q ih. rw q (let h = w.ends in omega arith, ih))

pub few_start : (v : Service) (m : List ℕ) → Few nothing (segments_from v m 0) (length m)
few_start v m =
    let a = starts_count v m 0 in
    let b = starts_few v m 0 in record { segments = omega arith; orders = omega arith; payments = omega arith; inside = inside v m 0 }

one_most : (t : Bool) → one_if t ≤ 1
one_most true = omega arith
one_most false = omega arith

module _ (t : Tally) (n : ℕ) (l k : List Piece) (f : Few t l n) (p : Piece) (e : l ≡ p ∷ k) where
  pub few_below : Below t n
  few_below =
      let g : Few t (p ∷ k) n = subst (λ x. Few t x n) e f in
      let h = g.segments in record { segments = omega arith; orders = g.orders; payments = g.payments }

  pub few_end : end_of p ≤ n
  few_end = let g : Few t (p ∷ k) n = subst (λ x. Few t x n) e f in g.inside.0

  pub few_finished : (m : List ℕ) (a z g : ℕ) (u : Tally) → u ≡ together t (finished_one m a z g) → Few u k n
  few_finished m a z g u q =
      let w : Few t (p ∷ k) n = subst (λ x. Few t x n) e f in
      let h = w.segments in
      let x = one_most (eqb g LIN) in
      let y = one_most (eqb g SEQ) in
      let o = w.orders in
      let s = w.payments in
      rw q (record { segments = omega arith; orders = omega arith; payments = omega arith; inside = w.inside.1 })

  pub few_unfinished : (m : List ℕ) (a z : ℕ) (u : Tally) → u ≡ together t (unfinished_one m a z) → Few u k n
  few_unfinished m a z u q =
      let w : Few t (p ∷ k) n = subst (λ x. Few t x n) e f in
      let h = w.segments in
      let o = w.orders in
      let s = w.payments in
      rw q (record { segments = omega arith; orders = omega arith; payments = omega arith; inside = w.inside.1 })
