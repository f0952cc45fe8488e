-- The code's ways through a step of the trailer. Assumes nothing.
use Rattle.std.specs.Prelude.{ℕ, ◌≡◌, refl, List, Option}
use Rattle.std.proofs.Common.{◌∙◌, eq-eqb, ne_eqb}
use Rattle.service.specs.declared.Service.{Service}
use Rattle.values.specs.Numbers.{value_in}
use Rattle.values.specs.Text.{same_list}
use Rattle.faults.specs.Firsts.{lesser, place_unless}
use Rattle.message.specs.Segs.{seg_at}
use Rattle.message.specs.Rules.{writes}
use Rattle.message.specs.Forms.Run.{test_step}
use Rattle.trailer.specs.Trailing.{count_step, reference_step}

-- where a UNT stands, a step is what it makes of the two places; elsewhere they stay
module _ (unt n : ℕ) (l : List ℕ) (f g : Option ℕ) (v : Service) (m : List ℕ) (nth row i : ℕ) (a b : Option ℕ) where
  pub step_unt : row ≡ unt → a ≡ lesser f (place_unless (writes (value_in v i m 1 0) n) nth) → b ≡ lesser g (place_unless (same_list (value_in v i m 2 0) l) nth)
      → (a ≡ count_step unt n f (seg_at v m nth row i)) × (b ≡ reference_step unt l g (seg_at v m nth row i))
  unfolding count_step reference_step test_step
  step_unt e p q = (p ∙ rw (eq-eqb row unt e) refl, q ∙ rw (eq-eqb row unt e) refl)

  pub step_other : (row ≡ unt → ⊥) → a ≡ f → b ≡ g → (a ≡ count_step unt n f (seg_at v m nth row i)) × (b ≡ reference_step unt l g (seg_at v m nth row i))
  unfolding count_step reference_step test_step
  step_other e p q = (p ∙ rw (ne_eqb row unt e) refl, q ∙ rw (ne_eqb row unt e) refl)
