-- What the runs of the trailer come to: the first faults under 17 and 18. Assumes nothing.
use Rattle.std.specs.Prelude.{ℕ, ◌≡◌, refl, List}
use Rattle.std.proofs.Common.{◌∙◌}
use Rattle.values.specs.Text.{same_list}
use Rattle.message.specs.Segs.{Seg, on_row}
use Rattle.message.specs.Rules.{writes, reference, rule17, rule18}
use Rattle.message.specs.Forms.Run.{first_of}
use Rattle.message.proofs.Laws.FirstLaws.{test_tells}
use Rattle.trailer.specs.Trailing.{count_step, count_after, reference_step, reference_after}

pub agree17 : (unt n : ℕ) (ss : List Seg) → count_after unt n ss ≡ first_of (rule17 unt n ss)
unfolding count_step rule17
agree17 unt n ss = test_tells (on_row unt) (λ s. writes (s.value 1 0) n) ss

-- where l is the reference of the UNH, the first segment
pub agree18 : (unt : ℕ) (l : List ℕ) (ss : List Seg) → l ≡ reference ss → reference_after unt l ss ≡ first_of (rule18 unt ss)
unfolding reference_step rule18
agree18 unt l ss e = test_tells (on_row unt) (λ s. same_list (s.value 2 0) l) ss ∙ rw e refl
