-- 17 and 18 as the loop goes, 18 by a reference that was read before: a step for each segment, for the row of the UNT.
use Rattle.std.specs.Prelude.{ℕ, List, Option, None}
use Rattle.values.specs.Text.{same_list}
use Rattle.message.specs.Segs.{Seg, on_row}
use Rattle.message.specs.Rules.{writes}
use Rattle.message.specs.Forms.Run.{run, test_step}
use Rattle.trailer.specs.declared.Trailer.{Trailer}

abbrev pub trailer_start : (unt : ℕ) → Trailer unt
trailer_start unt = record { first17 = None; first18 = None }

-- 17, in a message of n segments
unfoldable pub count_step : ℕ → ℕ → Option ℕ → Seg → Option ℕ
count_step unt n f s = test_step (on_row unt) (λ s. writes (s.value 1 0) n) f s

abbrev pub count_after : ℕ → ℕ → List Seg → Option ℕ
count_after unt n ss = run (count_step unt n) None ss

-- 18, where l is the reference of the UNH
unfoldable pub reference_step : ℕ → List ℕ → Option ℕ → Seg → Option ℕ
reference_step unt l f s = test_step (on_row unt) (λ s. same_list (s.value 2 0) l) f s

abbrev pub reference_after : ℕ → List ℕ → List Seg → Option ℕ
reference_after unt l ss = run (reference_step unt l) None ss
