-- 20, 21 and 29 as the loop goes: what is kept, and a step for each segment.
use Rattle.std.specs.Prelude.{ℕ, ◌+◌, min, List, ◌&&◌, Option, None, Some}
use Rattle.service.specs.Tests.{if}
use Rattle.faults.specs.Firsts.{lesser, place_unless}
use Rattle.values.specs.Text.{says}
use Rattle.message.specs.Segs.{Seg, LIN, SEQ, CNT, on_row, is}
use Rattle.message.specs.Rules.{writes}
use Rattle.message.specs.Forms.Run.{run, test_step, Level, level_step}
use Rattle.message.specs.Forms.Counts.{most}
use Rattle.numbering.specs.declared.LineNumbers.{LineNumbers}
use Rattle.numbering.specs.declared.SequenceNumbers.{SequenceNumbers}
use Rattle.numbering.specs.declared.Control.{Control}

-- 20: the last LIN's number, and the first place
abbrev pub line_start : (lin : ℕ) → LineNumbers lin
line_start lin = record { line = record { 0 = 0 }; first20 = None }

unfoldable pub line_step : ℕ → (ℕ × Option ℕ) → Seg → (ℕ × Option ℕ)
line_step lin st s =
    if (on_row lin s) (min (st.0 + 1) most, lesser st.1 (place_unless (writes (s.value 1 0) (min (st.0 + 1) most)) s.nth)) st

abbrev pub lines_after : ℕ → List Seg → ℕ × Option ℕ
lines_after lin ss = run (line_step lin) (0, None) ss

-- 21: the last SEQ's number under the last LIN, if a LIN came
abbrev pub sequence_start : SequenceNumbers
sequence_start = record { sequence = None; first21 = None }

unfoldable pub count_seq : Option ℕ → Seg → Option ℕ
count_seq None s = None
count_seq (Some n) s = Some (if (is SEQ s) (min (n + 1) most) n)

unfoldable pub tell_seq : Option ℕ → Seg → Option ℕ
tell_seq None s = None
tell_seq (Some n) s = if (is SEQ s) (place_unless (writes (s.value 2 0) (min (n + 1) most)) s.nth) None

abbrev pub level21 : Level (Option ℕ)
level21 = record { opens = is LIN; ends = is LIN; start = λ s. Some 0; idle = None; inner = count_seq; tells = tell_seq; comes = λ a. None }

unfoldable pub sequence_step : (Option ℕ × Option ℕ) → Seg → (Option ℕ × Option ℕ)
sequence_step st s = level_step level21 st s

abbrev pub sequences_after : List Seg → Option ℕ × Option ℕ
sequences_after ss = run sequence_step (None, None) ss

-- 29, in a message with n LIN segments
abbrev pub control_start : Control
control_start = record { first29 = None }

unfoldable pub control_step : ℕ → Option ℕ → Seg → Option ℕ
control_step n f s = test_step (λ s. is CNT s && says (s.value 1 0) "2") (λ s. writes (s.value 1 1) n) f s

abbrev pub control_after : ℕ → List Seg → Option ℕ
control_after n ss = run (control_step n) None ss
