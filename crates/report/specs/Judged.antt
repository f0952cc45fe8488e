-- W-203: "each message is judged as if they were long enough": the report of a message, whatever lists are lent.
use Rattle.std.specs.Prelude.{ℕ, ◌≡◌, List, true}
use Rattle.service.specs.declared.Service.{Service}
use Rattle.lent.specs.Lists.{Lists}
use Rattle.report.specs.Answers.{Report}
use Rattle.report.specs.Reported.{bare_of, room_of, fits, Reported}

-- the lists x are long enough for the message m: 14 does not apply to it
abbrev pub Enough : Service → List ℕ → Lists → Type 0
Enough v m x = fits (bare_of v m).segments (room_of x) ≡ true

-- the report that a check gives with such lists
pub data Judged (v : Service) (m : List ℕ) (y : Report) : Type 0 where
  judged : (x x' : Lists) → Enough v m x → Reported v m x x' y → Judged v m y
