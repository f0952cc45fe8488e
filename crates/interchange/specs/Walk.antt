-- What walking an interchange visits: the statements of the theorems on walking.
use Rattle.std.specs.Prelude.{ℕ, ◌≡◌, List, [], ◌∷◌}
use Rattle.service.specs.declared.Service.{Service}
use Rattle.segments.specs.SegmentList.{segments_after}
use Rattle.interchange.specs.Finds as found
use Rattle.interchange.specs.Messages.{Extent, starts_at, ends_at, messages_of, found_from}

-- all messages of a text, read from its first byte
abbrev pub all_messages : Service → List ℕ → List Extent
all_messages v s = messages_of v s (segments_after v s 0)

-- "gives its start and its end, which is the next position": walking from a position again and again visits these messages, in this order, and then
-- answers that none is left
pub data Visits (v : Service) (s : List ℕ) : ℕ → List Extent → Type 0 where
  done : (at : ℕ) → found_from v s at ≡ found.Nothing → Visits v s at []
  step : (at : ℕ) (m : Extent) (ms : List Extent) → found_from v s at ≡ found.Message (starts_at m) (ends_at m) → Visits v s (ends_at m) ms → Visits v s at (m ∷ ms)

-- what is found at a message's own first byte is that message
pub data Own (v : Service) (s : List ℕ) : List Extent → Type 0 where
  none : Own v s []
  also : (m : Extent) (ms : List Extent) → found_from v s (starts_at m) ≡ found.Message (starts_at m) (ends_at m) → Own v s ms → Own v s (m ∷ ms)
