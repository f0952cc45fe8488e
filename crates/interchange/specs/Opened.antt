-- Opening an interchange, as document 01's numbers 1 to 4 say.
use Rattle.std.specs.Prelude.{ℕ, ◌≤◌, ◌<◌, ◌≡◌, List, true, false, length}
use Rattle.numbers.specs.declared.Number.{Number}
use Rattle.numbers.specs.Table.{table_number}
use Rattle.service.specs.declared.Service.{Service}
use Rattle.service.specs.Service.{Fit, Unfit}
use Rattle.service.specs.Service.{characters_of}
use Rattle.segments.specs.SegmentList.{segments_from}
use Rattle.interchange.specs.Answers.{Opening}
use Rattle.interchange.specs.Answers.{Opens, Refused}
use Rattle.interchange.specs.Envelope.{headed, ended, first_at, refusal}

-- the numbers that apply to an interchange; without service characters it has no segments, to which 3 or 4 might apply
pub data OpenFault (s : List ℕ) (n : ℕ) : Type 0 where
  -- "interchange over 1,048,576 bytes"
  long : 1048576 < length s → n ≡ 1 → OpenFault s n
  -- "service characters break the rule above or are cut short"
  unfit : characters_of s ≡ Unfit → n ≡ 2 → OpenFault s n
  -- "first segment, finished or not, is no such UNB (an empty buffer too)"
  headless : (v : Service) (una : ℕ) → characters_of s ≡ Fit v una → headed v s (segments_from v s (first_at s una)) ≡ false → n ≡ 3 → OpenFault s n
  -- "the last segment is no finished UNZ"
  endless : (v : Service) (una : ℕ) → characters_of s ≡ Fit v una → ended v s (segments_from v s (first_at s una)) ≡ false → n ≡ 4 → OpenFault s n

-- what an interchange is that opens: the facts, one by one
pub record Opened (s : List ℕ) (v : Service) (first : ℕ) : Type 0 where
  pub una : ℕ
  pub short : length s ≤ 1048576
  pub named : characters_of s ≡ Fit v una
  pub begins : first_at s una ≡ first
  pub heads : headed v s (segments_from v s first) ≡ true
  pub closes : ended v s (segments_from v s first) ≡ true

-- "The lowest number that applies is given"
pub record Least (applies : ℕ → Type 0) (n : ℕ) : Type 0 where
  pub one : applies n
  pub least : (k : ℕ) → applies k → n ≤ k

-- the answer of opening: service characters and where the first segment begins exactly if the interchange opens, else the lowest number, at 0, 0.
-- "Numbers 1 to 4 are found in that order by opening"
pub data OpenedAs (s : List ℕ) : Opening → Type 0 where
  accepted : (v : Service) (first : ℕ) → Opened s v first → OpenedAs s (Opens v first)
  refused : (n : Number) → Least (OpenFault s) (table_number n) → OpenedAs s (Refused (refusal n))
