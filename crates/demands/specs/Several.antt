-- W-203: "Several messages at once": what the contract of the call says, sentence by sentence.
use Rattle.std.specs.Prelude.{ℕ, ◌≤◌, ◌<◌, ◌≡◌, List, [], ◌∷◌, length, get_or, drop}
use Rattle.service.specs.declared.Service.{Service}
use Rattle.service.specs.Service.{Fit, characters_of}
use Rattle.lent.specs.Lists.{Lists}
use Rattle.walk.specs.Walks.{between}
use Rattle.twineherald.specs.declared.StepNumbers.{StepNumbers}
use Rattle.twineherald.specs.Numbers.{Stepped}
use Rattle.twineherald.specs.Several.{numbers_of, Answered, SteppedEach}

-- lists of 9,999 entries, the most that a message which is accepted can need
pub record Ample (x : Lists) : Type 0 where
  pub rows : 9999 ≤ length x.rows
  pub starts : 9999 ≤ length x.starts
  pub totals : 9999 ≤ length x.totals

pub record Several : Type 0 where
  -- "each answer equals what the single call gives at that position, in the order listed, a position named twice included"
  pub each : (b ps : List ℕ) (a a' : List (List ℕ)) → SteppedEach b ps a a' 0 → (i : ℕ) → i < length ps → Answered b (get_or ps i 0) (get_or a' i [])
  -- the single call with ample lists: its numbers are the answer, and there is no other
  pub as_walked : (b : List ℕ) (at : ℕ) (x x' : Lists) (y : StepNumbers) (r : List ℕ) → Ample x → Stepped b at x x' y → Answered b at r → r ≡ numbers_of y
  -- "each message is judged as if they were long enough": so 14 is never told
  pub not_short : (b : List ℕ) (at : ℕ) (y : StepNumbers) → Answered b at (numbers_of y) → y.report.number ≡ 14 → ⊥
  -- a position past the end is 8, however large it is
  pub past : (b : List ℕ) (at : ℕ) (v : Service) (una : ℕ) (r : List ℕ) → length b ≤ 1048576 → characters_of b ≡ Fit v una → length b < at → Answered b at r → r ≡ 0 ∷ 0 ∷ 0 ∷ 8 ∷ 0 ∷ 0 ∷ 0 ∷ 0 ∷ 0 ∷ []
  -- "14 for the call, and no answer written, if the answer list is shorter", whatever the bytes are; otherwise the call is not refused
  pub short : (b ps : List ℕ) (a a' : List (List ℕ)) (x : ℕ) → length a < length ps → SteppedEach b ps a a' x → (x ≡ 14) × (a' ≡ a)
  pub long : (b ps : List ℕ) (a a' : List (List ℕ)) (x : ℕ) → length ps ≤ length a → SteppedEach b ps a a' x → x ≡ 0
  -- no position, no answer
  pub none : (b : List ℕ) (a a' : List (List ℕ)) (x : ℕ) → SteppedEach b [] a a' x → (x ≡ 0) × (a' ≡ a)
  -- entries past the positions keep their content
  pub beyond : (b ps : List ℕ) (a a' : List (List ℕ)) (x : ℕ) → SteppedEach b ps a a' x → drop (length ps) a' ≡ drop (length ps) a
  -- demand 3: the report "depends on these bytes, the service characters .. alone"
  pub own_bytes : (b b' : List ℕ) (at at' : ℕ) (v : Service) (una una' : ℕ) (y y' : StepNumbers) → characters_of b ≡ Fit v una → characters_of b' ≡ Fit v una' → y.found ≡ 1 → y'.found ≡ 1
      → between b y.start y.end ≡ between b' y'.start y'.end → Answered b at (numbers_of y) → Answered b' at' (numbers_of y') → y.report ≡ y'.report
