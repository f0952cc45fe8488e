-- W-203, several messages at once: the numbers that C receives for the walk from each of several positions.
use Rattle.std.specs.Prelude.{ℕ, ◌<◌, ◌≡◌, List, [], ◌∷◌, length}
use Rattle.lent.specs.Lists.{Lists}
use Rattle.walk.specs.Walks.{LongEnough}
use Rattle.twineherald.specs.declared.StepNumbers.{StepNumbers}
use Rattle.twineherald.specs.Numbers.{Stepped}

-- the numbers of a step in the order of its fields
abbrev pub numbers_of : StepNumbers → List ℕ
numbers_of y =
    y.found ∷ y.start ∷ y.end ∷ y.report.number ∷ y.report.segment ∷ y.report.offset ∷ y.report.segments ∷ y.report.orders ∷ y.report.payments ∷ []

-- "each answer equals what the single call gives at that position", "judged as if they were long enough"
pub data Answered (b : List ℕ) (at : ℕ) (r : List ℕ) : Type 0 where
  answered : (x x' : Lists) (y : StepNumbers) → LongEnough b at x → Stepped b at x x' y → r ≡ numbers_of y → Answered b at r

-- the answers a before and a' after: one for each position, "in the order listed, a position named twice included"; entries past these keep their content
pub data AnsweredEach (b : List ℕ) : (positions : List ℕ) (a a' : List (List ℕ)) → Type 0 where
  no_more : (a a' : List (List ℕ)) → a' ≡ a → AnsweredEach b [] a a'
  one_more_lem : (at : ℕ) (ps q r : List ℕ) (a a' : List (List ℕ)) → Answered b at r → AnsweredEach b ps a a' → AnsweredEach b (at ∷ ps) (q ∷ a) (r ∷ a')

-- the number is 0, or "14 for the call, and no answer written, if the answer list is shorter"
pub data SteppedEach (b positions : List ℕ) (a a' : List (List ℕ)) (x : ℕ) : Type 0 where
  given : AnsweredEach b positions a a' → x ≡ 0 → SteppedEach b positions a a' x
  shorter : length a < length positions → a' ≡ a → x ≡ 14 → SteppedEach b positions a a' x
