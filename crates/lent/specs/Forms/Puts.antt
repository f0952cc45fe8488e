-- Bytes put into lent room from a place on, as far as there is room.
use Rattle.std.specs.Prelude.{ℕ, ◌+◌, ◌≤◌, ◌≡◌, cond, List, ◌++◌, length, take, drop, ltb}

-- the place past j where a room of so many bytes reaches so far, and j where it does not
unfoldable pub past_one : ℕ → ℕ → ℕ
past_one j room = cond (ltb j room) (j + 1) j

-- the room that was old is new after l is put from j on, and k is the place past it; where the room is too short for l only its length is told
pub record Puts (j : ℕ) (l old new : List ℕ) (k : ℕ) : Type 0 where
  pub long : length new ≡ length old
  pub past : j + length l ≤ length old → k ≡ j + length l
  pub is : j + length l ≤ length old → new ≡ take j old ++ (l ++ drop (j + length l) old)

-- of the text, what is put so far and what is left
pub record Putting (j : ℕ) (text old new : List ℕ) (k : ℕ) (left : List ℕ) : Type 0 where
  pub done : List ℕ
  pub whole : text ≡ done ++ left
  pub puts : Puts j done old new k
