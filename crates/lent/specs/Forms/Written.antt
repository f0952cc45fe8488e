-- A list as a loop leaves it that writes entry after entry.
use Rattle.std.specs.Prelude.{ℕ, ◌≡◌, List, take}
use Rattle.lent.specs.Over.{over}

-- a list that was old holds the first n entries of new, all where there are no more, over its front
pub record Written (n : ℕ) (new old now : List ℕ) : Type 0 where
  pub is : now ≡ over (take n new) old
