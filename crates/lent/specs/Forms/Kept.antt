-- Entries past the count keep their content.
use Rattle.std.specs.Prelude.{ℕ, ◌≡◌, List, length, drop}

-- a list after a call has the same length, and the same entries from n on, as before
pub record Kept (n : ℕ) (old new : List ℕ) : Type 0 where
  pub long : length new ≡ length old
  pub rest : drop n new ≡ drop n old
