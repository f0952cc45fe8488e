-- Where a segment ends and where breaks end, said of the places of a list of bytes.
use Rattle.std.specs.Prelude.{ℕ, ◌≤◌, ◌<◌, ◌≡◌, List, Bool, true, false, length, get_or, take}
use Rattle.service.specs.declared.Service.{Service}
use Rattle.segments.specs.declared.Class.TheVariants.{Term}
use Rattle.segments.specs.Classes.{class_of, is_break}
use Rattle.segments.specs.Sync.{rel_after}

-- the first unreleased terminator of the bytes stands at k; their first byte is released or not
pub record EndsAt (v : Service) (r : Bool) (l : List ℕ) (k : ℕ) : Type 0 where
  pub within : k < length l
  pub loose : rel_after v r (take k l) ≡ false
  pub term : class_of v (get_or l k 0) ≡ Term
  pub none : (j : ℕ) → j < k → rel_after v r (take j l) ≡ false → class_of v (get_or l j 0) ≡ Term → ⊥

-- the bytes begin with k breaks and no more
pub record BreaksTo (l : List ℕ) (k : ℕ) : Type 0 where
  pub within : k ≤ length l
  pub breaks : (j : ℕ) → j < k → is_break (get_or l j 0) ≡ true
  pub other : k < length l → is_break (get_or l k 0) ≡ false
