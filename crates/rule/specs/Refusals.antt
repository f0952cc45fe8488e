-- The refusal of rules in order: the first that has a place, before another.
use Rattle.std.specs.Prelude.{ℕ, List, [], ◌∷◌, Option}
use Rattle.faults.specs.Firsts.{Told, number_first}
use Rattle.message.specs.Forms.Run.{first_of}

unfoldable pub by_rules : List (ℕ × List ℕ) → Option Told → Option Told
by_rules [] o = o
by_rules (r ∷ rs) o = number_first r.0 (first_of r.1) (by_rules rs o)
