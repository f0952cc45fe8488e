-- One entry written. Assumes nothing.
use Rattle.std.specs.Prelude.{ℕ, ◌<◌, refl, List, set}
use Rattle.std.proofs.Common.{◌∙◌, length-set, drop-set-lt}
use Rattle.lent.specs.Forms.Kept.{Kept}

pub kept_start : (n : ℕ) (l : List ℕ) → Kept n l l
kept_start n l = record { long = refl; rest = refl }

module _ (n : ℕ) (old cur : List ℕ) (g : Kept n old cur) (k : ℕ) (h : k < n) where
  pub kept_set : (x : ℕ) → Kept n old (set cur k x)
  kept_set x = record { long = length-set cur k x ∙ g.long; rest = drop-set-lt n cur k x h ∙ g.rest }
