-- The refusal of the rules of two, one after the other. Assumes nothing.
use Rattle.std.specs.Prelude.{ℕ, ◌≡◌, refl, List, [], ◌∷◌, ◌++◌, Option}
use Rattle.std.proofs.Common.{ap}
use Rattle.faults.specs.Firsts.{Told, number_first}
use Rattle.message.specs.Forms.Run.{first_of}
use Rattle.rule.specs.Refusals.{by_rules}

pub both : (a b : List (ℕ × List ℕ)) (o : Option Told) → by_rules (a ++ b) o ≡ by_rules a (by_rules b o)
unfolding by_rules
both [] b o = refl
both (r ∷ a) b o = ap (number_first r.0 (first_of r.1)) (both a b o)

pub both_by : (a b : List (ℕ × List ℕ)) (o p q : Option Told) → p ≡ by_rules b o → q ≡ by_rules a p → q ≡ by_rules (a ++ b) o
both_by a b o p q h k = rw (k, h, both a b o)
