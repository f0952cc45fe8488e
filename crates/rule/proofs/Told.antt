-- The first rule with a place is the least of all that is told, where the rules stand in the order of their ranks.
use Rattle.std.specs.Prelude.{ℕ, ◌≡◌, refl, List, [], ◌∷◌, Option, None}
use Rattle.std.proofs.Common.{sym, ap, ◌∙◌}
use Rattle.faults.specs.Firsts.{Told, number_first}
use Rattle.message.specs.Faults.{tell_all, least_of}
use Rattle.message.specs.Forms.Run.{first_of}
use Rattle.message.proofs.Laws.FaultLaws.{Rising, by_rules_lem}
use Rattle.message.proofs.Laws.FaultLaws as laws
use Rattle.rule.specs.Refusals.{by_rules}

same : (rs : List (ℕ × List ℕ)) (o : Option Told) → by_rules rs o ≡ laws.by_rules rs o
unfolding by_rules
same [] o = refl
same (r ∷ rs) o = ap (number_first r.0 (first_of r.1)) (same rs o)

pub told_first : (rs : List (ℕ × List ℕ)) → Rising 0 rs → by_rules rs None ≡ least_of (tell_all rs)
told_first rs h = same rs None ∙ sym (by_rules_lem 0 rs h)
