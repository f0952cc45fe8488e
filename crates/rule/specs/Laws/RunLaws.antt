-- A state that is the run of a step over the segments: before the first, and one further. Assumes nothing.
use Rattle.std.specs.Prelude.{◌≡◌, refl, List, [], ◌∷◌, ◌++◌}
use Rattle.message.specs.Segs.{Seg}
use Rattle.message.specs.Forms.Run.{run}
use Rattle.message.proofs.Laws.OneMoreLaws.{run_on}

module _ {S : Type 0} (f : S → Seg → S) (z : S) where
  pub none_passed : z ≡ run f z []
  unfolding run
  none_passed = refl

  pub one_passed : (ss : List Seg) (s : Seg) (a b : S) → a ≡ run f z ss → b ≡ f a s → b ≡ run f z (ss ++ (s ∷ []))
  one_passed ss s a b h e = run_on f z ss s a b h e
