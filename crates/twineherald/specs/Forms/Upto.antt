-- Answers as far as they are given.
use Rattle.std.specs.Prelude.{ℕ, suc, ◌≡◌, List, ◌∷◌}
use Rattle.twineherald.specs.Several.{Answered}

-- the first i positions are answered, and the entries past these are as they were
pub data AnsweredUpto (b : List ℕ) : (i : ℕ) (positions : List ℕ) (a a' : List (List ℕ)) → Type 0 where
  none_yet : (ps : List ℕ) (a a' : List (List ℕ)) → a' ≡ a → AnsweredUpto b 0 ps a a'
  one_yet : (i at : ℕ) (ps q r : List ℕ) (a a' : List (List ℕ)) → Answered b at r → AnsweredUpto b i ps a a' → AnsweredUpto b (suc i) (at ∷ ps) (q ∷ a) (r ∷ a')
