-- A value of one letter, by its code. Assumes nothing.
use Rattle.std.specs.Prelude.{ℕ, ◌≡◌, refl, List, eqb}
use Rattle.values.specs.Forms.Values.{code_from, code_of}
use Rattle.values.specs.Forms.Codes as codes
use Rattle.values.specs.Text.{text, says}
use Rattle.values.specs.Laws.TextLaws.{says_code}

-- "2"
pub two_code : (l : List ℕ) → says l "2" ≡ eqb (code_of l) codes.TWO
unfolding text code_from
two_code l = says_code l "2" refl
