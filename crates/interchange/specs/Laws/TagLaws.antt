-- The tags and the syntax version by their codes, as the code compares them. Assumes nothing.
use Rattle.std.specs.Prelude.{ℕ, ◌≡◌, List, eqb}
use Rattle.std.proofs.Math.Path.{refl}
use Rattle.values.specs.Text.{text, says}
use Rattle.values.specs.Forms.Values.{code_from, code_of}
use Rattle.values.specs.Laws.TextLaws.{says_code}
use Rattle.values.specs.Forms.Codes.{THREE, UNB, UNH, UNT, UNZ}

module _ (l : List ℕ) where
  pub unb_code : says l "UNB" ≡ eqb (code_of l) UNB
  unfolding text code_from
  unb_code = says_code l "UNB" refl

  pub unh_code : says l "UNH" ≡ eqb (code_of l) UNH
  unfolding text code_from
  unh_code = says_code l "UNH" refl

  pub unt_code : says l "UNT" ≡ eqb (code_of l) UNT
  unfolding text code_from
  unt_code = says_code l "UNT" refl

  pub unz_code : says l "UNZ" ≡ eqb (code_of l) UNZ
  unfolding text code_from
  unz_code = says_code l "UNZ" refl

  -- the syntax version
  pub three_code : says l "3" ≡ eqb (code_of l) THREE
  unfolding text code_from
  three_code = says_code l "3" refl
