-- Demand 3 in small files: what it asks for can be met, and what may be lost is sometimes lost and sometimes not.
use Rattle.std.specs.Prelude.{ℕ, ◌≡◌, List, [], ◌∷◌}
use Rattle.numbers.specs.declared.Number.TheVariants as numbers
use Rattle.service.specs.Service.{plain_service}
use Rattle.values.specs.Text.{text}
use Rattle.interchange.specs.Answers.{Refused}
use Rattle.interchange.specs.Messages.{Extent, closed, messages_of}
use Rattle.interchange.specs.Envelope.{refusal, body_of}
use Rattle.interchange.specs.Opened.{Opened, OpenedAs}
use Rattle.damage.specs.Damage.{Stretch, Mark, whole, next, hit, replaced, damaged, Within}
use Rattle.demands.specs.OtherMessages.{Chosen, One}

-- three messages
abbrev pub three : List ℕ
three = text "UNB+UNOA:3+A+B+1:1+R'UNH+1'BGM'UNT+3+1'UNH+2'BGM'UNT+3+2'UNH+3'UNT+2+3'UNZ+3+R'"

abbrev pub messages_in : List ℕ → List Extent
messages_in s = messages_of plain_service s (body_of plain_service s 0)

-- ---- two neighbours at once: a release before the terminator that the first's UNT stands behind, and another segment in the place of the second's UNH
abbrev pub both : List Mark
both = hit (record { from = 30; upto = 30; new = text "?" }) ∷ hit (record { from = 39; upto = 44; new = text "FTX" }) ∷ whole ∷ []

-- ---- the first up to its UNT's terminator, the next after it, and the third
abbrev pub first : List ℕ → List Mark
first d = hit (record { from = 21; upto = 38; new = d }) ∷ next ∷ whole ∷ []

-- ---- the first so, and the second, directly after it, up to the terminator before its UNT
abbrev pub in_row : List Mark
in_row = hit (record { from = 21; upto = 38; new = text "FTX?" }) ∷ hit (record { from = 39; upto = 48; new = text "RFF?" }) ∷ whole ∷ []

-- ---- the last up to its UNT's terminator
abbrev pub third : List ℕ → Stretch
third d = record { from = 57; upto = 70; new = d }

pub record DamageCases : Type 0 where
  pub were : messages_in three ≡ closed 21 39 ∷ closed 39 57 ∷ closed 57 71 ∷ []
  -- two that are damaged may melt into one; the third is found
  pub both_chosen : Chosen three plain_service 0 both
  pub both_are : damaged three both ≡ text "UNB+UNOA:3+A+B+1:1+R'UNH+1'BGM?'UNT+3+1'FTX'BGM'UNT+3+2'UNH+3'UNT+2+3'UNZ+3+R'"
  pub both_found : messages_in (damaged three both) ≡ closed 21 56 ∷ closed 56 70 ∷ []
  -- "the message directly after may be lost": its UNH is taken in by a released terminator
  pub lost_chosen : Chosen three plain_service 0 (first (text "FTX?"))
  pub lost_is : damaged three (first (text "FTX?")) ≡ text "UNB+UNOA:3+A+B+1:1+R'FTX?'UNH+2'BGM'UNT+3+2'UNH+3'UNT+2+3'UNZ+3+R'"
  pub lost_found : messages_in (damaged three (first (text "FTX?"))) ≡ closed 44 58 ∷ []
  -- or not
  pub kept_chosen : Chosen three plain_service 0 (first (text "FTX"))
  pub kept_found : messages_in (damaged three (first (text "FTX"))) ≡ closed 25 43 ∷ closed 43 57 ∷ []
  -- both forms side by side
  pub row_chosen : Chosen three plain_service 0 in_row
  pub row_is : damaged three in_row ≡ text "UNB+UNOA:3+A+B+1:1+R'FTX?'RFF?'UNT+3+2'UNH+3'UNT+2+3'UNZ+3+R'"
  pub row_found : messages_in (damaged three in_row) ≡ closed 39 53 ∷ []
  -- "If the last message is hit this way the interchange may be refused by 4": the UNZ is taken in; or it opens
  pub last_one : One three plain_service 0 (closed 21 39 ∷ closed 39 57 ∷ []) 57 62 70 71 []
  pub last_within : (d : List ℕ) → Within 57 70 (third d)
  pub last_refused : OpenedAs (replaced three (third (text "FTX?"))) (Refused (refusal numbers.End))
  pub last_opens : Opened (replaced three (third (text "FTX"))) plain_service 0
