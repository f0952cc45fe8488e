-- A debit advice, in whole messages: what holds, and what is refused.
use Rattle.std.specs.Prelude.{ℕ, List, [], ◌∷◌, ◌++◌}
use Prim.Native.String.{String}
use Rattle.kinds.specs.declared.Kind.TheVariants.{Debmul}
use Rattle.report.specs.Reported.{Room}
use Rattle.cases.specs.MessageCases.{Holds, Gives, joined}

-- lists that are just long enough: "14 asks no list" of totals
abbrev pub narrow : Room
narrow = record { rows = 14; starts = 14; totals = 0 }

-- a line of one transaction: its BGM, its LIN and DTM, what follows the transaction's FII, and the UNT
abbrev pub advised : String → String → String → List String → String → List ℕ
advised bgm lin dtm rest unt =
    joined ("UNH+1+DEBMUL:D:96A:UN'" ∷ bgm ∷ "DTM+137:20020107:102'" ∷ lin ∷ dtm ∷ "MOA+60:100:EUR'" ∷ "RFF+AEK:1'" ∷ "FII+OR+1:A'" ∷ "SEQ++1'" ∷ "FII+BF+2:B'" ∷ [])
    ++ (joined rest ++ joined ("CNT+2:1'" ∷ unt ∷ []))

-- dated 455, under this BGM
abbrev pub coming : String → List ℕ
coming bgm = advised bgm "LIN+1+107'" "DTM+455:20020110:102'" ("RFF+CR:1'" ∷ "MOA+60:100:EUR'" ∷ []) "UNT+14+1'"

-- with an RFF in SG11, under this LIN
abbrev pub referenced : String → List ℕ
referenced lin = advised "BGM+456+1+9'" lin "DTM+202:20020107:102'" ("RFF+CR:1'" ∷ "MOA+60:100:EUR'" ∷ []) "UNT+14+1'"

-- with no RFF, and with one in SG13 alone
abbrev pub plain : String → List ℕ
plain lin = advised "BGM+456+1+9'" lin "DTM+209:20020107:102'" ("MOA+60:100:EUR'" ∷ []) "UNT+13+1'"

abbrev pub elsewhere : String → List ℕ
elsewhere lin = advised "BGM+456+1+9'" lin "DTM+202:20020107:102'" ("MOA+60:100:EUR'" ∷ "RFF+CR:1'" ∷ []) "UNT+14+1'"

pub record AdviceCases : Type 0 where
  -- "455 only if BGM's 1001 is 342": else 30, at the DTM
  pub expected : Holds Debmul narrow (coming "BGM+342+1+9'")
  pub unexpected : Gives narrow (coming "BGM+456+1+9'") 30 5
  -- "SG11 absent if LIN's 1229 is 106": else 31, at the SEQ
  pub bare : Holds Debmul narrow (plain "LIN+1+106'")
  pub too_much : Gives narrow (referenced "LIN+1+106'") 31 9
  -- "and present in every SG10 otherwise": an RFF of SG13 is none of SG11
  pub detailed : Holds Debmul narrow (referenced "LIN+1+107'")
  pub too_little : Gives narrow (elsewhere "LIN+1+107'") 31 9
