-- "The bank's debit advice": for each rule of DEBMUL's own the segments, by their number, at which it is broken.
use Rattle.std.specs.Prelude.{ℕ, List, [], ◌∷◌, Bool, not, ◌&&◌, ◌||◌}
use Prim.Native.String.{String}
use Rattle.service.specs.Tests.{alike}
use Rattle.values.specs.Text.{says}
use Rattle.message.specs.Segs.{Seg, Stretch, stretches, those, each, on_row}
use Rattle.message.specs.Rules.{some, unless, failing, rule17, rule18, rule20}

-- the rows of DEBMUL that rules speak of, by tag and group: DTM4 is the DTM directly in SG4
pub data Name : Type 0 where
  BGM LIN DTM4 SEQ RFF11 UNT : Name

-- the tag, and the group in which it stands directly: 4 is SG4, 0 the message
abbrev pub tag_and_group : Name → String × ℕ
tag_and_group BGM = ("BGM", 0)
tag_and_group LIN = ("LIN", 4)
tag_and_group DTM4 = ("DTM", 4)
tag_and_group SEQ = ("SEQ", 10)
tag_and_group RFF11 = ("RFF", 11)
tag_and_group UNT = ("UNT", 0)

-- the row's number: `advice_named` of RowLaws, computed over the table, has that this row and no other is a segment of that tag in that group
abbrev pub row_of : Name → ℕ
row_of BGM = 2
row_of LIN = 17
row_of DTM4 = 18
row_of SEQ = 43
row_of RFF11 = 48
row_of UNT = 124

abbrev pub is : Name → Seg → Bool
is n = on_row (row_of n)

-- ---- 30, at the DTM
-- "BGM's 1001 is 342"
unfoldable pub pre_advice : List Seg → Bool
pre_advice m = some (λ s. is BGM s && says (s.value 1 0) "342") m

-- "LIN's DTM only 202, 209 or 455, and 455 only if BGM's 1001 is 342"
unfoldable pub date_holds : Bool → List ℕ → Bool
date_holds pre code = says code "202" || says code "209" || (pre && says code "455")

unfoldable pub rule30 : List Seg → List ℕ
rule30 m = failing (λ s. date_holds (pre_advice m) (s.value 1 0)) (those (is DTM4) m)

-- ---- 31, at the SEQ
-- "SG11 absent if LIN's 1229 is 106 and present .. otherwise": of one SG10, from its SEQ to the next, under a LIN with this 1229
abbrev pub fault31_c : List ℕ → Stretch → List ℕ
fault31_c code p = unless (alike (some (is RFF11) p.body) (not (says code "106"))) p.head

-- "in every SG10": of a LIN, up to the next
abbrev pub fault31 : Stretch → List ℕ
fault31 o = each (fault31_c (o.head.value 2 0)) (stretches (is SEQ) (is SEQ) o.body)

unfoldable pub rule31 : List Seg → List ℕ
rule31 m = each fault31 (stretches (is LIN) (is LIN) m)

-- the rules of a DEBMUL message of k segments, with their numbers, in the order in which refusals are given: "Numbers 10 to 20 apply, 21 to 29 do not"
abbrev pub debmul_of : ℕ → List Seg → List (ℕ × List ℕ)
debmul_of k m = (17, rule17 (row_of UNT) k m) ∷ (18, rule18 (row_of UNT) m) ∷ (20, rule20 (row_of LIN) m) ∷ (30, rule30 m) ∷ (31, rule31 m) ∷ []
