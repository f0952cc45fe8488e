-- "Rules on a placed message": for each rule the segments, by their number, at which it is broken. No order of testing is meant by any of them.
use Rattle.std.specs.Prelude.{ℕ, suc, ◌+◌, List, [], ◌∷◌, ◌++◌, map, Bool, true, false, not, ◌&&◌, ◌||◌, length, eqb, leb, Option, None, Some}
use Prim.Native.String.{String}
use Rattle.service.specs.Tests.{if, is_empty, alike}
use Rattle.values.specs.Forms.Values.{code_of, number_of, is_number, amount_of, is_capitals}
use Rattle.values.specs.Text.{same_list, says}
use Rattle.message.specs.Segs.{Seg, Stretch, those, each, on_row, row_of, Name, LIN, MOA5, CUX5, FII6, NAD7, PRC10, SEQ, MOA11, FII12, NAD13, PRC16, FTX16, DOC17, CNT, UNT, is, orders, payments, amounts, details}

-- ---- words
-- "Numbers are digits without leading zeros": a value writes the number (`writes_exactly` of TextLaws: exactly if NumberIs)
abbrev pub writes : List ℕ → ℕ → Bool
writes l n = is_number (number_of l) n

-- "three capitals" (`capitals_exactly` of TextLaws: exactly if ThreeCapitals)
abbrev pub capitals : List ℕ → Bool
capitals l = is_capitals (code_of l)

-- the thousandths of an amount; one without the form counts 0, and 22 comes before what that could change
abbrev pub worth : Option ℕ → ℕ
worth (Some n) = n
worth None = 0

abbrev pub is_of : Option ℕ → Bool
is_of (Some n) = true
is_of None = false

-- how many pass a test, and whether one does
abbrev pub count : (Seg → Bool) → List Seg → ℕ
count t ss = length (those t ss)

unfoldable pub some : (Seg → Bool) → List Seg → Bool
some t [] = false
some t (s ∷ ss) = t s || some t ss

-- the segment where something does not hold, and all of some segments where a test does not
abbrev pub unless : Bool → Seg → List ℕ
unless true s = []
unless false s = s.nth ∷ []

unfoldable pub failing : (Seg → Bool) → List Seg → List ℕ
failing t [] = []
failing t (s ∷ ss) = unless (t s) s ++ failing t ss

-- ---- 17, 18, at the UNT, whose row on the chart is told
-- 17: "UNT count not the segments, UNH and UNT included", of which there are n
unfoldable pub rule17 : ℕ → ℕ → List Seg → List ℕ
rule17 unt n m = failing (λ s. writes (s.value 1 0) n) (those (on_row unt) m)

-- the reference of the UNH, which is the first segment
abbrev pub reference : List Seg → List ℕ
reference [] = []
reference (s ∷ ss) = s.value 1 0

-- 18: "UNT reference not UNH's"
unfoldable pub rule18 : ℕ → List Seg → List ℕ
rule18 unt m = failing (λ s. same_list (s.value 2 0) (reference m)) (those (on_row unt) m)

-- ---- 20, 21
-- the segments whose element e does not write k, k + 1, .. in turn
unfoldable pub misnumbered : ℕ → ℕ → List Seg → List ℕ
misnumbered e k [] = []
misnumbered e k (s ∷ ss) = unless (writes (s.value e 0) k) s ++ misnumbered e (suc k) ss

-- 20: "LIN numbers run 1, 2, 3 over the message.", by the LIN's row on the chart
unfoldable pub rule20 : ℕ → List Seg → List ℕ
rule20 lin m = misnumbered 1 1 (those (on_row lin) m)

-- 21: "SEQ numbers (second element, first component) run 1, 2, 3 and start at 1 again under each LIN."
abbrev pub fault21 : Stretch → List ℕ
fault21 o = misnumbered 2 1 (those (is SEQ) o.body)

unfoldable pub rule21 : List Seg → List ℕ
rule21 m = each fault21 (orders m)

-- ---- 22 to 26: an MOA's first element has the qualifier, the amount and the currency
abbrev pub qualifier : Seg → List ℕ
qualifier s = s.value 1 0

abbrev pub amount : Seg → List ℕ
amount s = s.value 1 1

abbrev pub currency : Seg → List ℕ
currency s = s.value 1 2

-- 22: "Amounts (MOA directly in SG5 and SG11)" (`amount_exactly` of TextLaws: exactly if AmountIs)
unfoldable pub rule22 : List Seg → List ℕ
rule22 m = failing (λ s. is_of (amount_of (amount s))) (those (λ s. is MOA5 s || is MOA11 s) m)

-- 23: "The qualifier is 9 or 57 at SG5, and every SG11 MOA under that LIN has the same."
abbrev pub fault23 : Stretch → List ℕ
fault23 o =
    unless (says (qualifier o.head) "9" || says (qualifier o.head) "57") o.head
    ++ failing (λ s. same_list (qualifier s) (qualifier o.head)) (those (is MOA11) o.body)

unfoldable pub rule23 : List Seg → List ℕ
rule23 m = each fault23 (amounts m)

-- 24: "The SG5 currency is three capitals; each SG11 currency equals it."
abbrev pub fault24 : Stretch → List ℕ
fault24 o =
    unless (capitals (currency o.head)) o.head
    ++ failing (λ s. same_list (currency s) (currency o.head)) (those (is MOA11) o.body)

unfoldable pub rule24 : List Seg → List ℕ
rule24 m = each fault24 (amounts m)

-- 25: "First composite: 2 and the SG5 currency. Second: 3 and three capitals that differ."
unfoldable pub first_holds : List ℕ → (ℕ → ℕ → List ℕ) → Bool
first_holds money value = says (value 1 0) "2" && same_list (value 1 1) money

unfoldable pub second_holds : List ℕ → (ℕ → ℕ → List ℕ) → Bool
second_holds money value = says (value 2 0) "3" && capitals (value 2 1) && not (same_list (value 2 1) money)

-- "A rate base (1, 100 or 1000) stands in at most one of them and only with a rate in the third element; a rate may come without a base"
unfoldable pub is_base : List ℕ → Bool
is_base l = says l "1" || says l "100" || says l "1000"

unfoldable pub bases_hold : List ℕ → List ℕ → List ℕ → Bool
bases_hold a b rate = (is_empty a && is_empty b) || (not (is_empty rate) && ((is_empty a && is_base b) || (is_base a && is_empty b)))

abbrev pub cux_holds : List ℕ → (ℕ → ℕ → List ℕ) → Bool
cux_holds money value = first_holds money value && second_holds money value && bases_hold (value 1 3) (value 2 3) (value 3 0)

-- "CUX in SG5 stands exactly if the qualifier is 57": at the SG5 MOA if it is absent, at a CUX that may not stand or does not hold
abbrev pub fault25 : Stretch → List ℕ
fault25 o =
    unless (not (says (qualifier o.head) "57") || some (is CUX5) o.body) o.head
    ++ failing (λ s. says (qualifier o.head) "57" && cux_holds (currency o.head) s.value) (those (is CUX5) o.body)

unfoldable pub rule25 : List Seg → List ℕ
rule25 m = each fault25 (amounts m)

-- 26: "The SG5 amount equals the sum of the SG11 amounts."
unfoldable pub sum : List Seg → ℕ
sum [] = 0
sum (s ∷ ss) = worth (amount_of (amount s)) + sum ss

abbrev pub fault26 : Stretch → List ℕ
fault26 o = unless (eqb (worth (amount_of (amount o.head))) (sum (those (is MOA11) o.body))) o.head

unfoldable pub rule26 : List Seg → List ℕ
rule26 m = each fault26 (amounts m)

-- ---- 27: a party's first element has its qualifier, an FII's second element the holder name, "either 3192"
abbrev pub named : Seg → Bool
named s = not (is_empty (s.value 2 1)) || not (is_empty (s.value 2 2))

abbrev pub party : Name → String → Seg → Bool
party n w s = is n s && says (s.value 1 0) w

-- "exactly one FII+OR, at most one NAD+PL and one NAD+OY; the holder name is given exactly if there is no PL", by how many there are
unfoldable pub order_holds : ℕ → Bool → ℕ → ℕ → Bool
order_holds or name pl oy = eqb or 1 && leb pl 1 && leb oy 1 && alike name (eqb pl 0)

-- "at most one each of FII+BF, NAD+PE, NAD+BE. Without BF: BE stands and PE does not. With BF: the name is given exactly if there is no PE."
unfoldable pub payment_holds : ℕ → Bool → ℕ → ℕ → Bool
payment_holds bf name pe be = leb bf 1 && leb pe 1 && leb be 1 && if (eqb bf 0) (eqb be 1 && eqb pe 0) (alike name (eqb pe 0))

-- "Level B parties (SG6, SG7)", at the LIN
abbrev pub fault27_b : Stretch → List ℕ
fault27_b o =
    unless
    (order_holds (count (party FII6 "OR") o.body) (some (λ s. party FII6 "OR" s && named s) o.body) (count (party NAD7 "PL") o.body) (count (party NAD7 "OY") o.body))
    o.head

-- "Level C (SG12, SG13)", at the SEQ
abbrev pub fault27_c : Stretch → List ℕ
fault27_c p =
    unless
    (payment_holds (count (party FII12 "BF") p.body) (some (λ s. party FII12 "BF" s && named s) p.body) (count (party NAD13 "PE") p.body) (count (party NAD13 "BE") p.body))
    p.head

unfoldable pub rule27 : List Seg → List ℕ
rule27 m = each fault27_b (orders m) ++ each fault27_c (payments m)

-- ---- 28, at the PRC of SG16
-- "SG10 under a LIN excludes SG16 under the same LIN."
abbrev pub fault28_b : Stretch → List ℕ
fault28_b o = failing (λ s. not (some (is PRC10) o.body)) (those (is PRC16) o.body)

-- "SG16's PRC: 8, at least one SG17 and no FTX of SG16 itself; 9 or 10, both; 11, FTX and no SG17. No other code."
unfoldable pub details_hold : List ℕ → Bool → Bool → Bool
details_hold code text documents =
    (says code "8" && documents && not text)
    || ((says code "9" || says code "10") && documents && text)
    || (says code "11" && text && not documents)

abbrev pub fault28_c : Stretch → List ℕ
fault28_c d = unless (details_hold (d.head.value 1 0) (some (is FTX16) d.body) (some (is DOC17) d.body)) d.head

unfoldable pub rule28 : List Seg → List ℕ
rule28 m = each fault28_b (orders m) ++ each fault28_c (details m)

-- ---- 29: "CNT with qualifier 2 equals the number of LIN segments. Other CNT qualifiers pass."
unfoldable pub rule29 : ℕ → List Seg → List ℕ
rule29 n m = failing (λ s. writes (s.value 1 1) n) (those (λ s. is CNT s && says (s.value 1 0) "2") m)

-- the rules of a PAYMUL message of k segments, n of them LIN, with their numbers, in the order in which refusals are given
abbrev pub paymul_of : ℕ → ℕ → List Seg → List (ℕ × List ℕ)
paymul_of k n m =
    (17, rule17 (row_of UNT) k m) ∷ (18, rule18 (row_of UNT) m) ∷ (20, rule20 (row_of LIN) m) ∷ (21, rule21 m) ∷ (22, rule22 m) ∷ (23, rule23 m) ∷ (24, rule24 m) ∷ (25, rule25 m)
    ∷ (26, rule26 m) ∷ (27, rule27 m) ∷ (28, rule28 m) ∷ (29, rule29 n m) ∷ []

-- ---- "the total of every order": the amount of its SG5 MOA
abbrev pub totals_of : List Seg → List ℕ
totals_of m = map (λ s. worth (amount_of (amount s))) (those (is MOA5) m)
