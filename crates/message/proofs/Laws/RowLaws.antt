-- The rows that rules name are the tables': each is the only segment of its tag in its group. Assumes nothing.
use Rattle.std.specs.Prelude.{ℕ, zero, suc, ◌≡◌, refl, List, [], ◌∷◌, Bool, not, ◌&&◌, get_or, eqb}
use Prim.Native.String.{String}
use Rattle.service.specs.Tests.{if}
use Rattle.values.specs.Forms.Codes.{letters}
use Rattle.chart.specs.Table.{Table}
use Rattle.chart.specs.Forms.Columns.{tag_of, parent_of}
use Rattle.table.specs.Entries.{lines_from, within}
use Rattle.paymul.specs.Table as paymul
use Rattle.paymul.specs.Table.{PAYMUL}
use Rattle.debmul.specs.Table as debmul
use Rattle.debmul.specs.Table.{DEBMUL}
use Rattle.values.specs.Text.{text}
use Rattle.message.specs.Segs as order
use Rattle.message.specs.Advices as advice

-- the rows from r on, so many at most, that pass a test
unfoldable pub rows_from : ℕ → ℕ → (ℕ → Bool) → List ℕ
rows_from zero r t = []
rows_from (suc n) r t = if (t r) (r ∷ rows_from n (suc r) t) (rows_from n (suc r) t)

-- a row is a group if the row after it stands in it
abbrev pub is_group : Table → ℕ → Bool
is_group t r = eqb (parent_of t (suc r)) r

-- whether a row is a segment of the tag, directly in the group, on a table whose message and groups are at these rows
abbrev pub stands : Table → List ℕ → (String × ℕ) → ℕ → Bool
stands t groups n r = eqb (tag_of t r) (letters n.0) && eqb (parent_of t r) (get_or groups n.1 0) && not (is_group t r)

-- ---- PAYMUL: the message, and then SG1 to SG24
abbrev pub order_groups : List ℕ
order_groups = 0 ∷ 5 ∷ 8 ∷ 12 ∷ 16 ∷ 22 ∷ 27 ∷ 31 ∷ 35 ∷ 39 ∷ 46 ∷ 49 ∷ 56 ∷ 60 ∷ 64 ∷ 68 ∷ 75 ∷ 78 ∷ 84 ∷ 87 ∷ 92 ∷ 97 ∷ 100 ∷ 105 ∷ 109 ∷ []

pub groups_are : rows_from paymul.size 0 (is_group PAYMUL) ≡ order_groups
unfolding rows_from parent_of PAYMUL paymul.table lines_from within text
groups_are = refl

pub rows_named : (n : order.Name) → rows_from paymul.size 0 (stands PAYMUL order_groups (order.tag_and_group n)) ≡ order.row_of n ∷ []
unfolding rows_from parent_of PAYMUL paymul.table lines_from within text
rows_named order.UNH = refl
rows_named order.LIN = refl
rows_named order.MOA5 = refl
rows_named order.CUX5 = refl
rows_named order.FII6 = refl
rows_named order.NAD7 = refl
rows_named order.PRC10 = refl
rows_named order.SEQ = refl
rows_named order.MOA11 = refl
rows_named order.FII12 = refl
rows_named order.NAD13 = refl
rows_named order.PRC16 = refl
rows_named order.FTX16 = refl
rows_named order.DOC17 = refl
rows_named order.CNT = refl
rows_named order.UNT = refl

-- ---- DEBMUL: the message, and then SG1 to SG28
abbrev pub advice_groups : List ℕ
advice_groups =
    0 ∷ 5 ∷ 8 ∷ 12 ∷ 16 ∷ 21 ∷ 24 ∷ 28 ∷ 31 ∷ 37 ∷ 42 ∷ 47 ∷ 50 ∷ 53 ∷ 58 ∷ 62 ∷ 66 ∷ 73 ∷ 76 ∷ 82 ∷ 87 ∷ 90 ∷ 96 ∷ 99 ∷ 104 ∷ 109 ∷ 112 ∷ 117 ∷ 121 ∷ []

pub advice_groups_are : rows_from debmul.size 0 (is_group DEBMUL) ≡ advice_groups
unfolding rows_from parent_of DEBMUL debmul.table lines_from within text
advice_groups_are = refl

pub advice_named : (n : advice.Name) → rows_from debmul.size 0 (stands DEBMUL advice_groups (advice.tag_and_group n)) ≡ advice.row_of n ∷ []
unfolding rows_from parent_of DEBMUL debmul.table lines_from within text
advice_named advice.BGM = refl
advice_named advice.LIN = refl
advice_named advice.DTM4 = refl
advice_named advice.SEQ = refl
advice_named advice.RFF11 = refl
advice_named advice.UNT = refl
