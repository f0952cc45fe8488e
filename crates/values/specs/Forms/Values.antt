-- What a value writes, as the loops find it.
use Rattle.std.specs.Prelude.{ℕ, ◌+◌, ◌*◌, ◌-◌, ◌/◌, ◌%◌, List, [], ◌∷◌, Bool, false, eqb, ltb, leb, Option, Some, None}
use Rattle.service.specs.Service.{is_mark}
use Rattle.service.specs.Tests.{if}
use Rattle.values.specs.declared.Value.{Value}
use Rattle.values.specs.declared.Limit.{Limit}
use Rattle.values.specs.declared.Limit.TheVariants.{Nineteen, Twelve}
use Rattle.values.specs.Left.{value_left}

-- the number that digits write after `acc`, `count` digits of which some were read: no leading zero, below 10^19
unfoldable pub digits : ℕ → ℕ → List ℕ → Option ℕ
digits count acc [] = if (ltb 0 count) (Some acc) None
digits count acc (b ∷ s) =
    if (ltb b 48) None
    (if (ltb 57 b) None
    (if (ltb 999999999999999999 acc) None
    (if (ltb 0 count) (if (eqb acc 0) None (digits 1 (acc * 10 + (b - 48)) s)) (digits 1 (acc * 10 + (b - 48)) s))))

unfoldable pub number_of : List ℕ → Option ℕ
number_of s = digits 0 0 s

-- ---- amounts, in thousandths
-- the number that `acc` and then the digit b write, as a turn of `digits`: no leading zero, at most twelve digits
unfoldable pub one_more : ℕ → ℕ → ℕ → Option ℕ
one_more count acc b =
    if (ltb b 48) None
    (if (ltb 57 b) None
    (if (ltb 99999999999 acc) None
    (if (ltb 0 count) (if (eqb acc 0) None (Some (acc * 10 + (b - 48)))) (Some (acc * 10 + (b - 48))))))

-- the number that one read before, if any, and then the digit b write: no leading zero, and none where the one before is above `most`
unfoldable pub digit_more : ℕ → Option ℕ → ℕ → Option ℕ
digit_more most None b = if (ltb b 48) None (if (ltb 57 b) None (Some (b - 48)))
digit_more most (Some n) b = if (ltb b 48) None (if (ltb 57 b) None (if (ltb most n) None (if (eqb n 0) None (Some (n * 10 + (b - 48))))))

-- the greatest number after which a limit allows one digit more: of eighteen digits, or of eleven
abbrev pub most_of : Limit → ℕ
most_of Nineteen = 999999999999999999
most_of Twelve = 99999999999

-- whether a number was read, as the count of `digits`, and that number
abbrev pub count_of : Option ℕ → ℕ
count_of None = 0
count_of (Some n) = 1

abbrev pub read_of : Option ℕ → ℕ
read_of None = 0
read_of (Some n) = n

-- a whole part: its units where it ends the value, its units and the bytes left where a mark comes after it, or nothing
pub data Part : Type 0 where
  ends : ℕ → Part
  left : ℕ → List ℕ → Part
  nothing : Part

-- the whole part by one more digit: nothing where there is none
abbrev pub onward : Option ℕ → (ℕ → Part) → Part
onward (Some n) f = f n
onward None f = nothing

-- the whole part that digits write after `acc`, and then the end or a mark; before a mark there may be none
unfoldable pub units : ℕ → ℕ → List ℕ → Part
units count acc [] = if (ltb 0 count) (ends acc) nothing
units count acc (b ∷ s) = if (is_mark b) (left acc s) (onward (one_more count acc b) (λ (n : ℕ). units 1 n s))

-- the whole part of a value
abbrev pub whole_of : List ℕ → Part
whole_of s = units 0 0 s

-- the part that an answer of the code's `whole` stands for: its units, and, behind a mark, what is left of the value
abbrev pub part_of : Option (ℕ × Option Value) → Part
part_of (Some (u, None)) = ends u
part_of (Some (u, Some rest)) = left u (value_left rest)
part_of None = nothing

-- digits that weigh w, w / 10, .. and add to `sum`: at least one, none where w is 0
unfoldable pub fraction : ℕ → ℕ → List ℕ → Option ℕ
fraction w sum [] = if (ltb w 100) (Some sum) None
fraction w sum (b ∷ s) =
    if (ltb b 48) None
    (if (ltb 57 b) None
    (if (eqb w 0) None (fraction (w / 10) (sum + (b - 48) * w) s)))

-- units and the thousandths after their mark
abbrev pub together : ℕ → Option ℕ → Option ℕ
together u (Some n) = Some (u * 1000 + n)
together u None = None

-- the amount of a whole part and what is left
abbrev pub amount_by : Part → Option ℕ
amount_by (ends u) = Some (u * 1000)
amount_by (left u l) = together u (fraction 100 0 l)
amount_by nothing = None

-- the thousandths that a value writes
abbrev pub amount_of : List ℕ → Option ℕ
amount_of s = amount_by (whole_of s)

-- whether a number read is n
abbrev pub is_number : Option ℕ → ℕ → Bool
is_number (Some m) n = eqb m n
is_number None n = false

-- ---- codes: the digit 1 and then the bytes, to the base 256; 0 for more than seven, and where a number is no byte. Two values with one code, not 0,
-- are the same (`code_one` of CodeLaws).
unfoldable pub code_from : ℕ → List ℕ → ℕ
code_from code [] = code
code_from code (b ∷ l) = if (ltb 72057594037927935 code) 0 (if (ltb b 256) (code_from (code * 256 + b) l) 0)

abbrev pub code_of : List ℕ → ℕ
code_of l = code_from 1 l

-- ---- whether a code is that of three capitals
unfoldable pub is_capital : ℕ → Bool
is_capital b = if (ltb b 65) false (leb b 90)

unfoldable pub is_capitals : ℕ → Bool
is_capitals code =
    if (eqb (code / 16777216) 1)
    (if (is_capital (code / 65536 % 256)) (if (is_capital (code / 256 % 256)) (is_capital (code % 256)) false) false)
    false
