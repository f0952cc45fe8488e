-- Tags and qualifiers as codes, as the code compares them. `letters_code` of TextLaws: each is `code_of` of its letters.
use Rattle.std.specs.Prelude.{ℕ, ◌+◌, ◌*◌}
use Prim.Native.Char.{code}
use Prim.Native.String.{String, [] as end, ◌∷◌ as ◌before◌}

-- letters after a code, to the base 256
abbrev pub onto : ℕ → String → ℕ
onto n end = n
onto n (c before w) = onto (n * 256 + code c) w

-- the code of letters, at most seven: the digit 1 and then the letters; `says_code` of TextLaws: a value has it exactly if it is these letters
abbrev pub letters : String → ℕ
letters w = onto 1 w

-- the value of no byte
abbrev pub EMPTY : ℕ
EMPTY = letters ""

-- ---- tags
abbrev pub BGM : ℕ
BGM = letters "BGM"

abbrev pub CNT : ℕ
CNT = letters "CNT"

abbrev pub CUX : ℕ
CUX = letters "CUX"

abbrev pub DTM : ℕ
DTM = letters "DTM"

abbrev pub FII : ℕ
FII = letters "FII"

abbrev pub LIN : ℕ
LIN = letters "LIN"

abbrev pub MOA : ℕ
MOA = letters "MOA"

abbrev pub NAD : ℕ
NAD = letters "NAD"

abbrev pub RFF : ℕ
RFF = letters "RFF"

abbrev pub SEQ : ℕ
SEQ = letters "SEQ"

abbrev pub UNB : ℕ
UNB = letters "UNB"

abbrev pub UNH : ℕ
UNH = letters "UNH"

abbrev pub UNT : ℕ
UNT = letters "UNT"

abbrev pub UNZ : ℕ
UNZ = letters "UNZ"

-- ---- the message's type
abbrev pub PAYMUL : ℕ
PAYMUL = letters "PAYMUL"

abbrev pub DEBMUL : ℕ
DEBMUL = letters "DEBMUL"

abbrev pub D : ℕ
D = letters "D"

abbrev pub NINETY_SIX_A : ℕ
NINETY_SIX_A = letters "96A"

abbrev pub UN : ℕ
UN = letters "UN"

-- ---- parties
abbrev pub OR : ℕ
OR = letters "OR"

abbrev pub PL : ℕ
PL = letters "PL"

abbrev pub OY : ℕ
OY = letters "OY"

abbrev pub BF : ℕ
BF = letters "BF"

abbrev pub PE : ℕ
PE = letters "PE"

abbrev pub BE : ℕ
BE = letters "BE"

-- ---- qualifiers and rate bases in digits
abbrev pub ONE : ℕ
ONE = letters "1"

abbrev pub TWO : ℕ
TWO = letters "2"

abbrev pub THREE : ℕ
THREE = letters "3"

abbrev pub EIGHT : ℕ
EIGHT = letters "8"

abbrev pub NINE : ℕ
NINE = letters "9"

abbrev pub TEN : ℕ
TEN = letters "10"

abbrev pub ELEVEN : ℕ
ELEVEN = letters "11"

abbrev pub FIFTY_SEVEN : ℕ
FIFTY_SEVEN = letters "57"

abbrev pub HUNDRED : ℕ
HUNDRED = letters "100"

abbrev pub THOUSAND : ℕ
THOUSAND = letters "1000"

-- ---- codes of an advice, in digits
abbrev pub HUNDRED_SIX : ℕ
HUNDRED_SIX = letters "106"

abbrev pub TWO_HUNDRED_TWO : ℕ
TWO_HUNDRED_TWO = letters "202"

abbrev pub TWO_HUNDRED_NINE : ℕ
TWO_HUNDRED_NINE = letters "209"

abbrev pub THREE_HUNDRED_FORTY_TWO : ℕ
THREE_HUNDRED_FORTY_TWO = letters "342"

abbrev pub FOUR_HUNDRED_FIFTY_FIVE : ℕ
FOUR_HUNDRED_FIFTY_FIVE = letters "455"
