-- A chart's table: what each row says, and the row as the code has it.
use Rattle.std.specs.Prelude.{ℕ, suc, ◌+◌, ◌*◌, get_or, Bool, true, false, List, [], ◌∷◌, eqb, leb}
use Rattle.service.specs.Tests.{if}
use Prim.Native.Char.{Char, code}
use Prim.Native.String.{String}
unfoldable pub use Rattle.values.specs.Text.{text}
use Rattle.table.specs.declared.Row.{Row}
use Rattle.table.specs.declared.Status.{Status}
use Rattle.table.specs.declared.Status.TheVariants.{Mandatory, Required, Dependent, Optional, NotUsed}

-- 'one row per segment and group': tag (of a group, that of its first segment), parent, status, repeats
pub data Entry : Type 0 where
  entry : (tag : String) (parent : ℕ) (status : Char) (repeats : ℕ) → Entry

-- 'Status is the D6 column': a letter that is none of M, R, D and N is optional
abbrev pub status_of : ℕ → Status
status_of s = if (eqb s (code "M")) Mandatory (if (eqb s (code "R")) Required (if (eqb s (code "D")) Dependent (if (eqb s (code "N")) NotUsed Optional)))

-- the parent of the message's own row
abbrev pub outside : ℕ
outside = 255

-- how many of the rows after the row r are inside it: those up to the first whose parent stands before r
abbrev pub more : Bool → ℕ → ℕ
more true n = suc n
more false n = 0

unfoldable pub within : ℕ → List Entry → ℕ
within r [] = 0
within r (entry tag parent status repeats ∷ es) = more (leb r parent) (within r es)

-- the row with the first row past those inside it
abbrev pub row_to : Entry → ℕ → Row
row_to (entry tag parent status repeats) past = record { tag = text tag; parent = parent; end = past; status = status_of (code status); most = repeats }

-- the rows from r on
unfoldable pub lines_from : ℕ → List Entry → List Row
lines_from r [] = []
lines_from r (e ∷ es) = row_to e (suc r + within r es) ∷ lines_from (suc r) es

-- 'M and R required, N never, any other letter optional'
abbrev pub required : Status → Bool
required Mandatory = true
required Required = true
required Dependent = false
required Optional = false
required NotUsed = false

abbrev pub never : Status → Bool
never Mandatory = false
never Required = false
never Dependent = false
never Optional = false
never NotUsed = true

-- what a row says; the tag as a code: the digit 1, and then the letters, to the base 256

abbrev pub tag_in : Row → ℕ
tag_in l = ((256 + get_or l.tag 0 0) * 256 + get_or l.tag 1 0) * 256 + get_or l.tag 2 0

abbrev pub parent_in : Row → ℕ
parent_in l = l.parent

abbrev pub end_in : Row → ℕ
end_in l = l.end

abbrev pub status_in : Row → Status
status_in l = l.status

abbrev pub repeats_in : Row → ℕ
repeats_in l = l.most

-- how often it may come: never, or its repeats
abbrev pub most_in : Row → ℕ
most_in l = if (never l.status) 0 l.most

-- what stands past the table
abbrev pub blank : Row
blank = record { tag = []; parent = 0; end = 0; status = Optional; most = 0 }
