-- A segment's elements, components and values, as document 01, "Bytes to segments", says.
use Rattle.std.specs.Prelude.{ℕ, suc, List, [], ◌∷◌, Bool, true, false, not, ◌||◌, get_or, drop}
use Rattle.service.specs.declared.Service.{Service}
use Rattle.service.specs.Service.{within}
use Rattle.segments.specs.declared.Class.{Class}
use Rattle.segments.specs.declared.Class.TheVariants.{Plain, Comp, Elem, Rel, Term}
use Rattle.segments.specs.Classes.{class_of}

-- a byte of a value, or a separator
pub data Tok : Type 0 where
  byte : ℕ → Tok
  comp elem : Tok

-- "A release makes the next byte plain data." The tokens up to the first unreleased terminator or the end, by what the next byte is. A last
-- release with no byte after it adds none.
abbrev pub lex_by : Class → ℕ → List Tok → List Tok → List Tok
lex_by Plain b rel on = byte b ∷ on
lex_by Comp b rel on = comp ∷ on
lex_by Elem b rel on = elem ∷ on
lex_by Rel b rel on = rel
lex_by Term b rel on = []

unfoldable pub lex : Service → Bool → List ℕ → List Tok
lex v r [] = []
lex v true (b ∷ s) = byte b ∷ lex v false s
lex v false (b ∷ s) = lex_by (class_of v b) b (lex v true s) (lex v false s)

-- "A segment is elements of components": the values between the separators
-- a byte put before the first value; what changes the first element
abbrev pub on_value : ℕ → List (List ℕ) → List (List ℕ)
on_value b [] = (b ∷ []) ∷ []
on_value b (x ∷ xs) = (b ∷ x) ∷ xs

abbrev pub on_first : (List (List ℕ) → List (List ℕ)) → List (List (List ℕ)) → List (List (List ℕ))
on_first f [] = f [] ∷ []
on_first f (x ∷ xs) = f x ∷ xs

unfoldable pub elements : List Tok → List (List (List ℕ))
elements [] = ([] ∷ []) ∷ []
elements (byte b ∷ t) = on_first (on_value b) (elements t)
elements (comp ∷ t) = on_first (λ xs. [] ∷ xs) (elements t)
elements (elem ∷ t) = ([] ∷ []) ∷ elements t

-- the value of component c of element e: "elements are counted after the tag's own", which is 0; "Empty and absent are the same."
unfoldable pub value_at : List (List (List ℕ)) → ℕ → ℕ → List ℕ
value_at es e c = get_or (get_or es e []) c []

-- "its tag is the first component's value"
abbrev pub tag_in : List (List (List ℕ)) → List ℕ
tag_in es = value_at es 0 0

-- the value that the tokens begin with
unfoldable pub value_of : List Tok → List ℕ
value_of [] = []
value_of (byte b ∷ t) = b ∷ value_of t
value_of (comp ∷ t) = []
value_of (elem ∷ t) = []

-- ---- number 10: "a value byte outside 0x20..0x7E and 0xA0..0xFF"
unfoldable pub is_strange : ℕ → Bool
is_strange b = not (within 32 126 b || within 160 255 b)

abbrev pub keep : Bool → ℕ → List ℕ → List ℕ
keep true b l = b ∷ l
keep false b l = l

-- the places of such bytes, the next byte standing at i. Value bytes are those that `lex` reads: a plain byte, and any byte behind a release;
-- separators, releases and the terminator are none.
abbrev pub strange_by : Class → List ℕ → List ℕ → List ℕ → List ℕ
strange_by Plain here rel on = here
strange_by Comp here rel on = on
strange_by Elem here rel on = on
strange_by Rel here rel on = rel
strange_by Term here rel on = []

unfoldable pub strange_from : Service → Bool → ℕ → List ℕ → List ℕ
strange_from v r i [] = []
strange_from v true i (b ∷ s) = keep (is_strange b) i (strange_from v false (suc i) s)
strange_from v false i (b ∷ s) =
    strange_by (class_of v b) (keep (is_strange b) i (strange_from v false (suc i) s)) (strange_from v true (suc i) s) (strange_from v false (suc i) s)

-- those of the segment that begins at a
abbrev pub strange_in : Service → List ℕ → ℕ → List ℕ
strange_in v m a = strange_from v false a (drop a m)
