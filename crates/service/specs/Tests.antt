-- What the definitions test with.
use Rattle.std.specs.Prelude.{List, [], ◌∷◌, Bool, true, false, not}

-- `a` where the test holds, else `b`
abbrev pub if : {A : Type 0} → Bool → A → A → A
if true a b = a
if false a b = b

-- whether a list has no entry, and a value no byte: "Empty and absent are the same."
abbrev pub is_empty : {A : Type 0} → List A → Bool
is_empty [] = true
is_empty (x ∷ l) = false

-- the last entry, or, of none, what is given
unfoldable pub last_of : {A : Type 0} → A → List A → A
last_of d [] = d
last_of d (x ∷ l) = last_of x l

-- "exactly if"
abbrev pub alike : Bool → Bool → Bool
alike true b = b
alike false b = not b
