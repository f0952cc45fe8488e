-- "The lowest number that applies is given, and under it the first segment".
use Rattle.std.specs.Prelude.{ℕ, List, [], ◌∷◌, ◌++◌, ltb, Option, None, Some}
use Rattle.service.specs.Tests.{if}
pub use Rattle.faults.specs.Firsts.{Told, told}

-- the place of a number in the order in which refusals are given: today the number itself
unfoldable pub rank : ℕ → ℕ
rank n = n

-- all that the rules tell, each with its number
unfoldable pub tell : ℕ → List ℕ → List Told
tell n [] = []
tell n (s ∷ ss) = told n s ∷ tell n ss

unfoldable pub tell_all : List (ℕ × List ℕ) → List Told
tell_all [] = []
tell_all (r ∷ rs) = tell r.0 r.1 ++ tell_all rs

-- the lower number, or under one number the first segment
abbrev pub lower : Told → Told → Told
lower a b =
    if (ltb (rank a.number) (rank b.number)) a
    (if (ltb (rank b.number) (rank a.number)) b (if (ltb b.segment a.segment) b a))

unfoldable pub least : Told → List Told → Told
least a [] = a
least a (b ∷ bs) = lower a (least b bs)

-- the refusal: the least of all that is told, or none
unfoldable pub least_of : List Told → Option Told
least_of [] = None
least_of (a ∷ l) = Some (least a l)
