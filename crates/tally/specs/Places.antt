-- Which segment a byte stands in.
use Rattle.std.specs.Prelude.{ℕ, suc, List, [], ◌∷◌, Bool, true, false, ltb}
use Rattle.segments.specs.declared.Piece.{Piece}
use Rattle.segments.specs.declared.Piece.TheVariants.{Finished as finished, Unfinished as unfinished}
use Rattle.segments.specs.SegmentList.{start_of}

-- where the first of some segments begins, or, of none, the end of the text
abbrev pub next_start : ℕ → List Piece → ℕ
next_start e [] = e
next_start e (p ∷ l) = start_of p

abbrev pub pass_by : Bool → ℕ → ℕ
pass_by true n = 0
pass_by false n = suc n

-- "segment (UNH is 1)": how many segments stand before the one that holds the byte at p, in a text that ends at e
unfoldable pub passed : ℕ → ℕ → List Piece → ℕ
passed e p [] = 0
passed e p (finished a t ∷ l) = pass_by (ltb p (next_start e l)) (passed e p l)
passed e p (unfinished a t ∷ l) = 0
