-- How a reader that lost its place finds the segments again: what the theorems of `ResyncLaws` speak of.
use Rattle.std.specs.Prelude.{ℕ, ◌+◌, ◌≡◌, List, [], ◌∷◌, Bool, true, false}
use Rattle.service.specs.declared.Service.{Service}
use Rattle.segments.specs.declared.Class.{Class}
use Rattle.segments.specs.declared.Class.TheVariants.{Plain, Comp, Elem, Rel, Term}
use Rattle.segments.specs.Classes.{class_of}
use Rattle.segments.specs.declared.Piece.{Piece}
use Rattle.segments.specs.declared.Piece.TheVariants.{Finished as finished, Unfinished as unfinished}
use Rattle.segments.specs.SegmentList.{Mode, after}

-- where the byte after a text stands: `gap` where the text leaves nothing open
unfoldable pub run : Service → Mode → List ℕ → Mode
run v m [] = m
run v m (b ∷ s) = run v (after v m b) s

-- the same segment, k bytes further on
abbrev pub shift : ℕ → Piece → Piece
shift k (finished a b) = finished (k + a) (k + b)
shift k (unfinished a b) = unfinished (k + a) (k + b)

-- whether the byte after one is released, by that byte's class
abbrev pub rel_by : Class → Bool
rel_by Plain = false
rel_by Comp = false
rel_by Elem = false
rel_by Rel = true
rel_by Term = false

abbrev pub rel_next : Service → Bool → ℕ → Bool
rel_next v true b = false
rel_next v false b = rel_by (class_of v b)

-- whether the byte after a text is released, the first of which is released or not
unfoldable pub rel_after : Service → Bool → List ℕ → Bool
rel_after v r [] = r
rel_after v r (b ∷ s) = rel_after v (rel_next v r b) s

-- the breaks are no service characters, as with any fit ones
pub record Sound (v : Service) : Type 0 where
  pub cr : class_of v 13 ≡ Plain
  pub lf : class_of v 10 ≡ Plain
