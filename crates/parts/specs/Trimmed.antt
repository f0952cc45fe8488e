-- A segment's values, trailing empties aside: what rewriting keeps of a segment.
use Rattle.std.specs.Prelude.{ℕ, List, [], ◌∷◌, map, false, drop}
use Rattle.service.specs.declared.Service.{Service}
use Rattle.segments.specs.declared.Piece.{Piece}
use Rattle.segments.specs.declared.Piece.TheVariants.{Finished as finished, Unfinished as unfinished}
use Rattle.segments.specs.SegmentList.{segments_from}
use Rattle.parts.specs.Parts.{lex, elements}

-- one more put before what is kept: not kept where it is empty and nothing follows
abbrev pub ahead : {A : Type 0} → List A → List (List A) → List (List A)
ahead [] [] = []
ahead [] (y ∷ l) = [] ∷ y ∷ l
ahead (a ∷ x) l = (a ∷ x) ∷ l

-- a list without its trailing empty entries
unfoldable pub trim : {A : Type 0} → List (List A) → List (List A)
trim [] = []
trim (x ∷ l) = ahead x (trim l)

-- a segment's values: elements of components, the tag's own element first
abbrev pub Values : Type 0
Values = List (List (List ℕ))

-- "trailing empty components and elements": a segment of nothing else, or of only its terminator, has no element left
unfoldable pub trimmed : Values → Values
trimmed es = trim (map trim es)

-- the values of the segment that begins at i
abbrev pub values_at : Service → List ℕ → ℕ → Values
values_at v s i = trimmed (elements (lex v false (drop i s)))

-- the values of the segments of a list; in an interchange that opens none is unfinished
unfoldable pub values_in : Service → List ℕ → List Piece → List Values
values_in v s [] = []
values_in v s (finished a t ∷ l) = values_at v s a ∷ values_in v s l
values_in v s (unfinished a e ∷ l) = values_in v s l

-- the values of the segments of a text from the one that begins at i
abbrev pub values_from : Service → List ℕ → ℕ → List Values
values_from v s i = values_in v s (segments_from v s i)
