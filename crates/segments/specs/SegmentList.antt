-- The segments of a text as a list, as document 01, "Bytes to segments", says.
use Rattle.std.specs.Prelude.{ℕ, suc, List, [], ◌∷◌, map, Bool, true, false, length, drop, get_or}
use Rattle.service.specs.declared.Service.{Service}
use Rattle.service.specs.Tests.{if}
use Rattle.segments.specs.declared.Class.{Class}
use Rattle.segments.specs.declared.Class.TheVariants.{Plain, Comp, Elem, Rel, Term}
use Rattle.segments.specs.Classes.{class_of, is_break}
-- a segment from its first byte to its terminator, or to the end of the text: "Bytes that no terminator ends, a last release included, are
-- an unfinished segment."
use Rattle.segments.specs.declared.Piece.{Piece}
use Rattle.segments.specs.declared.Piece.TheVariants.{Finished as finished, Unfinished as unfinished}

-- where a segment begins
abbrev pub start_of : Piece → ℕ
start_of (finished a t) = a
start_of (unfinished a e) = a

-- where a byte stands: between segments, at a segment's first byte, inside one, or inside one and after a release
pub data Mode : Type 0 where
  gap first inside held : Mode

-- where the byte after one that is not released stands, by that byte's class; and whether that byte ends its segment
abbrev pub mode : Class → Mode
mode Plain = inside
mode Comp = inside
mode Elem = inside
mode Rel = held
mode Term = gap

abbrev pub ended : Class → Bool
ended Plain = false
ended Comp = false
ended Elem = false
ended Rel = false
ended Term = true

-- where the next byte stands: "A release makes the next byte plain data"; "CR and LF directly after a terminator .. are passed over. Elsewhere
-- they are data."
abbrev pub after : Service → Mode → ℕ → Mode
after v gap b = if (is_break b) gap (mode (class_of v b))
after v first b = mode (class_of v b)
after v inside b = mode (class_of v b)
after v held b = inside

-- whether the byte ends a segment
abbrev pub ends : Service → Mode → ℕ → Bool
ends v gap b = if (is_break b) false (ended (class_of v b))
ends v first b = ended (class_of v b)
ends v inside b = ended (class_of v b)
ends v held b = false

-- where the segment of the byte at i begins, if one that is begun began at st
abbrev pub start_in : Mode → ℕ → ℕ → ℕ
start_in gap st i = i
start_in first st i = i
start_in inside st i = st
start_in held st i = st

-- a segment that ended, put before those that follow
abbrev pub emit : Bool → ℕ → ℕ → List Piece → List Piece
emit true a b l = finished a b ∷ l
emit false a b l = l

-- what is left at the end of the text
abbrev pub left : Mode → ℕ → ℕ → List Piece
left gap st i = []
left first st i = []
left inside st i = unfinished st i ∷ []
left held st i = unfinished st i ∷ []

-- the segments of the bytes, the first of which stands at i
unfoldable pub pieces : Service → Mode → ℕ → ℕ → List ℕ → List Piece
pieces v m st i [] = left m st i
pieces v m st i (b ∷ s) = emit (ends v m b) (start_in m st i) i (pieces v (after v m b) (start_in m st i) (suc i) s)

-- the segments of a text from the one that begins at i
abbrev pub segments_from : Service → List ℕ → ℕ → List Piece
segments_from v s i = pieces v first i i (drop i s)

-- the segments of a text from i, "read as though a terminator stood just before"
abbrev pub segments_after : Service → List ℕ → ℕ → List Piece
segments_after v s i = pieces v gap i i (drop i s)

-- where the segments from the one that begins at i begin
unfoldable pub starts_from : Service → List ℕ → ℕ → List ℕ
starts_from v s i = map start_of (segments_from v s i)

-- of the whole text
abbrev pub starts_of : Service → List ℕ → List ℕ
starts_of v s = starts_from v s 0

-- where the segment begins before which j stand; the end, where there is none
abbrev pub start_at : Service → List ℕ → ℕ → ℕ
start_at v s j = get_or (starts_of v s) j (length s)

-- where a segment ends: before its terminator, or at the end of the bytes
abbrev pub end_of : Piece → ℕ
end_of (finished a e) = e
end_of (unfinished a e) = e

-- where the segment ends before which j stand
abbrev pub end_at : Service → List ℕ → ℕ → ℕ
end_at v s j = get_or (map end_of (segments_from v s 0)) j (length s)

-- whether no segment of a list is unfinished
unfoldable pub all_finished : List Piece → Bool
all_finished [] = true
all_finished (finished a b ∷ l) = all_finished l
all_finished (unfinished a b ∷ l) = false
