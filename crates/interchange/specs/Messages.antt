-- Where messages lie in a list of segments, as document 01, "Bytes to segments", says.
use Rattle.std.specs.Prelude.{ℕ, ◌+◌, ◌-◌, List, [], ◌∷◌, Bool, true, false, length, take, drop, eqb, ltb}
use Rattle.service.specs.declared.Service.{Service}
use Rattle.service.specs.Tests.{if, is_empty}
use Rattle.segments.specs.declared.Piece.{Piece}
use Rattle.segments.specs.declared.Piece.TheVariants.{Finished as finished, Unfinished as unfinished}
use Rattle.segments.specs.SegmentList.{segments_from, segments_after, all_finished}
pub use Rattle.segments.specs.SegmentList.{start_of}
use Rattle.values.specs.Numbers.{value_from}
use Rattle.values.specs.Text.{says}
use Rattle.interchange.specs.Answers.{Found}
use Rattle.interchange.specs.Finds as found
-- what a segment is to the envelope: UNH, UNT, the end UNZ, any other, or unfinished
use Rattle.interchange.specs.declared.Kind.{Kind}
use Rattle.interchange.specs.declared.Kind.TheVariants.{Head as head, Trailer as trailer, Last as last, Other as other, Cut as cut}

-- "its tag is the first component's value": the tag of the segment that begins at i
unfoldable pub tag_at : Service → List ℕ → ℕ → List ℕ
tag_at v s i = value_from v i s

-- "UNZ counts as the end only if nothing but CR and LF follows it. A UNZ elsewhere is an ordinary segment."
abbrev pub kind_by : List ℕ → Bool → Kind
kind_by g e = if (says g "UNH") head (if (says g "UNT") trailer (if (says g "UNZ") (if e last other) other))

-- a segment and those that follow it: "An unfinished segment counts as no UNH, no UNT and no end UNZ."
abbrev pub kind_of : Service → List ℕ → Piece → List Piece → Kind
kind_of v s (finished a t) l = kind_by (tag_at v s a) (is_empty l)
kind_of v s (unfinished a e) l = cut

-- a message from its first byte up to but excluding the second place
pub data Extent : Type 0 where
  closed unclosed : ℕ → ℕ → Extent

abbrev pub starts_at : Extent → ℕ
starts_at (closed a e) = a
starts_at (unclosed a e) = a

abbrev pub ends_at : Extent → ℕ
ends_at (closed a e) = e
ends_at (unclosed a e) = e

abbrev pub is_closed : Extent → Bool
is_closed (closed a e) = true
is_closed (unclosed a e) = false

-- the bytes of a message
abbrev pub bytes_of : List ℕ → Extent → List ℕ
bytes_of s m = take (ends_at m - starts_at m) (drop (starts_at m) s)

-- where a finished segment ends, "terminator included"
abbrev pub past_of : Piece → ℕ
past_of (finished a t) = t + 1
past_of (unfinished a e) = e

-- by what comes next after the message's first byte at a
abbrev pub extent_by : Kind → Piece → ℕ → Extent → Extent
extent_by trailer p a on = closed a (past_of p)
extent_by head p a on = unclosed a (start_of p)
extent_by last p a on = unclosed a (start_of p)
extent_by other p a on = on
extent_by cut p a on = on

-- "It ends with the first UNT after it, terminator included; if another UNH, the end UNZ or the buffer's end comes first, it is unclosed and its
-- extent stops before that segment's first byte or at that end." The message begins at a, and these segments follow its UNH.
unfoldable pub extent_of : Service → List ℕ → ℕ → List Piece → Extent
extent_of v s a [] = unclosed a (length s)
extent_of v s a (p ∷ l) = extent_by (kind_of v s p l) p a (extent_of v s a l)

-- the same said of a message's own bytes, for number 11: closed is a message whose first UNT is finished and ends the bytes
unfoldable pub closed_at : Service → List ℕ → ℕ → List Piece → Bool
closed_at v m e [] = false
closed_at v m e (finished a t ∷ l) = if (says (tag_at v m a) "UNT") (eqb (t + 1) e) (closed_at v m e l)
closed_at v m e (unfinished a u ∷ l) = false

abbrev pub ends_closed : Service → List ℕ → Bool
ends_closed v m = closed_at v m (length m) (segments_from v m 0)

abbrev pub messages_by : Kind → Extent → List Extent → List Extent
messages_by head m on = m ∷ on
messages_by trailer m on = on
messages_by last m on = on
messages_by other m on = on
messages_by cut m on = on

-- "A message begins at every UNH."
unfoldable pub messages_of : Service → List ℕ → List Piece → List Extent
messages_of v s [] = []
messages_of v s (p ∷ l) = messages_by (kind_of v s p l) (extent_of v s (start_of p) l) (messages_of v s l)

-- whether a segment stands in a message, by the one before it: after a UNH, and on up to the UNT
abbrev pub stays : Kind → Bool → Bool
stays head r = true
stays trailer r = false
stays last r = false
stays other r = r
stays cut r = r

abbrev pub stray_by : Kind → Bool → Piece → List Piece → List Piece
stray_by head r p on = on
stray_by trailer true p on = on
stray_by trailer false p on = p ∷ on
stray_by last r p on = on
stray_by other true p on = on
stray_by other false p on = p ∷ on
stray_by cut r p on = on

-- "Any other segment between UNB and the end UNZ is a stray." The first of these segments stands in a message or not; no end UNZ follows an
-- unfinished one.
unfoldable pub strays_of : Service → List ℕ → Bool → List Piece → List Piece
strays_of v s r [] = []
strays_of v s r (p ∷ l) = stray_by (kind_of v s p l) r p (strays_of v s (stays (kind_of v s p l) r) l)

-- ---- walking
-- whether an unfinished segment begins before e
unfoldable pub cut_before : ℕ → List Piece → Bool
cut_before e [] = false
cut_before e (finished a t ∷ l) = cut_before e l
cut_before e (unfinished a u ∷ l) = if (ltb a e) true (cut_before e l)

-- a message and the segments among which it was sought: "an unfinished segment before the found message's end"
abbrev pub found_one : Extent → List Piece → Found
found_one m l = if (cut_before (ends_at m) l) found.Unfinished (found.Message (starts_at m) (ends_at m))

-- ", or anywhere if none is found"
abbrev pub found_by : List Extent → List Piece → Found
found_by [] l = if (all_finished l) found.Nothing found.Unfinished
found_by (m ∷ ms) l = found_one m l

unfoldable pub found_in : Service → List ℕ → List Piece → Found
found_in v s l = found_by (messages_of v s l) l

-- "one call finds the next message from there ..: the bytes from it are read as though a terminator stood just before"
abbrev pub found_from : Service → List ℕ → ℕ → Found
found_from v s at = found_in v s (segments_after v s at)
