-- The next segment's place, and what one count of messages and strays finds.
use Rattle.std.specs.Prelude.{ℕ, List, [], ◌∷◌, false, length, Option, None, Some, Result, Ok, Err}
use Rattle.numbers.specs.declared.Number.TheVariants as numbers
use Rattle.service.specs.declared.Service.{Service}
use Rattle.segments.specs.declared.Segment.{Segment}
use Rattle.segments.specs.declared.Segment.TheVariants as segment
use Rattle.segments.specs.Forms.Segments.{segment_at}
use Rattle.segments.specs.declared.Piece.{Piece}
use Rattle.segments.specs.SegmentList.{start_of}
use Rattle.interchange.specs.Answers.{Refusal}
use Rattle.interchange.specs.declared.Survey.{Survey}
use Rattle.interchange.specs.Answers.{refusal}
use Rattle.interchange.specs.Messages.{kind_of, messages_of, strays_of}
use Rattle.interchange.specs.declared.Kind.{Kind}
use Rattle.interchange.specs.declared.Kind.TheVariants.{Head as head, Trailer as trailer, Last as last, Other as other, Cut as cut}

-- where the segment after the one at a position begins, or the end of the bytes
abbrev pub past_by : ℕ → Segment → ℕ
past_by e (segment.Finished t n) = n
past_by e segment.Unfinished = e
past_by e segment.Nothing = e

unfoldable pub past_at : Service → List ℕ → ℕ → ℕ
past_at v s i = past_by (length s) (segment_at v i s)

-- where the end UNZ begins among the segments l, no unfinished one before it
abbrev pub unz_by : Kind → ℕ → Option ℕ → Option ℕ
unz_by head i on = on
unz_by trailer i on = on
unz_by last i on = Some i
unz_by other i on = on
unz_by cut i on = None

unfoldable pub unz_of : Service → List ℕ → List Piece → Option ℕ
unz_of v s [] = None
unz_of v s (p ∷ l) = unz_by (kind_of v s p l) (start_of p) (unz_of v s l)

-- the messages and the strays, where there is an end UNZ, or 4
abbrev pub surveyed : Option ℕ → ℕ → ℕ → Result Survey Refusal
surveyed (Some e) m z = Ok (record { messages = m; strays = z; end = e })
surveyed None m z = Err (refusal numbers.End)

-- what the count finds among the segments l
unfoldable pub survey_of : Service → List ℕ → List Piece → Result Survey Refusal
survey_of v s l = surveyed (unz_of v s l) (length (messages_of v s l)) (length (strays_of v s false l))
