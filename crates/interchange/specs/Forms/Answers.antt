-- What opening and closing answer, test by test. `opening_is` of OpenedLaws and `closing_is` of ClosingLaws: these are the answers of Opened.antt and Closed.antt.
use Rattle.std.specs.Prelude.{ℕ, List, length, eqb, ltb, Option, Some, None, Result, Ok, Err}
use Rattle.numbers.specs.declared.Number.{Number}
use Rattle.numbers.specs.declared.Number.TheVariants as numbers
use Rattle.service.specs.declared.Service.{Service}
use Rattle.service.specs.declared.Characters.{Characters}
use Rattle.service.specs.Service.{Fit, Unfit}
use Rattle.service.specs.Service.{characters_of}
use Rattle.service.specs.Tests.{if}
use Rattle.segments.specs.SegmentList.{segments_from}
use Rattle.values.specs.Text.{same_list}
use Rattle.values.specs.Numbers.{value_in}
use Rattle.values.specs.Forms.Values.{number_of, is_number}
use Rattle.interchange.specs.Answers.{Refusal}
use Rattle.interchange.specs.Answers.{Opening}
use Rattle.interchange.specs.Answers.{Opens, Refused}
use Rattle.interchange.specs.Answers.{Closing}
use Rattle.interchange.specs.Envelope.{headed, ended, first_at, refusal, message_count, stray_count, unz_at, closing_with, closing_without}

-- 1 and 2 alone: the characters that an interchange is read by
abbrev pub read_with : Option Characters → Result Characters Refusal
read_with (Some c) = Ok c
read_with None = Err (refusal numbers.Characters)

unfoldable pub read_by : List ℕ → Result Characters Refusal
read_by s = if (ltb 1048576 (length s)) (Err (refusal numbers.TooLong)) (read_with (characters_of s))

-- 3
abbrev pub header_by : Service → List ℕ → ℕ → Result ℕ Refusal
header_by v s first = if (headed v s (segments_from v s first)) (Ok first) (Err (refusal numbers.Header))

-- 3 and 4
unfoldable pub opened_by : Service → List ℕ → ℕ → Opening
opened_by v s first =
    if (headed v s (segments_from v s first))
    (if (ended v s (segments_from v s first)) (Opens v first) (Refused (refusal numbers.End)))
    (Refused (refusal numbers.Header))

-- 2
abbrev pub opening_by : List ℕ → Option Characters → Opening
opening_by s (Some c) = opened_by c.service s (first_at s c.una)
opening_by s None = Refused (refusal numbers.Characters)

-- 1
unfoldable pub opening_of : List ℕ → Opening
opening_of s = if (ltb 1048576 (length s)) (Refused (refusal numbers.TooLong)) (opening_by s (characters_of s))

-- 5 to 7, or none. The UNB begins at first, the UNZ at end.
unfoldable pub closing_fault : Service → List ℕ → ℕ → ℕ → ℕ → ℕ → Option Number
closing_fault v s first end messages strays =
    if (is_number (number_of (value_in v end s 1 0)) messages)
    (if (same_list (value_in v first s 5 0) (value_in v end s 2 0)) (if (eqb strays 0) None (Some numbers.Strays)) (Some numbers.Reference))
    (Some numbers.Count)

unfoldable pub closed_by : Service → List ℕ → ℕ → Closing
closed_by v s first = closing_with (closing_fault v s first (unz_at v s first) (message_count v s first) (stray_count v s first)) v s first

abbrev pub closing_by : List ℕ → Opening → Closing
closing_by s (Ok o) = closed_by o.service s o.first
closing_by s (Err f) = Err f

unfoldable pub closing_of : List ℕ → Closing
closing_of s = closing_by s (opening_of s)
