-- The first segment, the last one and those between them, as document 01, "Bytes to segments", says. Opened.antt and Closed.antt: opening and closing.
use Rattle.std.specs.Prelude.{ℕ, Option, None, Some, List, [], ◌∷◌, map, Bool, false, ◌&&◌, length, drop, eqb, leb, Ok, Err}
use Rattle.numbers.specs.Table.{table_number}
use Rattle.numbers.specs.declared.Number.{Number}
use Rattle.service.specs.declared.Service.{Service}
use Rattle.service.specs.Tests.{if, last_of}
use Rattle.segments.specs.Forms.Bytes.{past_breaks}
use Rattle.segments.specs.declared.Piece.{Piece}
use Rattle.segments.specs.declared.Piece.TheVariants.{Finished as finished, Unfinished as unfinished}
use Rattle.segments.specs.SegmentList.{segments_from}
use Rattle.values.specs.Text.{says}
use Rattle.values.specs.Numbers.{value_in}
use Rattle.interchange.specs.Answers.{Opening}
pub use Rattle.interchange.specs.Answers.{refusal}
use Rattle.interchange.specs.Answers.{Closing}
use Rattle.interchange.specs.Messages.{tag_at, start_of, messages_of, strays_of}

-- a reference has 1 to 14 bytes
unfoldable pub is_reference : ℕ → Bool
is_reference n = leb 1 n && leb n 14

-- "UNB: syntax version (second component of the first element) 3, control reference (fifth element) 1 to 14 bytes"
unfoldable pub is_header : Service → List ℕ → ℕ → Bool
is_header v s i = says (tag_at v s i) "UNB" && (says (value_in v i s 1 1) "3" && is_reference (length (value_in v i s 5 0)))

-- 3: "first segment, finished or not, is no such UNB (an empty buffer too)"
abbrev pub headed : Service → List ℕ → List Piece → Bool
headed v s [] = false
headed v s (p ∷ l) = is_header v s (start_of p)

abbrev pub is_unz : Service → List ℕ → Piece → Bool
is_unz v s (finished a t) = says (tag_at v s a) "UNZ"
is_unz v s (unfinished a e) = false

-- whether the last segment is a finished UNZ, or, of none, what is given
abbrev pub last_unz : Service → List ℕ → Bool → List Piece → Bool
last_unz v s b l = last_of b (map (is_unz v s) l)

-- 4: "the last segment is no finished UNZ"
abbrev pub ended : Service → List ℕ → List Piece → Bool
ended v s l = last_unz v s false l

-- where the first segment begins: at the first byte, or after UNA's nine bytes and the breaks there
unfoldable pub first_at : List ℕ → ℕ → ℕ
first_at s una = if (eqb una 0) 0 (past_breaks una (drop una s))

-- the table's number of each answer, 0 where the interchange opens
abbrev pub opening_number : Opening → ℕ
opening_number (Ok o) = 0
opening_number (Err f) = table_number f.number

-- ---- closing
-- the segments after the first
abbrev pub after_first : List Piece → List Piece
after_first [] = []
after_first (p ∷ l) = l

-- where the last segment begins, or, of none, what is given
abbrev pub last_start : ℕ → List Piece → ℕ
last_start d l = last_of d (map start_of l)

-- the segments between UNB and the buffer's end, the messages and the strays among them
abbrev pub body_of : Service → List ℕ → ℕ → List Piece
body_of v s first = after_first (segments_from v s first)

abbrev pub message_count : Service → List ℕ → ℕ → ℕ
message_count v s first = length (messages_of v s (body_of v s first))

abbrev pub stray_count : Service → List ℕ → ℕ → ℕ
stray_count v s first = length (strays_of v s false (body_of v s first))

-- where the last of them begins, which in an interchange that opens is the UNZ
abbrev pub unz_at : Service → List ℕ → ℕ → ℕ
unz_at v s first = last_start (length s) (body_of v s first)

-- what closing gives: one of 5 to 7, or none, with the messages and the strays
abbrev pub closing_with : Option Number → Service → List ℕ → ℕ → Closing
closing_with n v s first = Ok (record { fault = n; messages = message_count v s first; strays = stray_count v s first })

-- of an interchange that does not open
abbrev pub closing_without : Number → Closing
closing_without n = Err (refusal n)

-- how many messages closing tells: 0 where it refuses outright
abbrev pub messages_told : Closing → ℕ
messages_told (Ok c) = c.messages
messages_told (Err f) = 0
