-- An interchange in plain service characters, as document 01 says: "Rewriting any interchange that opens drops UNA, CR and LF between segments, and
-- trailing empty components and elements; it uses the default characters, releasing these four bytes `:` `+` `?` `'` and a CR or LF that begins a
-- segment, and no other."
use Rattle.std.specs.Prelude.{ℕ, List, [], ◌∷◌, ◌++◌, map, Bool, ◌&&◌, length, leb, Ok, Err}
use Rattle.numbers.specs.declared.Number.TheVariants as numbers
use Rattle.service.specs.Service.{among}
use Rattle.service.specs.Tests.{if}
use Rattle.segments.specs.Classes.{is_break}
use Rattle.parts.specs.Trimmed.{Values, values_from}
use Rattle.interchange.specs.Answers.{Opening}
use Rattle.interchange.specs.Envelope.{refusal}
use Rattle.interchange.specs.Forms.Answers.{opening_of}
use Rattle.lent.specs.Over.{over}
use Rattle.rewrite.specs.Answers.{Rewriting}
use Rattle.rewrite.specs.Answers.{Written, Refused}

-- ---- the values of an interchange
abbrev pub values_by : List ℕ → Opening → List Values
values_by s (Ok m) = values_from m.service s m.first
values_by s (Err f) = []

-- the values of an interchange, segment by segment, trailing empties aside: none where it does not open
unfoldable pub values_of : List ℕ → List Values
values_of s = values_by s (opening_of s)

-- ---- values in plain service characters
-- "releasing these four bytes `:` `+` `?` `'`": 58, 43, 63, 39
unfoldable pub is_released : ℕ → Bool
is_released b = among b (58 ∷ 43 ∷ 63 ∷ 39 ∷ [])

unfoldable pub plain_byte : ℕ → List ℕ
plain_byte b = if (is_released b) (63 ∷ b ∷ []) (b ∷ [])

unfoldable pub plain_value : List ℕ → List ℕ
plain_value [] = []
plain_value (b ∷ l) = plain_byte b ++ plain_value l

-- texts, each behind a separator; texts with a separator between each two
unfoldable pub behind : {A : Type 0} → A → List (List A) → List A
behind k [] = []
behind k (x ∷ l) = k ∷ x ++ behind k l

abbrev pub joined : {A : Type 0} → A → List (List A) → List A
joined k [] = []
joined k (x ∷ l) = x ++ behind k l

unfoldable pub plain_element : List (List ℕ) → List ℕ
plain_element xs = joined 58 (map plain_value xs)

unfoldable pub plain_elements : Values → List ℕ
plain_elements es = joined 43 (map plain_element es)

-- "and a CR or LF that begins a segment"
abbrev pub begun : List ℕ → List ℕ
begun [] = []
begun (b ∷ l) = if (is_break b) (63 ∷ b ∷ l) (b ∷ l)

unfoldable pub plain_segment : Values → List ℕ
plain_segment es = begun (plain_elements es)

-- each segment and its terminator
unfoldable pub plain : List Values → List ℕ
plain [] = []
plain (x ∷ l) = plain_segment x ++ 39 ∷ plain l

-- the interchange rewritten, however long
unfoldable pub rewritten : List ℕ → List ℕ
rewritten s = plain (values_of s)

-- ---- the answer, and the room after it
-- 9: "result longer than the room or than 1,048,576"
unfoldable pub fits : ℕ → ℕ → Bool
fits n room = leb n 1048576 && leb n room

abbrev pub fitting : ℕ → ℕ → Rewriting
fitting n room = if (fits n room) (Written n) (Refused (refusal numbers.Room))

-- "Closing and rewriting give 1 to 4 first, as opening does."
abbrev pub rewriting_by : Opening → ℕ → ℕ → Rewriting
rewriting_by (Ok m) n room = fitting n room
rewriting_by (Err f) n room = Refused f

unfoldable pub rewriting_of : List ℕ → ℕ → Rewriting
rewriting_of s room = rewriting_by (opening_of s) (length (rewritten s)) room

-- "Bytes past the result keep their content"; a refusal changes nothing
abbrev pub room_by : Rewriting → List ℕ → List ℕ → List ℕ
room_by (Ok n) new old = over new old
room_by (Err f) new old = old

unfoldable pub room_after : List ℕ → List ℕ → List ℕ
room_after s old = room_by (rewriting_of s (length old)) (rewritten s) old
