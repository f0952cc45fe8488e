-- The tags of a message's segments, as codes.
use Rattle.std.specs.Prelude.{ℕ, List, map}
use Rattle.service.specs.declared.Service.{Service}
use Rattle.segments.specs.SegmentList.{starts_from}
use Rattle.values.specs.Numbers.{value_from}
use Rattle.values.specs.Forms.Values.{code_of}

-- the tag of the segment that begins at i, as a code: 'its tag is the first component's value'
abbrev pub tag_on : Service → List ℕ → ℕ → ℕ
tag_on v m i = code_of (value_from v i m)

-- the tags of the segments from byte i on
unfoldable pub tags_from : Service → List ℕ → ℕ → List ℕ
tags_from v m i = map (tag_on v m) (starts_from v m i)

-- of the whole message
abbrev pub tags_of : Service → List ℕ → List ℕ
tags_of v m = tags_from v m 0
