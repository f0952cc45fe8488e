-- A message's segments, its tags and the LIN tags among its segments are as many. Assumes nothing.
use Rattle.std.specs.Prelude.{ℕ, ◌<◌, ◌≡◌, length, drop, eqb}
use Rattle.std.proofs.Common.{arith, sym, ◌∙◌}
use Rattle.std.proofs.Math.Path.{refl}
use mathlib.Core.List.{List, [], ◌∷◌, map}
use Rattle.std.proofs.Math.Bool.{false}
use Rattle.service.specs.declared.Service.{Service}
use Rattle.segments.specs.declared.Piece.{Piece}
use Rattle.segments.specs.SegmentList.{start_of, segments_from, starts_from, start_at}
use Rattle.segments.specs.Laws.StartsLaws.{starts_count}
use Rattle.parts.specs.Parts.{lex}
use Rattle.parts.proofs.Laws.ValueLaws.{tag_value}
use Rattle.values.specs.Numbers.{value_in}
use Rattle.values.specs.Forms.Values.{code_from, code_of}
use Rattle.tally.specs.Places.{passed}
use Rattle.tally.specs.Laws.PlacesLaws.{passed_start}
use Rattle.values.specs.Forms.Codes.{LIN}
use Rattle.chart.specs.Tags.{tag_on, tags_from, tags_of}
use Rattle.chart.specs.Laws.TagsLaws.{same_count}
use Rattle.values.specs.Text.{text, says}
use Rattle.values.specs.Laws.TextLaws.{says_code}
use Rattle.report.specs.Reported.{raw_of, lines}
use Rattle.report.specs.Laws.CountLaws.{times}

lin_code : (l : List ℕ) → says l "LIN" ≡ eqb (code_of l) LIN
unfolding text code_from
lin_code l = says_code l "LIN" refl

module _ (v : Service) (m : List ℕ) where
  lines_by : (l : List Piece) → lines (map (raw_of v m) l) ≡ times LIN (map (tag_on v m) (map start_of l))
  unfolding lines times
  lines_by [] = refl
  lines_by (p ∷ l) = rw (lin_code (value_in v (start_of p) m 0 0), ← tag_value (lex v false (drop (start_of p) m)), lines_by l)

  -- the LIN tags by the list of segments and by the list of tags
  pub lines_tags : lines (map (raw_of v m) (segments_from v m 0)) ≡ times LIN (tags_of v m)
  unfolding tags_from starts_from
  lines_tags = lines_by (segments_from v m 0)

  pub pieces_tags : length (segments_from v m 0) ≡ length (tags_of v m)
  pieces_tags = sym (starts_count v m 0) ∙ same_count v m 0

  -- `segments_before` finds the number of the segment that begins at a place
  pub number_is : (j : ℕ) → j < length (tags_of v m) → passed (length m) (start_at v m j) (segments_from v m 0) ≡ j
  number_is j h = let z = same_count v m 0 in passed_start v m j (omega arith)
