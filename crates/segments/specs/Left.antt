-- The segments that a reader has left, and one step of it.
use Rattle.std.specs.Prelude.{◌≡◌, ◌≤◌, List, Option, length}
use Rattle.std.specs.Iterator.{YieldsFirst}
use Rattle.segments.specs.declared.Piece.{Piece}
use Rattle.segments.specs.declared.Segments.{Segments}
use Rattle.segments.specs.SegmentList.{segments_from}

abbrev pub segments_left : Segments → List Piece
segments_left r = segments_from r.text.service r.text.bytes.now r.at

-- a step gives the first of the segments left, and stays in the text
pub record Steps (r : Segments) (p : Option Piece) (q : Segments) : Type 0 where
  pub yields : YieldsFirst segments_left r p q
  pub same : q.text ≡ r.text
  pub within : r.at ≤ length r.text.bytes.now → q.at ≤ length q.text.bytes.now
