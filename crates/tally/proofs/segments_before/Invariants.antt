-- segments_before: what its loop keeps, and what falls.
use Rattle.std.proofs.Common.{length}
use Rattle.segments.specs.SegmentList.{segments_from}
use Rattle.segments.specs.Left.{segments_left}
use Rattle.tally.specs.Places.{passed}
use Rattle.tally.specs.Laws.PlacesLaws.{Passing}
use Rattle.tally.proofs.segments_before.Given as goal

abbrev pub invariant-loop-piece : goal.invariant-loop-piece
invariant-loop-piece l = Passing (passed (length l.text.bytes.now) l.at (segments_from l.text.service l.text.bytes.now 0)) l.text.service l.text.bytes.now l.at l.n l.segments

abbrev pub decreases-loop-piece : goal.decreases-loop-piece
decreases-loop-piece l = length (segments_left l.segments)
