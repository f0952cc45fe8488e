-- find_end: what its loop keeps, and what falls.
use Rattle.std.proofs.Common.{length}
use Rattle.segments.specs.Left.{segments_left}
use Rattle.interchange.specs.Forms.Found.{end_found}
use Rattle.interchange.specs.Laws.FindLaws.{Ending}
use Rattle.interchange.proofs.find_end.Given as goal

abbrev pub invariant-loop-piece : goal.invariant-loop-piece
invariant-loop-piece l = Ending (end_found l.fn.rest.text.service l.fn.rest.text.bytes.now l.start (segments_left l.fn.rest)) l.fn.rest.text l.start l.segments

abbrev pub decreases-loop-piece : goal.decreases-loop-piece
decreases-loop-piece l = length (segments_left l.segments)
