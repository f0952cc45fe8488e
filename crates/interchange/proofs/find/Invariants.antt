-- find: what its loop keeps, and what falls.
use Rattle.std.proofs.Common.{length}
use Rattle.segments.specs.Left.{segments_left}
use Rattle.interchange.specs.Messages.{found_from}
use Rattle.interchange.specs.Laws.FindLaws.{Finding}
use Rattle.interchange.proofs.find.Given as goal

abbrev pub invariant-loop-piece : goal.invariant-loop-piece
invariant-loop-piece l = Finding (found_from l.fn.text.service l.fn.text.bytes.now l.at) l.fn.text l.segments

abbrev pub decreases-loop-piece : goal.decreases-loop-piece
decreases-loop-piece l = length (segments_left l.segments)
