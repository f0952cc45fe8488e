-- tally_of: what its loop keeps.
use Rattle.std.proofs.Common.{◌≡◌, length}
use Rattle.segments.specs.SegmentList.{segments_from}
use Rattle.segments.specs.Left.{segments_left}
use Rattle.tally.specs.Forms.Few.{Few}
use Rattle.tally.specs.Tallied.{together, tally_of}
use Rattle.tally.proofs.tally_of.Given as goal

abbrev pub invariant-loop-piece : goal.invariant-loop-piece
invariant-loop-piece l =
    (tally_of l.text.service l.text.bytes.now (segments_from l.text.service l.text.bytes.now 0) ≡ together l.t (tally_of l.text.service l.text.bytes.now (segments_left l.piece-iterator)))
    × Few l.t (segments_left l.piece-iterator) (length l.text.bytes.now)
