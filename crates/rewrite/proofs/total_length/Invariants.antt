-- total_length: what its loop keeps.
use Rattle.std.proofs.Common.{length}
use Rattle.segments.specs.Left.{segments_left}
use Rattle.parts.specs.Trimmed.{values_from}
use Rattle.rewrite.specs.Plain.{plain}
use Rattle.rewrite.proofs.total_length.Given as goal
use Rattle.rewrite.specs.Laws.LengthLaws.{Summed}

abbrev pub invariant-loop-piece : goal.invariant-loop-piece
invariant-loop-piece l =
    Summed l.fn.text.service l.fn.text.bytes.now (length (plain (values_from l.fn.text.service l.fn.text.bytes.now l.at))) (segments_left l.piece-iterator) l.n
