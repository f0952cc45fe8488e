-- put_segments: what its loop keeps.
use Rattle.segments.specs.Left.{segments_left}
use Rattle.parts.specs.Trimmed.{values_in, values_from}
use Rattle.rewrite.specs.Plain.{plain}
use Rattle.rewrite.proofs.put_segments.Given as goal
use Rattle.lent.specs.Forms.Puts.{Putting}

abbrev pub invariant-loop-piece : goal.invariant-loop-piece
invariant-loop-piece l =
    Putting 0 (plain (values_from l.fn.text.service l.fn.text.bytes.now l.at)) l.initial.out l.out l.j (plain (values_in l.fn.text.service l.fn.text.bytes.now (segments_left l.piece-iterator)))
