-- segment_start: what its loop keeps.
use Rattle.segments.specs.SegmentList.{start_at}
use Rattle.tally.specs.Laws.PlacesLaws.{Standing}
use Rattle.tally.proofs.segment_start.Given as goal

abbrev pub invariant-loop : goal.invariant-loop
invariant-loop l = Standing (start_at l.text.service l.text.bytes.now l.before) l.text.service l.text.bytes.now l.before l.counter l.segments
