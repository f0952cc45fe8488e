-- survey_of: what its loop keeps, and what falls.
use Rattle.std.proofs.Common.{length}
use Rattle.segments.specs.Left.{segments_left}
use Rattle.interchange.specs.Forms.Survey.{survey_of}
use Rattle.interchange.specs.Laws.SurveyLaws.{Surveying}
use Rattle.interchange.proofs.survey_of.Given as goal

abbrev pub invariant-loop-piece : goal.invariant-loop-piece
invariant-loop-piece l = Surveying (survey_of l.fn.rest.text.service l.fn.rest.text.bytes.now (segments_left l.fn.rest)) l.fn.rest.text l.messages l.strays l.inside l.segments

abbrev pub decreases-loop-piece : goal.decreases-loop-piece
decreases-loop-piece l = length (segments_left l.segments)
