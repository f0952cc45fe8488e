use Rattle.interchange.specs.Laws.SurveyLaws.{survey_start}
use Rattle.interchange.proofs.survey_of.Goals as goal

pub loop-piece-init : goal.loop-piece-init
loop-piece-init c = survey_start c.args.rest
