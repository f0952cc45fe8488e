use Rattle.std.specs.Prelude.{◌≡◌, Ok, Err, IsErrAnd}
use Rattle.std.proofs.Math.Path.{ap}
use Rattle.std.proofs.Common.{rules}
use Rattle.interchange.specs.Answers.{Refusal}
use Rattle.walk.specs.Steps.{Walked}
use Rattle.walk.specs.Laws.JudgesLaws.{judge_unread, judge_refused, judge_nothing, judge_message}
use Rattle.walk.proofs.judge.Goals as goal

-- what `?` hands on is the refusal
handed : (w : Walked) (f : Refusal) → IsErrAnd w (λ g. g ≡ f) → w ≡ Err f
handed (Ok o) f h = absurd h
handed (Err g) f h = ap Err h

pub returns-in_err-service : goal.returns-in_err-service
returns-in_err-service c = rw (handed c.from_residual.result c.in_err-service.field-0.0 c.from_residual.ensures.1) (search (c.in_err-service.was, judge_unread, rules))

pub returns-in_err-span : goal.returns-in_err-span
returns-in_err-span c = rw (handed c.from_residual-in_err-span.result c.in_err-span.field-0.0 c.from_residual-in_err-span.ensures.1) (search (c.in_ok-service.was, c.in_err-span.was, judge_refused, rules))

pub returns-in_default : goal.returns-in_default
returns-in_default c = search (c.in_ok-service.was, c.in_ok-span.was, judge_nothing, rules)

pub returns : goal.returns
returns c = search (c.in_ok-service.was, c.in_ok-span.was, judge_message, rules)
