use Rattle.std.proofs.Common.{rules}
use Rattle.payreport.specs.Laws.PrintedLaws.{puts_line, took_line}
use Rattle.payreport.proofs.put_message.Goals as goal

pub put_line-requires-clause-line : goal.put_line-requires-clause-line
put_line-requires-clause-line g c = puts_line _ _ _ (λ old n new m. (search rules, search rules)) c.requires

pub returns : goal.returns
returns g c = took_line _ _ _ _ _ (λ old n new m. (search rules, search rules)) c.put_line.ensures
