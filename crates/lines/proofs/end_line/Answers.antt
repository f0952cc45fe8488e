use Rattle.std.specs.Prelude.{[], ◌∷◌}
use Rattle.values.specs.Text.{text}
use Rattle.lines.specs.Laws.LinesLaws.{word_lined, word_short}
use Rattle.lines.proofs.end_line.Goals as goal

pub returns-clause-lined : goal.returns-clause-lined
unfolding text
returns-clause-lined c =
    word_lined (text "END") (c.args.messages ∷ c.args.accepted ∷ c.args.strays ∷ c.args.closing ∷ []) c.new-line.result.items c.put.new.line.items c.new-line.ensures c.put.ensures
    c.args.room.now c.end.new.room c.end.result c.end.ensures.lined

pub returns-clause-closing_len_bound : goal.returns-clause-closing_len_bound
unfolding text
returns-clause-closing_len_bound c =
    word_short (text "END") (c.args.messages ∷ c.args.accepted ∷ c.args.strays ∷ c.args.closing ∷ []) c.new-line.result.items c.put.new.line.items c.new-line.ensures c.put.ensures c.end.ensures.short
