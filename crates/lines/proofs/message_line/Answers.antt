use Rattle.std.specs.Prelude.{ℕ, ◌≤◌, List, [], ◌∷◌, length}
use Rattle.std.proofs.Common.{subst, ◌∙◌}
use Rattle.lines.specs.Lines.{decimal, line, Lined}
use Rattle.values.specs.Text.{text}
use Rattle.lines.specs.Laws.LinesLaws.{message_lined, message_short, told_lined, told_short}
use Rattle.lines.proofs.message_line.Goals as goal

pub returns-in-Ok-clause-lined : goal.returns-in-Ok-clause-lined
unfolding text
returns-in-Ok-clause-lined g c =
    told_lined _ g.N.Numbered.number c.args.place c.args.told _ c.in-Ok.is c.args.room.now c.end.new.room c.end.result
    (message_lined c.args.place c.in-Ok.c.segments c.in-Ok.c.orders c.in-Ok.c.payments c.new-line.result.items c.put.new.line.items c.put_numbers.new.line.items c.new-line.ensures c.put.ensures c.put_numbers.ensures.items (text "OK") c.put-in-Ok.new.line.items c.put-in-Ok.ensures c.args.room.now c.end.new.room c.end.result c.end.ensures.lined)

pub returns-in-Ok-clause-told_len_bound : goal.returns-in-Ok-clause-told_len_bound
unfolding text
returns-in-Ok-clause-told_len_bound g c =
    told_short _ g.N.Numbered.number c.args.place c.args.told _ c.in-Ok.is
    (message_short c.args.place c.in-Ok.c.segments c.in-Ok.c.orders c.in-Ok.c.payments c.new-line.result.items c.put.new.line.items c.put_numbers.new.line.items c.new-line.ensures c.put.ensures c.put_numbers.ensures.items (text "OK") c.put-in-Ok.new.line.items c.put-in-Ok.ensures c.end.ensures.short)

pub returns-in-Err-clause-lined : goal.returns-in-Err-clause-lined
unfolding text
returns-in-Err-clause-lined g c =
    let e = c.from.ensures ∙ c.number.ensures in
    told_lined _ g.N.Numbered.number c.args.place c.args.told _ c.in-Err.is c.args.room.now c.end-in-Err.new.room c.end-in-Err.result
    (subst (λ (l : List ℕ). Lined l c.args.room.now c.end-in-Err.new.room c.end-in-Err.result) (λ i. line (text "MSG" ∷ decimal c.args.place ∷ text "NO" ∷ decimal (e i) ∷ decimal (c.from-in-Err.ensures i) ∷ decimal (c.from-in-Err-2.ensures i) ∷ []))
    (message_lined c.args.place c.from.result c.from-in-Err.result c.from-in-Err-2.result c.new-line.result.items c.put.new.line.items c.put_numbers.new.line.items c.new-line.ensures c.put.ensures c.put_numbers.ensures.items (text "NO") c.put-in-Err.new.line.items c.put-in-Err.ensures c.args.room.now c.end-in-Err.new.room c.end-in-Err.result c.end-in-Err.ensures.lined))

pub returns-in-Err-clause-told_len_bound : goal.returns-in-Err-clause-told_len_bound
unfolding text
returns-in-Err-clause-told_len_bound g c =
    let e = c.from.ensures ∙ c.number.ensures in
    told_short _ g.N.Numbered.number c.args.place c.args.told _ c.in-Err.is
    (subst (λ (l : List ℕ). length l ≤ 128) (λ i. line (text "MSG" ∷ decimal c.args.place ∷ text "NO" ∷ decimal (e i) ∷ decimal (c.from-in-Err.ensures i) ∷ decimal (c.from-in-Err-2.ensures i) ∷ []))
    (message_short c.args.place c.from.result c.from-in-Err.result c.from-in-Err-2.result c.new-line.result.items c.put.new.line.items c.put_numbers.new.line.items c.new-line.ensures c.put.ensures c.put_numbers.ensures.items (text "NO") c.put-in-Err.new.line.items c.put-in-Err.ensures c.end-in-Err.ensures.short))
