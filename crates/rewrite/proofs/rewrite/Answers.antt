use Rattle.rewrite.specs.Laws.RoomLaws.{written_answer, written_room}
use Rattle.std.proofs.Common.{rules}
use Rattle.rewrite.proofs.rewrite.Goals as goal

pub returns-clause-value : goal.returns-clause-value
returns-clause-value c = search (c.in_ok-opened.was, written_answer, rules)

pub returns-clause-out_after : goal.returns-clause-out_after
returns-clause-out_after c = search (c.in_ok-opened.was, written_room, rules)
