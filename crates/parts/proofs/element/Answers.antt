-- Where no token follows, the element is the segment's end.
use Rattle.parts.proofs.Laws.LexLaws.{elem_here, elem_byte, elem_comp, elem_stop}
use Rattle.std.proofs.Common.{rules}
use Rattle.parts.proofs.element.Goals as goal

pub returns-in-Stop : goal.returns-in-Stop
returns-in-Stop c = search (elem_here, elem_byte, elem_comp, elem_stop, rules)
