-- Each byte is passed over, each component separator counts one, and an element separator or the end leaves an empty value.
use Rattle.parts.proofs.Laws.LexLaws.{comp_byte, comp_comp, comp_elem, comp_stop, comp_here}
use Rattle.std.proofs.Common.{rules}
use Rattle.parts.proofs.component_of.Goals as goal

pub loop-left-preserved-in-Byte : goal.loop-left-preserved-in-Byte
loop-left-preserved-in-Byte c = search (comp_byte, rules)

pub loop-left-preserved : goal.loop-left-preserved
loop-left-preserved c = search (comp_byte, comp_comp, rules)

pub returns-in-Elem : goal.returns-in-Elem
returns-in-Elem c = search (comp_byte, comp_elem, comp_stop, comp_here, rules)

pub returns-in-Stop : goal.returns-in-Stop
returns-in-Stop c = search (comp_byte, comp_elem, comp_stop, comp_here, rules)

pub returns : goal.returns
returns c = search (comp_byte, comp_elem, comp_stop, comp_here, rules)
