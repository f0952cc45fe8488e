use Rattle.std.proofs.Common.{rules}
use Rattle.payreport.specs.Laws.PrintedLaws.{stand_first, place_fits, accepted_fits, told_line, told_next, tell_first, tell_next}
use Rattle.payreport.proofs.put_messages.Goals as goal

pub loop-found-init : goal.loop-found-init
loop-found-init g c = (search (stand_first, rules), tell_first _ _)

pub overflow_add-place : goal.overflow_add-place
overflow_add-place g c = search (place_fits, rules)

pub put_message-requires : goal.put_message-requires
put_message-requires g c = search (told_line, rules)

pub overflow_add-accepted : goal.overflow_add-accepted
overflow_add-accepted g c = search (accepted_fits, rules)

pub loop-found-preserved : goal.loop-found-preserved
loop-found-preserved g c = (search (told_next, rules), search (tell_next, rules))
