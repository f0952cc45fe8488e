use Rattle.report.specs.Laws.ChecksLaws.{none_of}
use Rattle.report.specs.Laws.CheckLaws.{check_byte, check_early, check_room, check_late, check_done}
use Rattle.std.proofs.Common.{rules}
use Rattle.report.proofs.judge_placed.Goals as goal

pub returns-in-Some : goal.returns-in-Some
returns-in-Some c = search (check_byte, rules)

pub returns-in-Some-early_fault : goal.returns-in-Some-early_fault
returns-in-Some-early_fault c = let clean = none_of c.tally_of-t.result.bad c.in_default.not-Some in search (clean, check_early, rules)

pub returns-then-not-fits : goal.returns-then-not-fits
returns-then-not-fits c =
    let clean = none_of c.tally_of-t.result.bad c.in_default.not-Some in
    let quiet = none_of c.early_fault.result c.in_default-early_fault.not-Some in
    search (clean, quiet, check_room, rules)

pub returns-in-Some-late_fault : goal.returns-in-Some-late_fault
returns-in-Some-late_fault c =
    let clean = none_of c.tally_of-t.result.bad c.in_default.not-Some in
    let quiet = none_of c.early_fault.result c.in_default-early_fault.not-Some in
    search (clean, quiet, check_late, rules)

pub returns : goal.returns
returns c =
    let clean = none_of c.tally_of-t.result.bad c.in_default.not-Some in
    let quiet = none_of c.early_fault.result c.in_default-early_fault.not-Some in
    let none = none_of c.late_fault.result c.in_default-late_fault.not-Some in
    search (clean, quiet, none, check_done, rules)
