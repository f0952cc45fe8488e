-- What a check answers: the counts of an accepted message, or a refusal.
use Rattle.std.specs.Prelude.{Result, Ok, Err}
use Rattle.interchange.specs.Answers.{Refusal}
use Rattle.report.specs.declared.Counts.{Counts}

abbrev pub Report : Type 0
Report = Result Counts Refusal

abbrev pub Accepted : Counts → Report
Accepted c = Ok c

abbrev pub Refused : Refusal → Report
Refused f = Err f
