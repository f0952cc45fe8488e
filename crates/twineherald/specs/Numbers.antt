-- The numbers that C receives for each answer: they are the answer's own.
use Rattle.std.specs.Prelude.{ℕ, ◌≡◌, List, length, None, Some, Ok, Err}
use Rattle.numbers.specs.Table.{table_number}
use Rattle.numbers.specs.Table.{number_told}
use Rattle.numbers.specs.declared.Number.TheVariants as numbers
use Rattle.service.specs.declared.Service.{Service}
use Rattle.service.specs.Service.{Fit, Unfit, characters_of}
use Rattle.interchange.specs.Answers.{Refusal}
use Rattle.interchange.specs.Answers.{Opening}
use Rattle.interchange.specs.Answers.{Closing}
use Rattle.interchange.specs.Envelope.{refusal, opening_number}
use Rattle.interchange.specs.Opened.{OpenedAs}
use Rattle.interchange.specs.Closed.{ClosedAs}
use Rattle.lent.specs.Lists.{Lists}
use Rattle.report.specs.declared.Counts.{Counts}
use Rattle.report.specs.Answers.{Report}
use Rattle.report.specs.Answers as report
use Rattle.report.specs.Reported.{Reported}
use Rattle.walk.specs.Steps.{Walked}
use Rattle.walk.specs.Steps as walk
use Rattle.walk.specs.Walks.{Walks}
use Rattle.rewrite.specs.Answers.{Rewriting}
use Rattle.rewrite.specs.Answers as rewrite
use Rattle.rewrite.specs.Plain.{rewriting_of, room_after}
use Rattle.twineherald.specs.declared.ReportNumbers.{ReportNumbers}
use Rattle.twineherald.specs.declared.StepNumbers.{StepNumbers}
use Rattle.twineherald.specs.declared.ClosingNumbers.{ClosingNumbers}
use Rattle.twineherald.specs.declared.RewritingNumbers.{RewritingNumbers}

-- a refusal: its number, segment and offset, and no counts
abbrev pub refused_of : Refusal → ReportNumbers
refused_of f = record { number = table_number f.number; segment = f.segment; offset = f.offset; segments = 0; orders = 0; payments = 0 }

abbrev pub nothing_of : ReportNumbers
nothing_of = record { number = 0; segment = 0; offset = 0; segments = 0; orders = 0; payments = 0 }

-- acceptance: number 0, and the counts
abbrev pub accepted_of : Counts → ReportNumbers
accepted_of c = record { number = 0; segment = 0; offset = 0; segments = c.segments; orders = c.orders; payments = c.payments }

abbrev pub report_of : Report → ReportNumbers
report_of (Ok c) = accepted_of c
report_of (Err f) = refused_of f

-- a step of the walk: whether a message was found, where it lies, and its report
abbrev pub step_with : ℕ → ℕ → ℕ → ReportNumbers → StepNumbers
step_with found start end r = record { found = found; start = start; end = end; report = r }

abbrev pub step_of : Walked → StepNumbers
step_of (Ok (Some m)) = step_with 1 m.start m.end (report_of m.report)
step_of (Ok None) = step_with 0 0 0 nothing_of
step_of (Err f) = step_with 0 0 0 (refused_of f)

abbrev pub rewriting_numbers : Rewriting → RewritingNumbers
rewriting_numbers (Ok n) = record { number = 0; length = n }
rewriting_numbers (Err f) = record { number = table_number f.number; length = 0 }

-- what closing found
abbrev pub closing_numbers : Closing → ClosingNumbers
closing_numbers (Ok c) = record { number = number_told c.fault; messages = c.messages; strays = c.strays }
closing_numbers (Err f) = record { number = table_number f.number; messages = 0; strays = 0 }

-- the number is that of opening's answer for the bytes b
pub data OpenedWith (b : List ℕ) (x : ℕ) : Type 0 where
  opened : (o : Opening) → OpenedAs b o → x ≡ opening_number o → OpenedWith b x

-- the numbers are those of closing's answer
pub data ClosedWith (b : List ℕ) (x : ClosingNumbers) : Type 0 where
  closed : (c : Closing) → ClosedAs b c → x ≡ closing_numbers c → ClosedWith b x

-- the numbers are those of the walk's answer from the position at in the bytes b; the lists are x before and x' after
pub data Stepped (b : List ℕ) (at : ℕ) (x x' : Lists) (y : StepNumbers) : Type 0 where
  stepped : (w : Walked) → Walks b at x x' w → y ≡ step_of w → Stepped b at x x' y

-- the numbers are those of the report of a message's bytes m, read with the service characters of an interchange that begins with h; 2 if these do not fit
pub data Checked (h m : List ℕ) (x x' : Lists) (y : ReportNumbers) : Type 0 where
  checked : (v : Service) (una : ℕ) (w : Report) → characters_of h ≡ Fit v una → Reported v m x x' w → y ≡ report_of w → Checked h m x x' y
  unfit : characters_of h ≡ Unfit → y ≡ refused_of (refusal numbers.Characters) → x' ≡ x → Checked h m x x' y

-- the numbers are those of the answer for the bytes b and this room, and the room is as that answer leaves it
pub record Rewritten (b : List ℕ) (x : RewritingNumbers) (o o' : List ℕ) : Type 0 where
  pub numbers : x ≡ rewriting_numbers (rewriting_of b (length o))
  pub room : o' ≡ room_after b o
