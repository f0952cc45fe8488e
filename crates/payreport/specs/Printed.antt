-- The lines that the report program prints, as document 01, "Cases", says.
use Rattle.std.specs.Prelude.{ℕ, ◌+◌, ◌≤◌, ◌<◌, ◌≡◌, List, [], ◌++◌, length, take, Ok, Err}
use Rattle.std.specs.declared.option.Option.{Option}
use Rattle.std.specs.Io.KnownBytes.{Appends}
use Rattle.service.specs.declared.Service.{Service}
use Rattle.interchange.specs.Answers.{Refusal}
use Rattle.interchange.specs.Answers as opening
use Rattle.interchange.specs.declared.Closing.{Closing}
use Rattle.numbers.specs.Table.{table_number, number_told}
use Rattle.interchange.specs.Opened.{OpenedAs}
use Rattle.interchange.specs.Closed.{ClosedAs}
use Rattle.lent.specs.Lists.{Lists}
use Rattle.lines.specs.Lines.{message_line, end_line, open_line}
use Rattle.report.specs.Answers.{Report}
use Rattle.walk.specs.Steps as walked
use Rattle.walk.specs.Frame.{message, step_from}
use Rattle.walk.specs.Walks.{Walks}

-- what a report adds to the number of accepted messages
abbrev pub accepts : Report → ℕ
accepts (Ok c) = 1
accepts (Err f) = 0

-- "reads standard input (at most 32,768 bytes ..)": it is so short, and it opens
pub record Opened (s : List ℕ) : Type 0 where
  pub characters : Service
  pub first : ℕ
  pub short : length s ≤ 32768
  pub opens : OpenedAs s (opening.Opens characters first)

-- the walk "with lists for 2,000 segments and 400 orders", whatever they hold
pub record WalksAt (s : List ℕ) (at : ℕ) (w : walked.Walked) : Type 0 where
  pub lent : Lists
  pub left : Lists
  pub rows : length lent.rows ≡ 2000
  pub starts : length lent.starts ≡ 2000
  pub totals : length lent.totals ≡ 400
  pub walked : Walks s at lent left w

-- "with lists for 2,000 segments and 400 orders": what the walk tells of the next message from a position on, which ends before e
pub data Judged (s : List ℕ) (at e : ℕ) (told : Report) : Type 0 where
  judged : (a : ℕ) (x x' : Lists) → length x.rows ≡ 2000 → length x.starts ≡ 2000 → length x.totals ≡ 400 → Walks s at x x' (walked.Message a e told) → Judged s at e told

-- the walk from 0: the position after so many messages, of which so many were accepted
pub data Visited (s : List ℕ) : ℕ → ℕ → ℕ → Type 0 where
  start : Visited s 0 0 0
  next : (at n k e : ℕ) (told : Report) → Visited s at n k → Judged s at e told → Visited s e (n + 1) (k + accepts told)

-- so many messages of the whole walk were accepted
pub record AcceptedOf (s : List ℕ) (k : ℕ) : Type 0 where
  pub at : ℕ
  pub messages : ℕ
  pub visited : Visited s at messages k
  pub last : (a e : ℕ) → message a e ≡ step_from s at → ⊥

-- the lines of the report on s
pub data LineOf (s : List ℕ) : List ℕ → Type 0 where
  -- "at most 32,768 bytes, beyond which it prints `OPEN NO 1`"
  long : 32768 < length s → LineOf s (open_line 1)
  -- "A failed opening prints only `OPEN NO` and its number."
  unopened : (f : Refusal) → length s ≤ 32768 → OpenedAs s (opening.Refused f) → LineOf s (open_line (table_number f.number))
  -- "MSG: place, .."
  told : (at n k e : ℕ) (r : Report) → Opened s → Visited s at n k → Judged s at e r → LineOf s (message_line (n + 1) r)
  -- "END: messages, accepted, strays, closing number (0 for none)."
  end : (k : ℕ) (c : Closing) → Opened s → AcceptedOf s k → ClosedAs s (Ok c) → LineOf s (end_line c.messages k c.strays (number_told c.fault))

-- a call that makes a line in a room of 128 bytes: what it leaves at the front is a line of the report on s
abbrev pub MakesLine : List ℕ → (List ℕ → ℕ → List ℕ → Type 0) → Type 0
MakesLine s made = (old : List ℕ) (n : ℕ) (new : List ℕ) → length old ≡ 128 → made old n new → (n ≤ length new) × LineOf s (take n new)

-- what a writer holds grew by the line that such a call made
pub record TookLine (made : List ℕ → ℕ → List ℕ → Type 0) (u v : Option (List ℕ)) : Type 0 where
  pub old : List ℕ
  pub answer : ℕ
  pub new : List ℕ
  pub room : length old ≡ 128
  pub by : made old answer new
  pub written : Appends u v (take answer new)

-- the lines of the messages that the walk visits, each once and in its order, up to a position: so many messages, of which so many were accepted
pub data Told (s : List ℕ) : ℕ → ℕ → ℕ → List ℕ → Type 0 where
  told_none : Told s 0 0 0 []
  told_more : (at n k e : ℕ) (r : Report) (l : List ℕ) → Told s at n k l → Judged s at e r → Told s e (n + 1) (k + accepts r) (l ++ message_line (n + 1) r)

-- the lines of all messages, of which so many were accepted
pub record ToldAll (s : List ℕ) (k : ℕ) (l : List ℕ) : Type 0 where
  pub at : ℕ
  pub messages : ℕ
  pub visited : Told s at messages k l
  pub last : (a e : ℕ) → message a e ≡ step_from s at → ⊥

-- the whole report on s: these lines and nothing else
pub data ReportOf (s : List ℕ) : List ℕ → Type 0 where
  long_alone : 32768 < length s → ReportOf s (open_line 1)
  unopened_alone : (f : Refusal) → length s ≤ 32768 → OpenedAs s (opening.Refused f) → ReportOf s (open_line (table_number f.number))
  messages_end : (k : ℕ) (l : List ℕ) (c : Closing) → Opened s → ToldAll s k l → ClosedAs s (Ok c) → ReportOf s (l ++ end_line c.messages k c.strays (number_told c.fault))

-- what a writer holds grew by the lines of all messages
pub record Tells (s : List ℕ) (k : ℕ) (old new : Option (List ℕ)) : Type 0 where
  pub lines : List ℕ
  pub all : ToldAll s k lines
  pub written : Appends old new lines

-- what a writer holds grew by the report on s
pub record Reported (s : List ℕ) (old new : Option (List ℕ)) : Type 0 where
  pub lines : List ℕ
  pub report : ReportOf s lines
  pub written : Appends old new lines
