-- "A message keeps its refusal number and segment (offsets may move)": what is told of a message, its offsets aside.
use Rattle.std.specs.Prelude.{ℕ, ◌≡◌, List, [], ◌∷◌, map, Ok, Err}
use Rattle.numbers.specs.Table.{table_number}
use Rattle.service.specs.declared.Service.{Service}
use Rattle.service.specs.Service.{plain_service}
use Rattle.interchange.specs.Messages.{Extent, starts_at, ends_at, messages_of}
use Rattle.interchange.specs.Envelope.{body_of}
use Rattle.lent.specs.Lists.{Lists, Left}
use Rattle.report.specs.declared.Counts.{Counts}
use Rattle.report.specs.Answers.{Report}
use Rattle.rewrite.specs.Plain.{rewritten}
use Rattle.walk.specs.Steps.{Message}
use Rattle.walk.specs.Walks.{Walks}
use Rattle.demands.specs.Runs.{Visit, Run}

-- acceptance with the counts, the rows and the totals as the lists hold them; or a refusal's number and segment
pub data Verdict : Type 0 where
  accepted : (counts : Counts) (rows totals : List ℕ) → Verdict
  refused : (number segment : ℕ) → Verdict

abbrev pub verdict_by : Report → List ℕ → List ℕ → Verdict
verdict_by (Ok c) rows totals = accepted c rows totals
verdict_by (Err f) rows totals = refused (table_number f.number) f.segment

abbrev pub verdict_of : Left Report → Verdict
verdict_of g = verdict_by g.answer g.lists.rows g.lists.totals

-- two whole walks with lists of the same content, over an interchange and over its plain bytes: as many messages, and the same verdicts in the same order
abbrev pub SameVerdicts : List ℕ → Type 0
SameVerdicts s =
    (x : Lists) (l l' : List Visit) → Run s x 0 l → Run (rewritten s) x 0 l' → map (λ (w : Visit). verdict_of w.given) l ≡ map (λ (w : Visit). verdict_of w.given) l'

-- and call by call: a call that finds the message m of s, and one that finds the message m' of its plain bytes, from whatever position
abbrev pub SameVerdict : List ℕ → Extent → Extent → Type 0
SameVerdict s m m' =
    (x : Lists) (at at' : ℕ) (g g' : Left Report) → Walks s at x g.lists (Message (starts_at m) (ends_at m) g.answer)
    → Walks (rewritten s) at' x g'.lists (Message (starts_at m') (ends_at m') g'.answer) → verdict_of g ≡ verdict_of g'

pub data EachVerdict (s : List ℕ) : List Extent → List Extent → Type 0 where
  none : EachVerdict s [] []
  also : (m m' : Extent) (l l' : List Extent) → SameVerdict s m m' → EachVerdict s l l' → EachVerdict s (m ∷ l) (m' ∷ l')

-- "A message keeps its refusal number and segment"
pub record Keeps (s : List ℕ) (v : Service) (first : ℕ) : Type 0 where
  pub walks : SameVerdicts s
  pub each : EachVerdict s (messages_of v s (body_of v s first)) (messages_of plain_service (rewritten s) (body_of plain_service (rewritten s) 0))
