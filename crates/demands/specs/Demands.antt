-- The three demands of document 01, in their order and words: each field is a demand, or a sentence of one, on the contracts of the calls. `met` of DemandsMet proves it.
use Rattle.std.specs.Prelude.{ℕ, ◌≤◌, ◌≡◌, ◌⊎◌, List, [], ◌∷◌, ◌++◌, true, length}
use Rattle.numbers.specs.Table.{table_number}
use Rattle.numbers.specs.declared.Number.TheVariants as numbers
use Rattle.service.specs.declared.Service.{Service}
use Rattle.values.specs.Exactly.{Exactly}
use Rattle.interchange.specs.Answers.{Refusal}
use Rattle.interchange.specs.Answers.{Refused}
use Rattle.interchange.specs.Messages.{Extent, closed, messages_of}
use Rattle.interchange.specs.Envelope.{refusal, body_of}
use Rattle.interchange.specs.Opened.{Opened, OpenedAs}
use Rattle.damage.specs.Damage.{last_closed, Stretch, Mark, next, hit, replaced, damaged, Within}
use Rattle.lent.specs.Lists.{Lists}
use Rattle.report.specs.declared.Counts.{Counts}
use Rattle.report.specs.Answers.{Report}
use Rattle.report.specs.Answers as report
use Rattle.report.specs.Reported.{Applies, Lowest, room_of, Reported}
use Rattle.rewrite.specs.Answers.{Written}
use Rattle.rewrite.specs.Plain.{values_of, rewritten, rewriting_of, room_after}
use Rattle.cases.specs.Cases.{Cases}
use Rattle.cases.specs.AdviceCases.{AdviceCases}
use Rattle.demands.specs.Answering.{Answering}
use Rattle.demands.specs.Refusals.{Refusals}
use Rattle.demands.specs.Accepting.{Accepting}
use Rattle.demands.specs.OtherMessages.{Chosen, Unharmed, One, only}
use Rattle.demands.specs.Predecessor.{Predecessor}
use Rattle.demands.specs.DamageCases.{DamageCases}
use Rattle.demands.specs.Verdicts.{Keeps}
use Rattle.demands.specs.OneAnswer.{OneAnswer}
use Rattle.demands.specs.Several.{Several}
use Rattle.demands.specs.WrongReaders.{WrongReaders}

pub record Demands : Type 0 where
  -- ---- demand 1: "Every call answers, for all bytes and all lent room": whatever is lent, there is an answer that meets the contract; that the call ends with it, and is safe,
  -- is proved of each function where it stands, and none has a `requires`
  pub answering : Answering
  -- "A refusal gives one number of the table, a segment and an offset, and every buffer lent for output is then unchanged": call by call
  pub refusals : Refusals
  -- ---- demand 2: "A message is accepted exactly if the lists are long enough, some placement .. keeps each limit and requirement, and every rule of document 01 holds.
  -- Counts, rows, starts and totals come from that placement."
  pub accepting : Accepting
  -- the same by the table: accepted exactly if no number applies
  pub accepted : (v : Service) (m : List ℕ) (x x' : Lists) (y : Report) → Reported v m x x' y → Exactly ((c : Counts) × (y ≡ report.Accepted c)) ((n k : ℕ) → Applies v m (room_of x) n k → ⊥)
  -- "Otherwise the refusal is the one document 01 fixes": exactly the lowest number that applies, and under it the first segment
  pub refused : (v : Service) (m : List ℕ) (x x' : Lists) (y : Report) → Reported v m x x' y → (n k : ℕ)
      → Exactly ((f : Refusal) × (y ≡ report.Refused f) × (table_number f.number ≡ n) × (f.segment ≡ k)) (Lowest v m (room_of x) n k)
  -- "Rewriting an interchange in plain service characters keeps each value, and rewriting twice changes nothing more": whenever it answers that n bytes are written
  pub values_kept : (s o : List ℕ) (n : ℕ) → rewriting_of s (length o) ≡ Written n → values_of (rewritten s) ≡ values_of s
  pub twice : (s o : List ℕ) (n : ℕ) → rewriting_of s (length o) ≡ Written n → (rewriting_of (rewritten s) (length o) ≡ Written n) × (room_after (rewritten s) o ≡ room_after s o)
  -- "Equal values, trailing empties aside, exactly when equal rewritten bytes"
  pub equal_values : (s s' : List ℕ) → Exactly (values_of s ≡ values_of s') (rewritten s ≡ rewritten s')
  -- "A message keeps its refusal number and segment": an interchange that opens, and whose plain bytes are no more than an interchange may have
  pub rewriting : (s : List ℕ) (v : Service) (first : ℕ) → Opened s v first → length (rewritten s) ≤ 1048576 → Keeps s v first
  -- ---- demand 3: "Damage to one message, from its UNH up to but excluding the terminator before its UNT, leaves each other message found, in order, with the report
  -- of its own bytes."
  pub damage : (s : List ℕ) (v : Service) (first : ℕ) (before : List Extent) (a t z e : ℕ) (after : List Extent) → One s v first before a t z e after
      → (c : Stretch) → Within a t c → length (replaced s c) ≤ 1048576 → Unharmed v s (replaced s c) first (only before (hit c ∷ []) after)
  -- "if the replaced stretch reaches up to but excluding the terminator of the UNT itself, and the message is not the last, then every message from the second after it is still found and
  -- reported as by its own bytes, and so is every earlier one; the message directly after may be lost"
  pub reaching : (s : List ℕ) (v : Service) (first : ℕ) (before : List Extent) (a t z e : ℕ) (m : Extent) (after : List Extent) → One s v first before a t z e (m ∷ after)
      → (c : Stretch) → Within a z c → length (replaced s c) ≤ 1048576 → Unharmed v s (replaced s c) first (only before (hit c ∷ next ∷ []) after)
  -- "The first form also holds for several damaged messages at once, each with these premises", and so does the second: both of the above are special cases
  pub several : (s : List ℕ) (v : Service) (first : ℕ) (k : List Mark) → Chosen s v first k → Unharmed v s (damaged s k) first k
  -- "If the last message is hit this way the interchange may be refused by 4": so it is, or it opens as it did
  pub last_hit : (s : List ℕ) (v : Service) (first : ℕ) (before : List Extent) (a t z e : ℕ) → One s v first before a t z e [] → (c : Stretch) → Within a z c
      → length (replaced s c) ≤ 1048576 → Opened (replaced s c) v first ⊎ OpenedAs (replaced s c) (Refused (refusal numbers.End))
  -- all this of every message that has its own UNT, as has the one before it, if there is one; why that is asked of the one before; and small files
  pub any : (s : List ℕ) (v : Service) (first : ℕ) (before : List Extent) (a e : ℕ) (after : List Extent) → Opened s v first
      → messages_of v s (body_of v s first) ≡ before ++ (closed a e ∷ after) → last_closed true before ≡ true → (t z : ℕ) × One s v first before a t z e after
  pub predecessor : Predecessor
  pub damaged_files : DamageCases
  -- ---- "How firm the answers are": "no second answer satisfies it"; "These must not get through"; and "Cases": "twelve rows under a single statement", with W-202's
  pub one : OneAnswer
  pub wrong : WrongReaders
  pub cases : Cases
  -- and of the bank's advice
  pub advices : AdviceCases
  -- ---- W-203: several messages at once
  pub several_at_once : Several
