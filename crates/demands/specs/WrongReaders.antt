-- "These must not get through": the five wrong readers, each shut out by a theorem.
use Rattle.std.specs.Prelude.{ℕ, ◌≡◌, List, [], ◌∷◌, ◌++◌, replicate}
use Rattle.service.specs.Service.{plain_service}
use Rattle.values.specs.Text.{text}
use Rattle.interchange.specs.Answers.{Refusal}
use Rattle.lent.specs.Lists.{Lists, lists, Left}
use Rattle.report.specs.declared.Counts.{Counts}
use Rattle.report.specs.Answers.{Report, Accepted, Refused}
use Rattle.report.specs.Reported.{room_of, Reported}
use Rattle.cases.specs.MessageCases.{room, exchange, counted}
use Rattle.demands.specs.Runs.{Visit, Run}

-- a reader of messages: for a message's bytes and lent lists its answer, and the lists after it
abbrev pub Reader : Type 0
Reader = List ℕ → Lists → Left Report

-- one that meets the contract of check in plain service characters
abbrev pub Right : Reader → Type 0
Right r = (m : List ℕ) (x : Lists) → Reported plain_service m x (r m x).lists (r m x).answer

-- the message of row 9 and that of row 11 that hold, and that of row 9 that is refused
abbrev pub good : List ℕ
good = exchange "MOA+57:100:EUR'"

abbrev pub longer : List ℕ
longer = counted "SEQ++1'"

abbrev pub bad : List ℕ
bad = exchange "MOA+57:100:USD'"

-- lists that are long enough, and hold nothing yet
abbrev pub clear : Lists
clear = lists (replicate 30 0) (replicate 30 0) (replicate 2 0)

-- an interchange of a message that is accepted and one that is refused
abbrev pub two : List ℕ
two = text "UNB+UNOA:3+A+B+1:1+R'" ++ (good ++ (bad ++ text "UNZ+2+R'"))

abbrev pub counts : ℕ → ℕ → ℕ → Counts
counts n k p = record { segments = n; orders = k; payments = p }

pub record WrongReaders : Type 0 where
  -- there are right readers
  pub right : (r : Reader) × Right r
  -- "a reader that refuses all (shut out by 'exactly if' in demand 2)"
  pub refuses_all : (r : Reader) → Right r → ((m : List ℕ) (x : Lists) → (f : Refusal) × ((r m x).answer ≡ Refused f)) → ⊥
  -- "one fixed answer (totals and rows come from the bytes)": neither the answer nor what is written can be one
  pub fixed_answer : (r : Reader) → Right r → (y : Report) → ((m : List ℕ) (x : Lists) → (r m x).answer ≡ y) → ⊥
  pub fixed_rows : (r : Reader) → Right r → (l : List ℕ) → ((m : List ℕ) (x : Lists) → (r m x).lists.rows ≡ l) → ⊥
  pub fixed_totals : (r : Reader) → Right r → (l : List ℕ) → ((m : List ℕ) (x : Lists) → (r m x).lists.totals ≡ l) → ⊥
  -- "one that writes nothing into the lists (demand 2 covers all that is given back, rows, starts and totals too)"
  pub writes_no_rows : (r : Reader) → Right r → ((m : List ℕ) (x : Lists) → (r m x).lists.rows ≡ x.rows) → ⊥
  pub writes_no_starts : (r : Reader) → Right r → ((m : List ℕ) (x : Lists) → (r m x).lists.starts ≡ x.starts) → ⊥
  pub writes_no_totals : (r : Reader) → Right r → ((m : List ℕ) (x : Lists) → (r m x).lists.totals ≡ x.totals) → ⊥
  -- "a walk that reads message one and repeats its report (demand 3 is stated over each message's own bytes)"
  pub repeats : (x : Lists) → room_of x ≡ room → (w w' : Visit) → Run two x 0 (w ∷ w' ∷ []) → w.given.answer ≡ w'.given.answer → ⊥
  -- "invented counts (demand 2: segments, LIN and SEQ are counted in the placement)"
  pub counts_good : (x x' : Lists) (c : Counts) → Reported plain_service good x x' (Accepted c) → c ≡ counts 15 1 1
  pub counts_longer : (x x' : Lists) (c : Counts) → Reported plain_service longer x x' (Accepted c) → c ≡ counts 27 2 3
