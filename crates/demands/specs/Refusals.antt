-- Demand 1: "A refusal gives one number of the table, a segment and an offset, and every buffer lent for output is then unchanged." For every call, with no premise:
-- that it answers at all is proved of each function where it stands, since none of them has a `requires`.
use Rattle.std.specs.Prelude.{ℕ, suc, ◌≤◌, ◌<◌, ◌≡◌, ◌⊎◌, List, [], ◌∷◌, true, length, drop, Err}
use Rattle.numbers.specs.Table.{table_number}
use Rattle.service.specs.declared.Service.{Service}
use Rattle.service.specs.Service.{Fit, among, characters_of}
use Rattle.segments.specs.SegmentList.{segments_from, start_at, end_at}
use Rattle.interchange.specs.Answers.{Refusal}
use Rattle.interchange.specs.Answers as o
use Rattle.interchange.specs.Answers.{Closing}
use Rattle.interchange.specs.Opened.{OpenedAs}
use Rattle.interchange.specs.Closed.{ClosedAs}
use Rattle.lent.specs.Lists.{Lists}
use Rattle.report.specs.declared.Counts.{Counts}
use Rattle.report.specs.Answers as report
use Rattle.report.specs.Reported.{Reported}
use Rattle.walk.specs.Steps as walked
use Rattle.report.specs.Judged.{Judged}
use Rattle.walk.specs.Walks.{between, Walks, Judges}
use Rattle.rewrite.specs.Answers as w
use Rattle.rewrite.specs.Plain.{rewriting_of, room_after}
use Rattle.twineherald.specs.declared.ReportNumbers.{ReportNumbers}
use Rattle.twineherald.specs.declared.StepNumbers.{StepNumbers}
use Rattle.twineherald.specs.declared.RewritingNumbers.{RewritingNumbers}
use Rattle.twineherald.specs.declared.ClosingNumbers.{ClosingNumbers}
use Rattle.twineherald.specs.Numbers.{closing_numbers, OpenedWith, ClosedWith, Stepped, Checked, Rewritten}
use Rattle.twineherald.specs.Several.{numbers_of, Answered, SteppedEach}

-- ---- the table's numbers by the call that gives them
-- "Numbers 1 to 4 are found in that order by opening"
abbrev pub by_opening : List ℕ
by_opening = 1 ∷ 2 ∷ 3 ∷ 4 ∷ []

-- "walking checks 1, 2, 8, 4, then the message"
abbrev pub by_walking : List ℕ
by_walking = 1 ∷ 2 ∷ 8 ∷ 4 ∷ []

-- "Closing and rewriting give 1 to 4 first, as opening does"; 9; 5 to 7
abbrev pub by_rewriting : List ℕ
by_rewriting = 1 ∷ 2 ∷ 3 ∷ 4 ∷ 9 ∷ []

abbrev pub by_closing : List ℕ
by_closing = 1 ∷ 2 ∷ 3 ∷ 4 ∷ 5 ∷ 6 ∷ 7 ∷ []

-- of a message: those at a segment that its rule names
abbrev pub by_segment : List ℕ
by_segment = 16 ∷ 17 ∷ 18 ∷ 20 ∷ 21 ∷ 22 ∷ 23 ∷ 24 ∷ 25 ∷ 26 ∷ 27 ∷ 28 ∷ 29 ∷ 30 ∷ 31 ∷ []

-- a number of the table, a segment and an offset
pub record Given : Type 0 where
  pub number : ℕ
  pub segment : ℕ
  pub offset : ℕ

-- what a refusal gives
abbrev pub given_by : Refusal → Given
given_by f = record { number = table_number f.number; segment = f.segment; offset = f.offset }

-- ---- the table's last column
-- "0, 0": one of these numbers, and no place
pub record Nowhere (numbers : List ℕ) (f : Given) : Type 0 where
  pub number : among f.number numbers ≡ true
  pub segment : f.segment ≡ 0
  pub offset : f.offset ≡ 0

-- a segment of the message, "UNH is 1", k others before it
pub record SegmentOf (v : Service) (m : List ℕ) (f : Given) (k : ℕ) : Type 0 where
  pub segment : f.segment ≡ suc k
  pub some : k < length (segments_from v m 0)

-- the refusal of a message's bytes m, row by row
pub data Tabled (v : Service) (m : List ℕ) (f : Given) : Type 0 where
  -- 1, 2, 14: "0, 0"
  nowhere : Nowhere (1 ∷ 2 ∷ 14 ∷ []) f → Tabled v m f
  -- 10: "its segment, that byte"
  byte : (k : ℕ) → f.number ≡ 10 → SegmentOf v m f k → start_at v m k ≤ f.offset → f.offset < end_at v m k → Tabled v m f
  -- 11, 12: "1, 0"
  head : among f.number (11 ∷ 12 ∷ []) ≡ true → f.segment ≡ 1 → f.offset ≡ 0 → Tabled v m f
  -- 13: "the 10,000th"
  last : f.number ≡ 13 → SegmentOf v m f 9999 → f.offset ≡ start_at v m 9999 → Tabled v m f
  -- 16 to 18, 20 to 31: the segment that the row names, and where it begins
  segment : (k : ℕ) → among f.number by_segment ≡ true → SegmentOf v m f k → f.offset ≡ start_at v m k → Tabled v m f

-- the same, read by the service characters of an interchange that begins with h
pub record TabledIn (h m : List ℕ) (f : Given) : Type 0 where
  pub characters : Service
  pub una : ℕ
  pub fit : characters_of h ≡ Fit characters una
  pub tabled : Tabled characters m f

-- "entries beyond these keep their content"
pub record Beyond (c : Counts) (x x' : Lists) : Type 0 where
  pub rows : drop c.segments x'.rows ≡ drop c.segments x.rows
  pub starts : drop c.segments x'.starts ≡ drop c.segments x.starts
  pub totals : drop c.orders x'.totals ≡ drop c.orders x.totals

-- a refusal and counts as C receives them
abbrev pub refusal_in : ReportNumbers → Given
refusal_in y = record { number = y.number; segment = y.segment; offset = y.offset }

abbrev pub counts_in : ReportNumbers → Counts
counts_in y = record { segments = y.segments; orders = y.orders; payments = y.payments }

pub record Refusals : Type 0 where
  -- interchange: open and close are lent nothing for output; closing has number 0 if nothing is wrong
  pub opening : (s : List ℕ) (f : Refusal) → OpenedAs s (o.Refused f) → Nowhere by_opening (given_by f)
  pub closing : (s : List ℕ) (c : Closing) → ClosedAs s c → among (closing_numbers c).number (0 ∷ by_closing) ≡ true
  -- "1 to 4 first, as opening does"
  pub closing_refused : (s : List ℕ) (f : Refusal) → ClosedAs s (Err f) → Nowhere by_opening (given_by f)
  -- report: check
  pub checking : (v : Service) (m : List ℕ) (x x' : Lists) (f : Refusal) → Reported v m x x' (report.Refused f) → Tabled v m (given_by f) × (x' ≡ x)
  pub check_beyond : (v : Service) (m : List ℕ) (x x' : Lists) (c : Counts) → Reported v m x x' (report.Accepted c) → Beyond c x x'
  -- judging, as if every list were long enough
  pub judging : (v : Service) (m : List ℕ) (f : Refusal) → Judged v m (report.Refused f) → Tabled v m (given_by f)
  -- walk: refused itself, or the found message is
  pub walking : (b : List ℕ) (at : ℕ) (x x' : Lists) (f : Refusal) → Walks b at x x' (walked.Refused f) → Nowhere by_walking (given_by f) × (x' ≡ x)
  pub walk_none : (b : List ℕ) (at : ℕ) (x x' : Lists) → Walks b at x x' walked.Nothing → x' ≡ x
  pub walk_message : (b : List ℕ) (at a e : ℕ) (x x' : Lists) (f : Refusal) → Walks b at x x' (walked.Message a e (report.Refused f)) → TabledIn b (between b a e) (given_by f) × (x' ≡ x)
  pub walk_beyond : (b : List ℕ) (at a e : ℕ) (x x' : Lists) (c : Counts) → Walks b at x x' (walked.Message a e (report.Accepted c)) → Beyond c x x'
  pub walk_judging : (b : List ℕ) (at : ℕ) (f : Refusal) → Judges b at (walked.Refused f) → Nowhere by_walking (given_by f)
  pub judge_message : (b : List ℕ) (at a e : ℕ) (f : Refusal) → Judges b at (walked.Message a e (report.Refused f)) → TabledIn b (between b a e) (given_by f)
  -- rewrite
  pub rewriting : (s o : List ℕ) (f : Refusal) → rewriting_of s (length o) ≡ w.Refused f → Nowhere by_rewriting (given_by f) × (room_after s o ≡ o)
  pub rewrite_beyond : (s o : List ℕ) (n : ℕ) → rewriting_of s (length o) ≡ w.Written n → drop n (room_after s o) ≡ drop n o
  -- the six calls for C, in which number 0 is no refusal; of the walk from several positions the call's own refusal, and each answer
  pub c_open : (b : List ℕ) (x : ℕ) → OpenedWith b x → among x (0 ∷ by_opening) ≡ true
  pub c_close : (b : List ℕ) (y : ClosingNumbers) → ClosedWith b y → among y.number (0 ∷ by_closing) ≡ true
  pub c_check : (h m : List ℕ) (x x' : Lists) (y : ReportNumbers) → Checked h m x x' y → (y.number ≡ 0 → ⊥)
      → (Nowhere (2 ∷ []) (refusal_in y) ⊎ TabledIn h m (refusal_in y)) × (x' ≡ x)
  pub c_walk : (b : List ℕ) (at : ℕ) (x x' : Lists) (y : StepNumbers) → Stepped b at x x' y → (y.report.number ≡ 0 → ⊥)
      → (Nowhere by_walking (refusal_in y.report) ⊎ TabledIn b (between b y.start y.end) (refusal_in y.report)) × (x' ≡ x)
  pub c_walk_each : (b ps : List ℕ) (a a' : List (List ℕ)) (x : ℕ) → SteppedEach b ps a a' x → (x ≡ 0 → ⊥) → (x ≡ 14) × (a' ≡ a)
  pub c_answer : (b : List ℕ) (at : ℕ) (y : StepNumbers) → Answered b at (numbers_of y) → (y.report.number ≡ 0 → ⊥)
      → Nowhere by_walking (refusal_in y.report) ⊎ TabledIn b (between b y.start y.end) (refusal_in y.report)
  pub c_rewrite : (b o o' : List ℕ) (y : RewritingNumbers) → Rewritten b y o o' → (y.number ≡ 0 → ⊥) → (among y.number by_rewriting ≡ true) × (o' ≡ o)
  -- past the counts that C receives, which are 0 of a refusal, and past the length, nothing is changed
  pub c_check_beyond : (h m : List ℕ) (x x' : Lists) (y : ReportNumbers) → Checked h m x x' y → Beyond (counts_in y) x x'
  pub c_walk_beyond : (b : List ℕ) (at : ℕ) (x x' : Lists) (y : StepNumbers) → Stepped b at x x' y → Beyond (counts_in y.report) x x'
  pub c_rewrite_beyond : (b o o' : List ℕ) (y : RewritingNumbers) → Rewritten b y o o' → drop y.length o' ≡ drop y.length o
