-- Judging and listing apart: what a report says, and what is written where it accepts.
use Rattle.std.specs.Prelude.{ℕ, ◌≡◌, List, Ok, Err}
use Rattle.numbers.specs.Table.{table_number}
use Rattle.service.specs.declared.Service.{Service}
use Rattle.interchange.specs.Answers.{Refusal}
use Rattle.lent.specs.Lists.{Lists}
use Rattle.listing.specs.Listing.{lists_after}
use Rattle.chart.specs.Chart.{Reading}
use Rattle.chart.specs.Tags.{tags_of}
use Rattle.kinds.specs.declared.Kind.{Kind}
use Rattle.kinds.specs.Kinds.{table_of}
use Rattle.message.specs.Segs.{segs_of}
use Rattle.message.specs.Kinds.{chart_for}
use Rattle.report.specs.declared.Counts.{Counts}
use Rattle.report.specs.Answers.{Report}
use Rattle.report.specs.Answers.{Accepted, Refused}
use Rattle.report.specs.declared.Room as declared
use Rattle.report.specs.Reported.{Room, Of, Applies, Lowest, offset_of, counts_of}
use Rattle.report.specs.Forms.Checks.{kind_at, listed_orders}

-- how long lists are, by the program's numbers
abbrev pub room_by : declared.Room → Room
room_by x = record { rows = x.rows; starts = x.starts; totals = x.totals }

-- the report of a message with lists of this room, as `Reported` has it but for what is written (`report_by` of JudgeLaws)
pub data JudgedIn (v : Service) (m : List ℕ) (x : Room) : Report → Type 0 where
  accepts : (c : Counts) (k : Kind) → Of k v m → (rows : List ℕ) → Reading (chart_for k) (tags_of v m) rows → ((n s : ℕ) → Applies v m x n s → ⊥) → c ≡ counts_of k (segs_of v m rows) → JudgedIn v m x (Accepted c)
  refuses : (f : Refusal) → Lowest v m x (table_number f.number) f.segment → f.offset ≡ offset_of v m (table_number f.number) f.segment → JudgedIn v m x (Refused f)

-- the lists x after a message of a kind with such counts is listed
unfoldable pub lists_of : Kind → Service → List ℕ → Counts → Lists → Lists
lists_of k v m c x = lists_after (table_of k) v m c.segments (listed_orders k c.orders) x

-- and after a message with this report: "A refusal .. changes no list"
abbrev pub lists_by : Service → List ℕ → Report → Lists → Lists
lists_by v m (Ok c) x = lists_of (kind_at v m) v m c x
lists_by v m (Err f) x = x
