-- Demand 2: "A message is accepted exactly if the lists are long enough, some placement of its segments on the published chart keeps each limit and requirement,
-- and every rule of document 01 holds. Counts, rows, starts and totals come from that placement."
use Rattle.std.specs.Prelude.{ℕ, ◌≡◌, List, [], true, false}
use Rattle.service.specs.declared.Service.{Service}
use Rattle.values.specs.Exactly.{Exactly}
use Rattle.lent.specs.Lists.{Lists, left}
use Rattle.chart.specs.Chart.{Placement}
use Rattle.chart.specs.Tags.{tags_of}
use Rattle.kinds.specs.declared.Kind.{Kind}
use Rattle.message.specs.Segs.{segs_of}
use Rattle.message.specs.Kinds.{means, chart_for, rules_for}
use Rattle.message.specs.Faults.{told, tell_all}
use Rattle.report.specs.declared.Counts.{Counts}
use Rattle.report.specs.Answers.{Report, Accepted}
use Rattle.report.specs.Reported.{bare_of, Room, room_of, fits, early, In, Of, counts_of, filled, Reported}

-- the message m in lists of this room
pub record Meets (v : Service) (m : List ℕ) (x : Room) : Type 0 where
  -- it is of one of the kinds: "Demands 2 and 3 now read a message by the type in its UNH"
  pub kind : Kind
  pub of : Of kind v m
  -- "the lists are long enough": as many rows and starts as segments, as many totals as LIN tags where totals are written
  pub long : fits (bare_of v m).segments x ≡ true
  -- "some placement of its segments on the published chart", that of its kind, "keeps each limit and requirement"
  pub rows : List ℕ
  pub placement : Placement (chart_for kind) (tags_of v m) rows
  -- "every rule of document 01 holds": 1, 2 and 10 to 13 are not told of the bytes, 17 to 31 not of that placement
  pub bytes : (n s : ℕ) → In (told n s) (tell_all (early (bare_of v m) x)) → n ≡ 14
  pub rules : tell_all (rules_for kind (segs_of v m rows)) ≡ []

pub record Accepting : Type 0 where
  -- "accepted exactly if"
  pub exactly : (v : Service) (m : List ℕ) (x x' : Lists) (y : Report) → Reported v m x x' y → Exactly ((c : Counts) × (y ≡ Accepted c)) (Meets v m (room_of x))
  -- "Counts, rows, starts and totals come from that placement": whichever it is
  pub given : (v : Service) (m : List ℕ) (x x' : Lists) (y : Report) → Reported v m x x' y → (w : Meets v m (room_of x))
      → left y x' ≡ left (Accepted (counts_of w.kind (segs_of v m w.rows))) (filled w.kind v m w.rows x)
  -- and there is no other, nor another kind
  pub one : (k : Kind) (v : Service) (m rows rows' : List ℕ) → Placement (chart_for k) (tags_of v m) rows → Placement (chart_for k) (tags_of v m) rows' → rows ≡ rows'
  pub one_kind : (k k' : Kind) (v : Service) (m : List ℕ) → Of k v m → Of k' v m → k ≡ k'
  -- of an advice "no totals are written": the list of totals keeps its content
  pub no_totals : (k : Kind) (v : Service) (m : List ℕ) (x x' : Lists) (y : Report) → Of k v m → (means k).totals ≡ false → Reported v m x x' y → x'.totals ≡ x.totals
