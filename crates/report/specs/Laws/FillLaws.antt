-- What an accepted message leaves in the lists: the rows, starts and totals of its reading, all of them. Assumes nothing.
use Rattle.std.specs.Prelude.{ℕ, suc, ◌≤◌, ◌≡◌, refl, List, [], ◌∷◌, map, length, take}
use Rattle.std.proofs.Common.{arith, sym, ◌∙◌, take_all}
use Rattle.std.proofs.Math.Path.{ap}
use Rattle.std.proofs.lemmas.List.{length-map}
use Rattle.service.specs.declared.Service.{Service}
use Rattle.segments.specs.SegmentList.{starts_of}
use Rattle.values.specs.Forms.Values.{amount_of}
use Rattle.lent.specs.Over.{over}
use Rattle.lent.specs.Lists.{Lists, lists}
use Rattle.listing.specs.Listing.{low16, low32, lists_after}
use Rattle.listing.specs.Laws.ListingLaws.{room, rows_low, starts_low}
use Rattle.chart.specs.Chart.{Placement}
use Rattle.chart.specs.Table.{Table}
use Rattle.chart.specs.Tags.{tags_of}
use Rattle.chart.specs.Laws.TagsLaws.{same_count}
use Rattle.chart.specs.Forms.Next.{next_row, rows_of}
use Rattle.kinds.specs.declared.Kind.{Kind}
use Rattle.kinds.specs.declared.Kind.TheVariants.{Paymul, Debmul}
use Rattle.kinds.specs.Kinds.{table_of}
use Rattle.paymul.specs.Table.{PAYMUL}
use Rattle.debmul.specs.Table.{DEBMUL}
use Rattle.chart.proofs.Guide.{rows_length}
use Rattle.message.specs.Segs.{segs_from, segs_of, those, MOA5, is}
use Rattle.message.specs.Rules.{worth, amount, totals_of}
use Rattle.message.specs.Kinds.{chart_for, order_count, totals_for}
use Rattle.interchange.specs.Answers.{Refusal}
use Rattle.report.specs.declared.Counts.{Counts}
use Rattle.report.specs.Answers.{Report, Accepted, Refused}
use Rattle.report.specs.Reported.{filled}
use Rattle.report.specs.Forms.Checks.{kind_at, listed_orders}
use Rattle.report.specs.Forms.Judging.{lists_of, lists_by}
use Rattle.report.specs.Laws.CountLaws.{rows_few, segs_times}
use Rattle.report.specs.Laws.TotalLaws.{own_moas}

-- the lists of each kind, with its table
module _ (v : Service) (m : List ℕ) (c : Counts) (x x' : Lists) where
  pub lists_with : (k : Kind) (t : Table) → t ≡ table_of k → (n : ℕ) → n ≡ listed_orders k c.orders → x' ≡ lists_after t v m c.segments n x → x' ≡ lists_of k v m c x
  unfolding lists_of
  lists_with k t e n q h = h ∙ rw (e, q) refl

  pub lists_order : (t : Table) → t ≡ PAYMUL → x' ≡ lists_after t v m c.segments c.orders x → x' ≡ lists_of Paymul v m c x
  lists_order t e h = lists_with Paymul t e c.orders refl h

  pub lists_advice : (t : Table) → t ≡ DEBMUL → x' ≡ lists_after t v m c.segments 0 x → x' ≡ lists_of Debmul v m c x
  lists_advice t e h = lists_with Debmul t e 0 refl h

  pub lists_kind : (k d : Kind) → k ≡ d → x' ≡ lists_of d v m c x → x' ≡ lists_of k v m c x
  lists_kind k d e h = h ∙ sym (ap (λ (i : Kind). lists_of i v m c x) e)

-- by the kind that the UNH names
pub lists_accepted : (v : Service) (m : List ℕ) (c : Counts) (x x' : Lists) (k : Kind) → k ≡ kind_at v m → x' ≡ lists_of k v m c x → x' ≡ lists_by v m (Accepted c) x
lists_accepted v m c x x' k q h = h ∙ ap (λ (i : Kind). lists_of i v m c x) q

-- a refusal changes no list
pub lists_refused : (v : Service) (m : List ℕ) (r : Report) (x : Lists) (f : Refusal) → r ≡ Refused f → x ≡ lists_by v m r x
lists_refused v m r x f e = sym (ap (λ (y : Report). lists_by v m y x) e)

segs_length : (v : Service) (m : List ℕ) (n : ℕ) (rs is : List ℕ) → length rs ≡ length is → length (segs_from v m n rs is) ≡ length rs
unfolding segs_from
segs_length v m n [] is e = refl
segs_length v m n (r ∷ rs) [] e = absurd (omega arith)
segs_length v m n (r ∷ rs) (i ∷ is) e = ap suc (segs_length v m (suc n) rs is (omega arith))

module _ (t : Table) (v : Service) (m : List ℕ) where
  pub rows_are : length (rows_of t (tags_of v m)) ≡ length (tags_of v m)
  rows_are = rows_length (next_row t) 0 (tags_of v m)

  rows_starts : length (rows_of t (tags_of v m)) ≡ length (starts_of v m)
  rows_starts = rows_are ∙ sym (same_count v m 0)

  pub placed_length : length (segs_of v m (rows_of t (tags_of v m))) ≡ length (tags_of v m)
  placed_length = segs_length v m 1 (rows_of t (tags_of v m)) (starts_of v m) rows_starts ∙ rows_are

module _ (v : Service) (m : List ℕ) where
  -- as many totals as orders
  pub totals_count : Placement (chart_for Paymul) (tags_of v m) (rows_of PAYMUL (tags_of v m)) → length (totals_of (segs_of v m (rows_of PAYMUL (tags_of v m)))) ≡ order_count Paymul (segs_of v m (rows_of PAYMUL (tags_of v m)))
  totals_count p =
      length-map (those (is MOA5) (segs_of v m (rows_of PAYMUL (tags_of v m)))) (λ s. worth (amount_of (amount s)))
      ∙ segs_times 23 v m 1 (rows_of PAYMUL (tags_of v m)) (starts_of v m) (rows_starts PAYMUL v m)
      ∙ own_moas (tags_of v m) (rows_of PAYMUL (tags_of v m)) p
      ∙ sym (segs_times 17 v m 1 (rows_of PAYMUL (tags_of v m)) (starts_of v m) (rows_starts PAYMUL v m))

  -- the first totals, as many as are written, are all of them
  all_totals : (c : Kind) → Placement (chart_for c) (tags_of v m) (rows_of (table_of c) (tags_of v m)) → (k : ℕ) → k ≡ listed_orders c (order_count c (segs_of v m (rows_of (table_of c) (tags_of v m))))
      → take k (totals_of (segs_of v m (rows_of (table_of c) (tags_of v m)))) ≡ totals_for c (segs_of v m (rows_of (table_of c) (tags_of v m)))
  all_totals Paymul p k e = let z = totals_count p in take_all k (totals_of (segs_of v m (rows_of PAYMUL (tags_of v m)))) (omega arith)
  all_totals Debmul p k e = rw e

  module _ (c : Kind) (n k : ℕ) (x : Lists) (e : n ≡ length (tags_of v m)) (a : n ≤ length x.rows) (b : n ≤ length x.starts) (d : k ≤ length x.totals) where
    abbrev rows : List ℕ
    rows = rows_of (table_of c) (tags_of v m)

    rows_over : over (take n (map low16 rows)) x.rows ≡ over rows x.rows
    rows_over =
        let z = rows_are (table_of c) v m in
        ap (λ (l : List ℕ). over (take n l) x.rows) (rows_low (table_of c) (rows_few c) 0 (tags_of v m))
        ∙ ap (λ (l : List ℕ). over l x.rows) (take_all n rows (omega arith))

    starts_over : length m ≤ 1048576 → over (take n (map low32 (starts_of v m))) x.starts ≡ over (starts_of v m) x.starts
    starts_over h =
        let z = same_count v m 0 in
        ap (λ (l : List ℕ). over (take n l) x.starts) (starts_low v m h)
        ∙ ap (λ (l : List ℕ). over l x.starts) (take_all n (starts_of v m) (omega arith))

    totals_over : Placement (chart_for c) (tags_of v m) rows → k ≡ listed_orders c (order_count c (segs_of v m rows)) → over (take k (totals_of (segs_of v m (take n rows)))) x.totals ≡ over (totals_for c (segs_of v m rows)) x.totals
    totals_over p f =
        let y = rows_are (table_of c) v m in
        ap (λ (l : List ℕ). over (take k (totals_of (segs_of v m l))) x.totals) (take_all n rows (omega arith))
        ∙ ap (λ (l : List ℕ). over l x.totals) (all_totals c p k f)

    -- all segments are listed, and all orders of a kind of which totals are written
    pub lists_over : length m ≤ 1048576 → Placement (chart_for c) (tags_of v m) rows → k ≡ listed_orders c (order_count c (segs_of v m rows)) → lists_after (table_of c) v m n k x ≡ filled c v m rows x
    lists_over h p f =
        let r = rows_over in
        let s = starts_over h in
        let t = totals_over p f in
        room (table_of c) v m n k x a b d ∙ (λ i. lists (r i) (s i) (t i))
