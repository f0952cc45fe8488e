-- The loop of put_lists, turn by turn. Assumes nothing.
use Prim.Native.Nat.{ℕ, zero, suc, ◌+◌, ◌-◌, ◌%◌, ◌≤◌, ◌<◌}
use native.Mathlib.Omega.{arith}
use mathlib.Core.Path.{◌≡◌, refl, sym, ap, ◌∙◌, subst}
use mathlib.Core.List.{List, [], ◌∷◌, map}
use lib.ListN.{length, take, drop, set, get_or, length-map}
use Rattle.service.specs.declared.Service.{Service}
use Rattle.segments.specs.declared.Piece.{Piece}
use Rattle.segments.specs.SegmentList.{start_of, segments_from, starts_from, starts_of}
use Rattle.lent.specs.Lists.{lists}
use Rattle.lent.specs.Forms.Kept.{Kept}
use Rattle.lent.specs.Laws.KeptLaws.{kept_start, kept_set}
use Rattle.lent.specs.Over.{over}
use Rattle.lent.specs.Forms.Written.{Written}
use Rattle.lent.specs.Laws.OverLaws.{written_start, written_set, written_all}
use Rattle.chart.specs.Table.{Table}
use Rattle.chart.specs.Tags.{tag_on, tags_from, tags_of}
use Rattle.chart.specs.Forms.Machine.{row_after}
use Rattle.chart.specs.Laws.CursorLaws.{tail_of, head_of, none_of}
use Rattle.chart.specs.Forms.Next.{next_row, rows_of}
use Rattle.chart.proofs.Guide.{rows_length, rows_after}
use Rattle.listing.specs.Listing.{low16, low32, lists_after}
use Rattle.listing.specs.Laws.ListingLaws.{room}
use Rattle.listing.specs.Forms.Steps.{SegmentPut, TotalPut}
use Rattle.listing.proofs.Totals.{Totals, totals_in, left_lt, totals_first, totals_next, totals_end, totals_last}

-- ---- one segment
pub segment_put : (i x k y z : ℕ) (r s : List ℕ) → y ≡ x % 65536 → z ≡ i % 4294967296 → SegmentPut i x k r (set r k y) s (set s k z)
segment_put i x k y z r s e f = record { rows = ap (set r k) e; starts = ap (set s k) f }

-- ---- the loop
abbrev rows_in : Table → Service → List ℕ → List ℕ
rows_in t v m = map low16 (rows_of t (tags_of v m))

abbrev starts_in : Service → List ℕ → List ℕ
starts_in v m = map low32 (starts_of v m)

-- k of n segments and j of at most o totals are listed and these are left: rows, starts and totals were r₀, s₀ and l₀ and are r, s and l
pub record Listing (t : Table) (v : Service) (m : List ℕ) (n o k j row : ℕ) (ps : List Piece) (r₀ r s₀ s l₀ l : List ℕ) : Type 0 where
  pub left : drop k (starts_of v m) ≡ map start_of ps
  pub before : row ≡ row_after (next_row t) 0 (tags_of v m) k
  pub some : k ≤ n
  pub rows : Written k (rows_in t v m) r₀ r
  pub starts : Written k (starts_in v m) s₀ s
  pub totals : Totals t v m n (n - k) o j row (map start_of ps) l₀ l
  pub kept_rows : Kept n r₀ r
  pub kept_starts : Kept n s₀ s

pub listing_first : (t : Table) (v : Service) (m : List ℕ) (n o : ℕ) (r s l : List ℕ) → Listing t v m n o 0 0 0 (segments_from v m 0) r r s s l l
unfolding row_after starts_from
listing_first t v m n o r s l = record {
  left = refl;
  before = refl;
  some = omega arith;
  rows = written_start _ r;
  starts = written_start _ s;
  totals = let all : n ≡ n - 0 = omega arith in subst (λ (k : ℕ). Totals t v m n k o 0 0 (starts_of v m) l l) all (totals_first t v m n o l);
  kept_rows = kept_start n r;
  kept_starts = kept_start n s;
}

map_at : (f : ℕ → ℕ) (l : List ℕ) (k d : ℕ) → k < length l → get_or (map f l) k d ≡ f (get_or l k 0)
map_at f [] k d h = absurd (omega arith)
map_at f (x ∷ l) zero d h = refl
map_at f (x ∷ l) (suc k) d h = map_at f l k d (omega arith)

module _ (t : Table) (v : Service) (m : List ℕ) (n o k j row : ℕ) (ps : List Piece) (r₀ r s₀ s l₀ l : List ℕ) (h : Listing t v m n o k j row ps r₀ r s₀ s l₀ l) (a : n ≤ length r₀) (b : n ≤ length s₀) (g : o ≤ length l₀) where
  many_tags : length (tags_of v m) ≡ length (starts_of v m)
  unfolding tags_from
  many_tags = length-map (starts_of v m) (tag_on v m)

  many_rows : length (rows_in t v m) ≡ length (starts_of v m)
  many_rows = length-map (rows_of t (tags_of v m)) low16 ∙ rows_length (next_row t) 0 (tags_of v m) ∙ many_tags

  many_starts : length (starts_in v m) ≡ length (starts_of v m)
  many_starts = length-map (starts_of v m) low32

  -- room for the totals
  pub listing_room_totals : o ≤ length l
  listing_room_totals = let e = h.totals.kept.long in omega arith

  -- one more segment
  module _ (some : k < n) where
    pub listing_room_rows : (k₀ : ℕ) → k₀ ≡ k → k₀ < length r
    listing_room_rows k₀ q = let e = h.kept_rows.long in omega arith

    pub listing_room_starts : (k₀ : ℕ) → k₀ ≡ k → k₀ < length s
    listing_room_starts k₀ q = let e = h.kept_starts.long in omega arith

    module _ (p : Piece) (qs : List Piece) (e : ps ≡ p ∷ qs) (i : ℕ) (ei : i ≡ start_of p) where
      here : drop k (starts_of v m) ≡ i ∷ map start_of qs
      here = h.left ∙ ap (map start_of) e ∙ ap (λ (x : ℕ). x ∷ map start_of qs) (sym ei)

      there : k < length (starts_of v m)
      there = left_lt _ k _ _ here

      tag_here : get_or (tags_of v m) k 0 ≡ tag_on v m i
      unfolding tags_from
      tag_here = map_at (tag_on v m) (starts_of v m) k 0 there ∙ ap (tag_on v m) (head_of _ k _ 0 _ here)

      module _ (y : ℕ) (ey : y ≡ tag_on v m i) (x : ℕ) (ex : x ≡ next_row t row y) where
        onward : x ≡ next_row t row (tag_on v m i)
        onward = ex ∙ ap (next_row t row) ey

        after : x ≡ row_after (next_row t) 0 (tags_of v m) (suc k)
        unfolding row_after
        after = onward ∙ rw (h.before, tag_here) refl

        row_is : x ≡ get_or (rows_of t (tags_of v m)) k 0
        row_is = after ∙ rows_after (next_row t) 0 (tags_of v m) k (let z = many_tags in let w = there in omega arith)

        pub listing_next : (k₀ k' : ℕ) → k₀ ≡ k → k' ≡ k + 1 → (r' s' l' : List ℕ) (j' : ℕ) → SegmentPut i x k₀ r r' s s' → TotalPut v m i x j o l l' j' → Listing t v m n o k' j' x qs r₀ r' s₀ s' l₀ l'
        listing_next k₀ k' ek past r' s' l' j' f q =
            let w = there in
            let d = many_rows in
            let d' = many_starts in
            let u = rows_length (next_row t) 0 (tags_of v m) ∙ many_tags in
            let more : n - k ≡ suc (n - (k + 1)) = omega arith in
            let is : map start_of ps ≡ i ∷ map start_of qs = sym h.left ∙ here in
            rw (f.rows, f.starts, ek, past) (record {
              left = tail_of _ k _ _ here;
              before = after ∙ ap (row_after (next_row t) 0 (tags_of v m)) (omega arith);
              some = omega arith;
              rows = written_set k _ r₀ r h.rows _ (omega arith) (omega arith)
                  (ap low16 row_is ∙ sym (map_at low16 (rows_of t (tags_of v m)) k 0 (omega arith)));
              starts = written_set k _ s₀ s h.starts _ (omega arith) (omega arith)
                  (ap low32 (sym (head_of _ k _ 0 _ here)) ∙ sym (map_at low32 (starts_of v m) k 0 w));
              totals = totals_next t v m n (n - (k + 1)) o j row l₀ l g i (map start_of qs)
                  (subst (λ (z : List ℕ). Totals t v m n (suc (n - (k + 1))) o j row z l₀ l) is (subst (λ (z : ℕ). Totals t v m n z o j row (map start_of ps) l₀ l) more h.totals))
                  x onward l' j' q;
              kept_rows = kept_set n r₀ r h.kept_rows k some _;
              kept_starts = kept_set n s₀ s h.kept_starts k some _;
            })

  -- all three as they are asked for
  by_parts : r ≡ over (take n (rows_in t v m)) r₀ → s ≡ over (take n (starts_in v m)) s₀ → l ≡ over (take o (totals_in t v m n)) l₀ → lists r s l ≡ lists_after t v m n o (lists r₀ s₀ l₀)
  by_parts x y z = (λ h. lists (x h) (y h) (z h)) ∙ sym (room t v m n o (lists r₀ s₀ l₀) a b g)

  -- as many segments as asked for
  pub listing_last : n ≤ k → lists r s l ≡ lists_after t v m n o (lists r₀ s₀ l₀)
  listing_last le =
      let u = h.some in
      let all : k ≡ n = omega arith in
      by_parts (h.rows.is ∙ ap (λ (h : ℕ). over (take h (rows_in t v m)) r₀) all) (h.starts.is ∙ ap (λ (h : ℕ). over (take h (starts_in v m)) s₀) all)
      (totals_last t v m n (n - k) o j row l₀ l g (map start_of ps) h.totals (omega arith))

  -- no segment is left
  pub listing_end : ps ≡ [] → lists r s l ≡ lists_after t v m n o (lists r₀ s₀ l₀)
  listing_end e =
      let w = none_of (starts_of v m) k (ap length (h.left ∙ ap (map start_of) e)) in
      let y = many_rows in
      let y' = many_starts in
      by_parts (written_all k _ r₀ r h.rows n h.some (omega arith)).is (written_all k _ s₀ s h.starts n h.some (omega arith)).is
      (totals_end t v m n (n - k) o j row l₀ l g (map start_of ps) h.totals (ap (map start_of) e))

  -- `left` segments are still to be taken, and none is there
  pub listing_done : (left : ℕ) → left + k ≡ n → (0 < left → ps ≡ []) → lists r s l ≡ lists_after t v m n o (lists r₀ s₀ l₀)
  listing_done zero q f = listing_last (omega arith)
  listing_done (suc x) q f = listing_end (f (omega arith))
