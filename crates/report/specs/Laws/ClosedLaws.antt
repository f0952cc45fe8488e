-- A closed message: its segments are all finished, the last of them is the UNT, and the tally counts what the chart places. Assumes nothing.
use Prim.Native.Nat.{ℕ, zero, suc, ◌+◌, ◌-◌, ◌≤◌}
use Rattle.std.proofs.Common.{arith, sym, ◌∙◌}
use Rattle.std.specs.Prelude.{◌≡◌, Bool, length, eqb}
use Rattle.std.proofs.Math.Path.{refl, ap}
use mathlib.Core.List.{List, [], ◌∷◌, ◌++◌}
use Rattle.std.proofs.Math.Bool.{true, false}
use borrow.Author.Tests.{eqb-true}
use Rattle.service.specs.declared.Service.{Service}
use Rattle.service.specs.Tests.{if}
use Rattle.segments.specs.declared.Segment.{Segment}
use Rattle.segments.specs.declared.Segment.TheVariants.{Finished, Unfinished, Nothing}
use Rattle.segments.specs.Forms.Segments.{segment_at}
use Rattle.segments.specs.Laws.SegmentsLaws.{lies, segment_nothing}
use Rattle.segments.specs.declared.Piece.{Piece}
use Rattle.segments.specs.declared.Piece.TheVariants.{Finished as finished}
use Rattle.segments.specs.SegmentList.{segments_from}
use Rattle.segments.specs.Laws.ListLaws.{list_nothing, list_finished, list_unfinished}
use Rattle.values.specs.Forms.Codes.{UNT, LIN, SEQ}
use Rattle.chart.specs.Tags.{tag_on, tags_from, tags_of}
use Rattle.chart.specs.Laws.TagsLaws.{tags_past, tags_finished}
use Rattle.tally.specs.Tallied.{one_if, tally_of}
use Rattle.values.specs.Text.{says}
use Rattle.values.specs.Numbers.{value_from}
use Rattle.interchange.specs.Messages.{tag_at, closed_at, ends_closed}
use Rattle.interchange.specs.Laws.TagLaws.{unt_code}
use Rattle.report.specs.Laws.CountLaws.{times}

-- the segments from byte i on are those of a closed message
pub record Closes (v : Service) (m : List ℕ) (i : ℕ) : Type 0 where
  pub before : List ℕ
  pub last : tags_from v m i ≡ before ++ (UNT ∷ [])
  pub segments : (tally_of v m (segments_from v m i)).segments ≡ length (tags_from v m i)
  pub orders : (tally_of v m (segments_from v m i)).orders ≡ times LIN (tags_from v m i)
  pub payments : (tally_of v m (segments_from v m i)).payments ≡ times SEQ (tags_from v m i)

one_more_lem : (b : Bool) (n : ℕ) → one_if b + n ≡ if b (suc n) n
one_more_lem true n = omega arith
one_more_lem false n = omega arith

module _ (v : Service) (m : List ℕ) where
  -- nothing is left
  tags_none : (i : ℕ) → length m ≤ i → segments_from v m i ≡ []
  tags_none i le = list_nothing v m i Nothing (segment_nothing v m i le) refl

  module _ (i t n : ℕ) (e : Finished t n ≡ segment_at v i m) where
    -- the UNT, which ends the bytes
    closes_last : tag_on v m i ≡ UNT → length m ≤ n → Closes v m i
    unfolding tally_of times
    closes_last g le =
        let p : tags_from v m i ≡ tag_on v m i ∷ [] = tags_finished v m i (Finished t n) e t n refl ∙ ap (λ (l : List ℕ). tag_on v m i ∷ l) (tags_past v m n le) in
        let q : segments_from v m i ≡ finished i t ∷ [] = list_finished v m i (Finished t n) e t n refl ∙ ap (λ (l : List Piece). finished i t ∷ l) (tags_none n le) in
        record {
          before = [];
          last = p ∙ ap (λ (x : ℕ). x ∷ []) g;
          segments = rw (p, q);
          orders = rw (p, q) (one_more_lem (eqb (tag_on v m i) LIN) 0);
          payments = rw (p, q) (one_more_lem (eqb (tag_on v m i) SEQ) 0);
        }

    -- another segment
    closes_more : Closes v m n → Closes v m i
    unfolding tally_of times
    closes_more c =
        let p = tags_finished v m i (Finished t n) e t n refl in
        let q = list_finished v m i (Finished t n) e t n refl in
        let x = c.segments in
        record {
          before = tag_on v m i ∷ c.before;
          last = p ∙ ap (λ (l : List ℕ). tag_on v m i ∷ l) c.last;
          segments = rw (p, q) (omega arith);
          orders = rw (p, q) (one_more_lem (eqb (tag_on v m i) LIN) _ ∙ rw c.orders);
          payments = rw (p, q) (one_more_lem (eqb (tag_on v m i) SEQ) _ ∙ rw c.payments);
        }

  never : (b : Bool) → b ≡ false → b ≡ true → ⊥
  never b p q = let z : ◌≡◌ {A = ℕ} 0 1 = nope in omega arith
    where
      nope : ◌≡◌ {A = ℕ} 0 1
      nope = cc

  by_kind : (f i : ℕ) → length m - i ≤ suc f → ((n : ℕ) → length m - n ≤ f → closed_at v m (length m) (segments_from v m n) ≡ true → Closes v m n) → (k : Segment) → k ≡ segment_at v i m → closed_at v m (length m) (segments_from v m i) ≡ true → Closes v m i
  unfolding closed_at tag_at
  by_kind f i h ih (Finished t n) e c = go (says (value_from v i m) "UNT") refl (ap (closed_at v m (length m)) (sym (list_finished v m i (Finished t n) e t n refl)) ∙ c)
    where
      go : (b : Bool) → says (value_from v i m) "UNT" ≡ b → if b (eqb (t + 1) (length m)) (closed_at v m (length m) (segments_from v m n)) ≡ true → Closes v m i
      go true g d = let w = lies v m i (Finished t n) e t n refl in let z = eqb-true (t + 1) (length m) d in closes_last i t n e (eqb-true (tag_on v m i) UNT (sym (unt_code (value_from v i m)) ∙ g)) (omega arith)
      go false g d = let w = lies v m i (Finished t n) e t n refl in closes_more i t n e (ih n (omega arith) d)
  by_kind f i h ih Unfinished e c = absurd (never false refl (ap (closed_at v m (length m)) (sym (list_unfinished v m i Unfinished e refl)) ∙ c))
  by_kind f i h ih Nothing e c = absurd (never false refl (ap (closed_at v m (length m)) (sym (list_nothing v m i Nothing e refl)) ∙ c))

  closes_in : (f i : ℕ) → length m - i ≤ f → closed_at v m (length m) (segments_from v m i) ≡ true → Closes v m i
  unfolding closed_at tag_at
  closes_in zero i h c = absurd (never false refl (ap (closed_at v m (length m)) (sym (tags_none i (omega arith))) ∙ c))
  closes_in (suc f) i h c = by_kind f i h (closes_in f) (segment_at v i m) refl c

  pub closes : ends_closed v m ≡ true → Closes v m 0
  closes c = closes_in (length m) 0 (omega arith) c

  -- of a closed message as many tags are placed as the tally counts segments, and so LIN and SEQ tags
  pub tags_counted : ends_closed v m ≡ true
      → ((tally_of v m (segments_from v m 0)).segments ≡ length (tags_of v m)) × ((tally_of v m (segments_from v m 0)).orders ≡ times LIN (tags_of v m)) × ((tally_of v m (segments_from v m 0)).payments ≡ times SEQ (tags_of v m))
  tags_counted c = let w = closes c in (w.segments, w.orders, w.payments)
