-- Whether a message is closed, by the place of its first UNT that the tally has. Assumes nothing.
use Prim.Native.Nat.{ℕ, zero, suc, ◌+◌, ◌-◌, ◌≤◌, ◌<◌}
use Rattle.std.proofs.Common.{arith, sym, ◌∙◌, le-leb}
use Rattle.std.specs.Prelude.{◌≡◌, List, Bool, not, length, eqb, Option, None, Some}
use Rattle.std.proofs.Math.Path.{refl, ap, subst}
use Rattle.std.proofs.Math.Bool.{true, false}
use Rattle.service.specs.declared.Service.{Service}
use Rattle.service.specs.Tests.{if}
use Rattle.segments.specs.declared.Segment.{Segment}
use Rattle.segments.specs.declared.Segment.TheVariants.{Finished, Unfinished, Nothing}
use Rattle.segments.specs.Forms.Segments.{segment_at}
use Rattle.segments.specs.Laws.SegmentsLaws.{lies, segment_nothing}
use Rattle.segments.specs.SegmentList.{segments_from}
use Rattle.segments.specs.Laws.ListLaws.{list_nothing, list_finished, list_unfinished}
use Rattle.values.specs.Numbers.{value_from}
use Rattle.values.specs.Forms.Values.{code_of}
use Rattle.faults.specs.Firsts.{lesser, place_unless}
use Rattle.values.specs.Forms.Codes.{UNT}
use Rattle.tally.specs.Tallied.{tally_of}
use Rattle.interchange.specs.Laws.TagLaws.{unt_code}
use Rattle.interchange.specs.Messages.{tag_at, closed_at, ends_closed}
use Rattle.report.specs.Forms.Checks.{ends_by, ends_with}

-- not before i
abbrev From : ℕ → Option ℕ → Type 0
From i None = Unit {0}
From i (Some p) = i ≤ p

record Untied (v : Service) (m : List ℕ) (i : ℕ) : Type 0 where
  same : ends_with v m (tally_of v m (segments_from v m i)).unt ≡ closed_at v m (length m) (segments_from v m i)
  from : From i (tally_of v m (segments_from v m i)).unt

from_lower : (i n : ℕ) (f : Option ℕ) → i ≤ n → From n f → From i f
from_lower i n None h g = tt
from_lower i n (Some p) h g = omega arith

lesser_from : (i n : ℕ) (f : Option ℕ) → i < n → From n f → lesser (Some i) f ≡ Some i
unfolding lesser
lesser_from i n None h g = refl
lesser_from i n (Some p) h g = let w : i ≤ p = omega arith in rw (le-leb i p w)

module _ (v : Service) (m : List ℕ) where
  module _ (i t n : ℕ) (e : Finished t n ≡ segment_at v i m) (u : Untied v m n) where
    more_by : (b : Bool) → eqb (code_of (value_from v i m)) UNT ≡ b → (f : Option ℕ) → f ≡ lesser (place_unless (not b) i) (tally_of v m (segments_from v m n)).unt
        → (ends_with v m f ≡ if b (eqb (t + 1) (length m)) (closed_at v m (length m) (segments_from v m n))) × From i f
    unfolding lesser
    more_by true g f q =
        let w = lies v m i (Finished t n) e t n refl in
        let z : f ≡ Some i = q ∙ lesser_from i n (tally_of v m (segments_from v m n)).unt (omega arith) u.from in
        (ap (ends_with v m) z ∙ ap (ends_by (length m)) (sym e), subst (From i) (sym z) (omega arith))
    more_by false g f q =
        let w = lies v m i (Finished t n) e t n refl in
        (ap (ends_with v m) q ∙ u.same, subst (From i) (sym q) (from_lower i n (tally_of v m (segments_from v m n)).unt (omega arith) u.from))

    more : Untied v m i
    unfolding tally_of closed_at tag_at
    more =
        let q = list_finished v m i (Finished t n) e t n refl in
        let w = more_by (eqb (code_of (value_from v i m)) UNT) refl (lesser (place_unless (not (eqb (code_of (value_from v i m)) UNT)) i) (tally_of v m (segments_from v m n)).unt) refl in
        record { same = rw (q, unt_code (value_from v i m)) w.0; from = rw q w.1 }

  by_kind : (f i : ℕ) → length m - i ≤ suc f → ((n : ℕ) → length m - n ≤ f → Untied v m n) → (k : Segment) → k ≡ segment_at v i m → Untied v m i
  unfolding tally_of closed_at tag_at lesser
  by_kind f i h ih (Finished t n) e = let w = lies v m i (Finished t n) e t n refl in more i t n e (ih n (omega arith))
  by_kind f i h ih Unfinished e = let q = list_unfinished v m i Unfinished e refl in record { same = rw q; from = rw q tt }
  by_kind f i h ih Nothing e = let q = list_nothing v m i Nothing e refl in record { same = rw q; from = rw q tt }

  untied_in : (f i : ℕ) → length m - i ≤ f → Untied v m i
  unfolding tally_of closed_at tag_at
  untied_in zero i h = let q = list_nothing v m i Nothing (segment_nothing v m i (omega arith)) refl in record { same = rw q; from = rw q tt }
  untied_in (suc f) i h = by_kind f i h (untied_in f) (segment_at v i m) refl

  -- what `is_closed` finds out is that the message is closed
  pub closed_is : ends_with v m (tally_of v m (segments_from v m 0)).unt ≡ ends_closed v m
  closed_is = (untied_in (length m) 0 (omega arith)).same
