-- The last segment is a finished UNZ exactly if it is one of those after a terminator with no release just before it. Assumes nothing.
use Rattle.std.specs.Prelude.{ℕ, Option, Some, None, ◌+◌, ◌-◌, ◌<◌, ◌≡◌, refl, List, [], ◌∷◌, ◌++◌, Bool, false, length, get_or, drop}
use Rattle.std.proofs.Common.{sym, ◌∙◌, ap, map-id}
use Rattle.service.specs.declared.Service.{Service}
use Rattle.service.specs.Tests.{last_of}
use Rattle.segments.specs.declared.Segment.{Segment}
use Rattle.segments.specs.declared.Segment.TheVariants as segment
use Rattle.segments.specs.Forms.Bytes.{past_breaks}
use Rattle.segments.specs.Forms.Segments.{segment_at}
use Rattle.segments.specs.declared.Piece.{Piece}
use Rattle.segments.specs.declared.Piece.TheVariants.{Finished as finished, Unfinished as unfinished}
use Rattle.segments.specs.SegmentList.{segments_from}
use Rattle.segments.specs.declared.Segments.{Segments}
use Rattle.segments.specs.Left.{segments_left, Steps}
use Rattle.segments.specs.Laws.ReaderLaws.{listed}
use Rattle.std.specs.Iterator.{Drains}
use Rattle.std.specs.List.{last_or}
use Rattle.std.proofs.lemmas.Iterator.{items_from_drains}
use Rattle.segments.specs.Laws.SegmentsLaws.{something}
use Rattle.segments.specs.Laws.ListLaws.{list_finished, list_unfinished}
use Rattle.segments.specs.Laws.SplitLaws.{segments_split}
use Rattle.interchange.specs.Envelope.{is_unz, last_unz, ended}

-- the last segment of segments one after the other
pub last_append : (v : Service) (s : List ℕ) (b : Bool) (l : List Piece) (p : Piece) (r : List Piece) → last_unz v s b (l ++ (p ∷ r)) ≡ last_unz v s false (p ∷ r)
unfolding last_of
last_append v s b [] p r = refl
last_append v s b (q ∷ l) p r = last_append v s (is_unz v s q) l p r

module _ (v : Service) (s : List ℕ) where
  -- segments from a byte on, with others before them
  last_by : (b : Bool) (l : List Piece) (n : ℕ) → n < length s → (k : Segment) → k ≡ segment_at v n s → last_unz v s b (l ++ segments_from v s n) ≡ ended v s (segments_from v s n)
  last_by b l n h (segment.Finished t m) c = rw (list_finished v s n _ c t m refl) (last_append v s b l (finished n t) (segments_from v s m))
  last_by b l n h segment.Unfinished c = rw (list_unfinished v s n _ c refl) (last_append v s b l (unfinished n (length s)) [])
  last_by b l n h segment.Nothing c = absurd (something v s n h (sym c))

  pub near : (at i : ℕ) → at < i → i < length s → get_or s i 0 ≡ v.terminator → (get_or s (i - 1) 0 ≡ v.release → ⊥) → (n : ℕ) → n ≡ past_breaks (i + 1) (drop (i + 1) s) → n < length s
      → ended v s (segments_from v s at) ≡ ended v s (segments_from v s n)
  near at i h g t r n e w =
      let p = segments_split v s at i h g t r n e in
      ap (ended v s) p.1 ∙ last_by false p.0 n w (segment_at v n s) refl

-- ---- the last segment that a reader gives
abbrev told : Service → List ℕ → Option Piece → Bool
told v s None = false
told v s (Some p) = is_unz v s p

last_told : (v : Service) (s : List ℕ) (o : Option Piece) (l : List Piece) → told v s (last_or o l) ≡ last_unz v s (told v s o) l
unfolding last_of
last_told v s o [] = refl
last_told v s o (p ∷ l) = last_told v s (Some p) l

pub last_given : (v : Service) (s : List ℕ) (l : List Piece) (r : Segments) → segments_left r ≡ l → (o : Option Piece) → ((xs : List Piece) × Drains Steps r xs × (o ≡ last_or None xs)) → told v s o ≡ ended v s l
last_given v s l r e o ran =
    ap (told v s) ran.2
    ∙ last_told v s None ran.0
    ∙ ap (ended v s) (sym (map-id ran.0) ∙ items_from_drains ran.0 (ran.1.1.0, ran.1.1.1, λ u. (ran.1.0, ran.1.1.2)) (listed r l e))
