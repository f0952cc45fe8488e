-- The list of segments, by the segment at a position. Assumes nothing.
use Rattle.std.specs.Prelude.{ℕ, ◌+◌, ◌≤◌, ◌<◌, ◌≡◌, refl, List, [], ◌∷◌, true, false, length, drop}
use Rattle.std.proofs.Math.Decide.{dec_lt}
use Rattle.std.proofs.Common.{arith, sym, ◌∙◌, ap}
use Rattle.service.specs.declared.Service.{Service}
use Rattle.std.specs.Prelude.{Option}
use Rattle.std.specs.Prelude.{Some, None}
use Rattle.segments.specs.declared.Segment.{Segment}
use Rattle.segments.specs.declared.Segment.TheVariants.{Finished, Unfinished, Nothing}
use Rattle.segments.specs.Forms.Bytes.{end_from, past_breaks}
use Rattle.segments.specs.declared.Piece.{Piece}
use Rattle.segments.specs.declared.Piece.TheVariants.{Finished as finished, Unfinished as unfinished}
use Rattle.segments.specs.SegmentList.{emit, segments_from, segments_after, all_finished}
use Rattle.segments.specs.Laws.ResyncLaws.{gap_start}
use Rattle.segments.specs.Laws.SyncLaws.{rest_skip, rest_at, rest_none, rest_nothing}
use Rattle.segments.specs.Forms.Segments.{segment_by, segment_at}
use Rattle.segments.specs.Laws.SegmentsLaws.{segment_nothing, segment_by_lem, lies}

-- the list by the segment at i: none left, a finished one and those from the next place on, or an unfinished last one
abbrev pub list_by : Segment → ℕ → ℕ → (ℕ → List Piece) → List Piece
list_by (Finished t n) i e on = finished i t ∷ on n
list_by Unfinished i e on = unfinished i e ∷ []
list_by Nothing i e on = []

by_end : (v : Service) (s : List ℕ) (i : ℕ) → i < length s → (k : Option ℕ) → k ≡ end_from v false i (drop i s) → segments_from v s i ≡ list_by (segment_by s k) i (length s) (segments_from v s)
by_end v s i h (Some t) c = (rest_at v s i (Some t) c t refl).same ∙ ap (emit true i t) (rest_skip v s (t + 1) (past_breaks (t + 1) (drop (t + 1) s)) refl)
by_end v s i h None c = rest_none v s i h None c refl

pub segments_at : (v : Service) (s : List ℕ) (i : ℕ) → segments_from v s i ≡ list_by (segment_at v i s) i (length s) (segments_from v s)
segments_at v s i = go (dec_lt i (length s))
  where
    go : Dec (i < length s) → segments_from v s i ≡ list_by (segment_at v i s) i (length s) (segments_from v s)
    go (yes h) = rw (← segment_by_lem v s i h (end_from v false i (drop i s)) refl) (by_end v s i h (end_from v false i (drop i s)) refl)
    go (no g) = let h : length s ≤ i = omega arith in rw (← segment_nothing v s i h) (rest_nothing v s i h)

module _ (v : Service) (s : List ℕ) (i : ℕ) (k : Segment) (c : k ≡ segment_at v i s) where
  pub list_nothing : k ≡ Nothing → segments_from v s i ≡ []
  list_nothing e = segments_at v s i ∙ rw (← c, e)

  pub list_finished : (t n : ℕ) → k ≡ Finished t n → segments_from v s i ≡ finished i t ∷ segments_from v s n
  list_finished t n e = segments_at v s i ∙ rw (← c, e)

  pub list_unfinished : k ≡ Unfinished → segments_from v s i ≡ unfinished i (length s) ∷ []
  list_unfinished e = segments_at v s i ∙ rw (← c, e)

  pub list_within : (t n : ℕ) → k ≡ Finished t n → n ≤ length s
  list_within t n e = let w = lies v s i k c t n e in omega arith

  -- after an unfinished segment none is left
  pub list_last : k ≡ Unfinished → segments_from v s i ≡ unfinished i (length s) ∷ segments_from v s (length s)
  list_last e = list_unfinished e ∙ ap (λ l. unfinished i (length s) ∷ l) (sym (rest_nothing v s (length s) (omega arith)))

-- all are finished, the first too
pub finished_first : (a t : ℕ) (l : List Piece) → all_finished l ≡ true → all_finished (finished a t ∷ l) ≡ true
unfolding all_finished
finished_first a t l e = e

-- from a position, "as though a terminator stood just before": past the breaks
pub segments_after_lem : (v : Service) (s : List ℕ) (i p : ℕ) → p ≡ past_breaks i (drop i s) → segments_after v s i ≡ segments_from v s p
segments_after_lem v s i p e = gap_start v i 0 i (drop i s) ∙ rest_skip v s i p e
