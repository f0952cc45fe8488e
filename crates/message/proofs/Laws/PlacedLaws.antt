-- The first segment of a placed message begins its bytes. Assumes nothing.
use Rattle.std.specs.Prelude.{ℕ, ◌<◌, ◌≡◌, refl, List, [], ◌∷◌, length}
use Rattle.std.proofs.Common.{arith, sym}
use Rattle.service.specs.declared.Service.{Service}
use Rattle.segments.specs.declared.Segment.{Segment}
use Rattle.segments.specs.declared.Segment.TheVariants.{Finished, Unfinished, Nothing}
use Rattle.segments.specs.Forms.Segments.{segment_at}
use Rattle.segments.specs.Laws.SegmentsLaws.{something}
use Rattle.segments.specs.Laws.StartsLaws.{starts_finished, starts_unfinished}
use Rattle.parts.specs.Parts.{lex, elements, value_at}
use Rattle.values.specs.Numbers.{value_in}
use Rattle.chart.specs.Table.{Table}
use Rattle.chart.specs.Forms.Machine.{rows_by}
use Rattle.chart.specs.Laws.TagsLaws.{tags_past, tags_finished, tags_unfinished}
use Rattle.message.specs.Segs.{segs_from}
use Rattle.message.specs.Placed.{placed_on}
use Rattle.message.specs.Rules.{reference}

no_bytes : (t : Table) (v : Service) (m : List ℕ) → (0 < length m → ⊥) → value_in v 0 m 1 0 ≡ reference (placed_on t v m)
unfolding rows_by segs_from lex elements value_at
no_bytes t v [] h = rw (tags_past v [] 0 (omega arith))
no_bytes t v (b ∷ m) h = absurd (h (omega arith))

by_first : (t : Table) (v : Service) (m : List ℕ) (k : Segment) → k ≡ segment_at v 0 m → value_in v 0 m 1 0 ≡ reference (placed_on t v m)
unfolding rows_by segs_from
by_first t v m (Finished f j) e = rw (tags_finished v m 0 (Finished f j) e f j refl, starts_finished v m 0 (Finished f j) e f j refl)
by_first t v m Unfinished e = rw (tags_unfinished v m 0 Unfinished e refl, starts_unfinished v m 0 Unfinished e refl)
by_first t v m Nothing e = no_bytes t v m (λ h. something v m 0 h (sym e))

-- so the reference of the UNH is read where the message begins
pub reference_first : (t : Table) (v : Service) (m : List ℕ) → value_in v 0 m 1 0 ≡ reference (placed_on t v m)
reference_first t v m = by_first t v m (segment_at v 0 m) refl
