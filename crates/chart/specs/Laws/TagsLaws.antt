-- The tags of a message one by one, by the segment at a place. Assumes nothing.
use Rattle.std.specs.Prelude.{ℕ, ◌≤◌, ◌≡◌, List, [], ◌∷◌, map, length}
use Rattle.std.proofs.Common.{arith}
use Rattle.std.proofs.Math.Path.{sym, ap}
use Rattle.std.proofs.lemmas.List.{length-map}
use Rattle.service.specs.declared.Service.{Service}
use Rattle.segments.specs.declared.Segment.{Segment}
use Rattle.segments.specs.declared.Segment.TheVariants.{Finished, Unfinished}
use Rattle.segments.specs.Forms.Segments.{segment_at}
use Rattle.segments.specs.SegmentList.{starts_from}
use Rattle.segments.specs.Laws.StartsLaws.{starts_past, starts_finished, starts_unfinished, starts_few}
use Rattle.chart.specs.Tags.{tag_on, tags_from}

module _ (v : Service) (m : List ℕ) where
  pub tags_past : (i : ℕ) → length m ≤ i → tags_from v m i ≡ []
  unfolding tags_from
  tags_past i le = ap (map (tag_on v m)) (starts_past v m i le)

  module _ (i : ℕ) (k : Segment) (e : k ≡ segment_at v i m) where
    pub tags_finished : (t n : ℕ) → k ≡ Finished t n → tags_from v m i ≡ tag_on v m i ∷ tags_from v m n
    unfolding tags_from
    tags_finished t n q = ap (map (tag_on v m)) (starts_finished v m i k e t n q)

    pub tags_unfinished : k ≡ Unfinished → tags_from v m i ≡ tag_on v m i ∷ []
    unfolding tags_from
    tags_unfinished q = ap (map (tag_on v m)) (starts_unfinished v m i k e q)

  -- as many starts as tags, and no more than bytes
  pub same_count : (i : ℕ) → length (starts_from v m i) ≡ length (tags_from v m i)
  unfolding tags_from
  same_count i = sym (length-map (starts_from v m i) (tag_on v m))

  pub tags_few : (i : ℕ) → length (tags_from v m i) ≤ length m
  tags_few i = let e = same_count i in let h = starts_few v m i in omega arith
