-- Two texts whose segments have the same values, one by one, trailing empties aside: what the theorems on rewriting speak of.
use Rattle.std.specs.Prelude.{ℕ, ◌≡◌, List, [], ◌∷◌}
use Rattle.service.specs.declared.Service.{Service}
use Rattle.segments.specs.declared.Piece.{Piece}
use Rattle.segments.specs.declared.Piece.TheVariants.{Finished as finished}
use Rattle.segments.specs.SegmentList.{segments_from}
use Rattle.parts.specs.Trimmed.{values_at}
use Rattle.interchange.specs.Messages.{Extent, is_closed, bytes_of, ends_closed}

-- finished segments of s and of s', as many, each with the same values
pub data Alike (v : Service) (s : List ℕ) (v' : Service) (s' : List ℕ) : List Piece → List Piece → Type 0 where
  none : Alike v s v' s' [] []
  both : (a t a' t' : ℕ) (l l' : List Piece) → values_at v s a ≡ values_at v' s' a' → Alike v s v' s' l l' → Alike v s v' s' (finished a t ∷ l) (finished a' t' ∷ l')

-- a message of s and one of s': both closed or both not, by their own bytes too, and the segments that these are, read from the UNH on, alike. What a report
-- tells of a message but for its offsets depends on no more.
pub record Pair (v : Service) (s : List ℕ) (v' : Service) (s' : List ℕ) (m m' : Extent) : Type 0 where
  pub closes : is_closed m ≡ is_closed m'
  pub ends : ends_closed v (bytes_of s m) ≡ ends_closed v' (bytes_of s' m')
  pub segments : Alike v (bytes_of s m) v' (bytes_of s' m') (segments_from v (bytes_of s m) 0) (segments_from v' (bytes_of s' m') 0)

-- as many messages, in the same order
pub data Pairs (v : Service) (s : List ℕ) (v' : Service) (s' : List ℕ) : List Extent → List Extent → Type 0 where
  end : Pairs v s v' s' [] []
  also : (m m' : Extent) (l l' : List Extent) → Pair v s v' s' m m' → Pairs v s v' s' l l' → Pairs v s v' s' (m ∷ l) (m' ∷ l')
