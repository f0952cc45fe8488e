-- A reader yields the segments that it has left. Assumes nothing.
use Rattle.std.specs.Prelude.{◌≡◌, List, length}
use Rattle.std.proofs.Common.{ap, subst}
use Rattle.std.proofs.lemmas.Iterator.Consumers.{YieldsList-from_shown}
use Rattle.std.proofs.lemmas.Iterator.{YieldsList}
use Rattle.segments.specs.declared.Piece.{Piece}
use Rattle.segments.specs.declared.Segments.{Segments}
use Rattle.segments.specs.Left.{segments_left, Steps}

pub listed : (r : Segments) (l : List Piece) → segments_left r ≡ l → YieldsList Steps (λ x. x) r l
listed r l e = subst (YieldsList Steps (λ x. x) r) e (YieldsList-from_shown Steps (λ x. x) segments_left (λ s t h. ap length h.yields.0) (λ s x t h. h.yields) r)
