-- What follows a damaged place is found again, at its own place. Assumes nothing.
use Rattle.std.specs.Prelude.{ℕ, ◌+◌, ◌≡◌, length}
use Rattle.std.proofs.Common.{arith, ◌∙◌, ap₂, length-append}
use Rattle.std.proofs.Math.Path.{refl, ap}
use mathlib.Core.List.{List, [], ◌∷◌, ◌++◌, map}
use Rattle.std.proofs.Math.Bool.{false}
use Rattle.std.proofs.Math.Seq.{drop-append-add}
use Rattle.service.specs.declared.Service.{Service}
use Rattle.service.specs.Tests.{is_empty}
use Rattle.segments.specs.declared.Piece.{Piece}
use Rattle.segments.specs.declared.Piece.TheVariants.{Finished as finished, Unfinished as unfinished}
use Rattle.segments.specs.Sync.{shift}
use Rattle.parts.specs.Parts.{lex, value_of}
use Rattle.interchange.specs.Messages.{tag_at, start_of, kind_by, kind_of, Extent, closed, unclosed, past_of, extent_by, extent_of, messages_by, messages_of}
use Rattle.interchange.specs.declared.Kind.{Kind}
use Rattle.interchange.specs.declared.Kind.TheVariants.{Head as head, Trailer as trailer, Last as last, Other as other, Cut as cut}

-- the same message, k bytes further on
abbrev pub moved : ℕ → Extent → Extent
moved k (closed a e) = closed (k + a) (k + e)
moved k (unclosed a e) = unclosed (k + a) (k + e)

-- the messages that begin in the segments l, where the segments r follow
unfoldable pub beginning : Service → List ℕ → List Piece → List Piece → List Extent
beginning v s [] r = []
beginning v s (p ∷ l) r = messages_by (kind_of v s p (l ++ r)) (extent_of v s (start_of p) (l ++ r)) (beginning v s l r)

-- ---- the messages of segments one after the other
messages_head : (k : Kind) (m : Extent) (x y : List Extent) → messages_by k m (x ++ y) ≡ messages_by k m x ++ y
messages_head head m x y = refl
messages_head trailer m x y = refl
messages_head last m x y = refl
messages_head other m x y = refl
messages_head cut m x y = refl

pub messages_append : (v : Service) (s : List ℕ) (l r : List Piece) → messages_of v s (l ++ r) ≡ beginning v s l r ++ messages_of v s r
unfolding messages_of beginning
messages_append v s [] r = refl
messages_append v s (p ∷ l) r =
    ap (messages_by (kind_of v s p (l ++ r)) (extent_of v s (start_of p) (l ++ r))) (messages_append v s l r)
    ∙ messages_head (kind_of v s p (l ++ r)) (extent_of v s (start_of p) (l ++ r)) (beginning v s l r) (messages_of v s r)

-- ---- the messages of a text further on
module _ (v : Service) (x r : List ℕ) where
  pub tag_moved : (i : ℕ) → tag_at v (x ++ r) (length x + i) ≡ tag_at v r i
  unfolding tag_at
  tag_moved i = ap (λ (l : List ℕ). value_of (lex v false l)) (drop-append-add x r i)

  none_moved : (l : List Piece) → is_empty (map (shift (length x)) l) ≡ is_empty l
  none_moved [] = refl
  none_moved (p ∷ l) = refl

  kind_moved : (p : Piece) (l : List Piece) → kind_of v (x ++ r) (shift (length x) p) (map (shift (length x)) l) ≡ kind_of v r p l
  kind_moved (finished a t) l = ap₂ kind_by (tag_moved a) (none_moved l)
  kind_moved (unfinished a e) l = refl

  start_moved : (p : Piece) → start_of (shift (length x) p) ≡ length x + start_of p
  start_moved (finished a t) = refl
  start_moved (unfinished a e) = refl

  past_moved : (p : Piece) → past_of (shift (length x) p) ≡ length x + past_of p
  past_moved (finished a t) = omega arith
  past_moved (unfinished a e) = refl

  extent_head : (k : Kind) (p : Piece) (a : ℕ) (m : Extent) → extent_by k (shift (length x) p) (length x + a) (moved (length x) m) ≡ moved (length x) (extent_by k p a m)
  extent_head head p a m = ap (unclosed (length x + a)) (start_moved p)
  extent_head trailer p a m = ap (closed (length x + a)) (past_moved p)
  extent_head last p a m = ap (unclosed (length x + a)) (start_moved p)
  extent_head other p a m = refl
  extent_head cut p a m = refl

  pub extent_moved : (a : ℕ) (l : List Piece) → extent_of v (x ++ r) (length x + a) (map (shift (length x)) l) ≡ moved (length x) (extent_of v r a l)
  unfolding extent_of
  extent_moved a [] = ap (unclosed (length x + a)) (length-append x r)
  extent_moved a (p ∷ l) =
      rw (kind_moved p l)
      (ap (extent_by (kind_of v r p l) (shift (length x) p) (length x + a)) (extent_moved a l) ∙ extent_head (kind_of v r p l) p a (extent_of v r a l))

  messages_first : (k : Kind) (m n : Extent) (y : List Extent) → n ≡ moved (length x) m → messages_by k n (map (moved (length x)) y) ≡ map (moved (length x)) (messages_by k m y)
  messages_first head m n y e = ap (λ (w : Extent). w ∷ map (moved (length x)) y) e
  messages_first trailer m n y e = refl
  messages_first last m n y e = refl
  messages_first other m n y e = refl
  messages_first cut m n y e = refl

  pub messages_moved : (l : List Piece) → messages_of v (x ++ r) (map (shift (length x)) l) ≡ map (moved (length x)) (messages_of v r l)
  unfolding messages_of
  messages_moved [] = refl
  messages_moved (p ∷ l) =
      rw (kind_moved p l)
      (ap (messages_by (kind_of v r p l) (extent_of v (x ++ r) (start_of (shift (length x) p)) (map (shift (length x)) l))) (messages_moved l)
      ∙ messages_first (kind_of v r p l) (extent_of v r (start_of p) l) (extent_of v (x ++ r) (start_of (shift (length x) p)) (map (shift (length x)) l)) (messages_of v r l)
      (ap (λ (a : ℕ). extent_of v (x ++ r) a (map (shift (length x)) l)) (start_moved p) ∙ extent_moved (start_of p) l))
