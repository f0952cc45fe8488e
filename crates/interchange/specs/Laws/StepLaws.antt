-- What a step of a reader of segments says: the segment, those that follow it, and its kind. Assumes nothing.
use Rattle.std.specs.Prelude.{ℕ, suc, ◌+◌, ◌≤◌, ◌<◌, ◌≡◌, refl, List, [], ◌∷◌, Bool, true, false, length, drop, Option, Some}
use Rattle.std.proofs.Math.Decide.{dec_lt}
use Rattle.std.proofs.Common.{arith, sym, ◌∙◌, ap, subst, le-ltb}
use Rattle.service.specs.declared.Service.{Service}
use Rattle.segments.specs.declared.Segment.{Segment}
use Rattle.segments.specs.declared.Segment.TheVariants as segment
use Rattle.segments.specs.declared.Piece.{Piece}
use Rattle.segments.specs.declared.Piece.TheVariants.{Finished as finished, Unfinished as unfinished}
use Rattle.segments.specs.declared.Segments.{Segments}
use Rattle.segments.specs.declared.Text.{Text}
use Rattle.segments.specs.Forms.Segments.{segment_at}
use Rattle.segments.specs.Left.{segments_left, Steps}
use Rattle.segments.specs.SegmentList.{Mode, gap, first, inside, held, after, ends, start_in, emit, left, pieces, segments_from}
use Rattle.segments.specs.Laws.SegmentsLaws.{segment_nothing, lies}
use Rattle.segments.specs.Laws.ListLaws.{list_by, segments_at}
use Rattle.interchange.specs.Messages.{kind_of, cut_before}
use Rattle.interchange.specs.declared.Kind.{Kind}

-- ---- an unfinished segment begins no earlier than the bytes that are read
start_low : (m : Mode) (e st i : ℕ) → e ≤ st → e ≤ i → e ≤ start_in m st i
start_low gap e st i h g = g
start_low first e st i h g = g
start_low inside e st i h g = h
start_low held e st i h g = h

cut_emit : (e : ℕ) (t : Bool) (a b : ℕ) (l : List Piece) → cut_before e l ≡ false → cut_before e (emit t a b l) ≡ false
unfolding cut_before
cut_emit e true a b l h = h
cut_emit e false a b l h = h

cut_left : (m : Mode) (e st i : ℕ) → e ≤ st → cut_before e (left m st i) ≡ false
unfolding cut_before
cut_left gap e st i h = refl
cut_left first e st i h = refl
cut_left inside e st i h = simp (le-ltb st e h)
cut_left held e st i h = simp (le-ltb st e h)

pub cut_pieces : (v : Service) (m : Mode) (e st i : ℕ) (l : List ℕ) → e ≤ st → e ≤ i → cut_before e (pieces v m st i l) ≡ false
unfolding pieces
cut_pieces v m e st i [] h g = cut_left m e st i h
cut_pieces v m e st i (b ∷ l) h g =
    let w : e ≤ suc i = omega arith in
    cut_emit e (ends v m b) _ _ _ (cut_pieces v (after v m b) e (start_in m st i) (suc i) l (start_low m e st i h g) w)

pub cut_from : (v : Service) (s : List ℕ) (e n : ℕ) → e ≤ n → cut_before e (segments_from v s n) ≡ false
cut_from v s e n h = cut_pieces v first e n n (drop n s) h h

-- an unfinished segment has a byte
pub unfinished_within : (v : Service) (s : List ℕ) (i : ℕ) (k : Segment) → k ≡ segment_at v i s → k ≡ segment.Unfinished → i < length s
unfinished_within v s i k c e = go (dec_lt i (length s))
  where
    go : Dec (i < length s) → i < length s
    go (yes h) = h
    go (no g) =
        let h : length s ≤ i = omega arith in
        let q = segment_nothing v s i h ∙ sym c ∙ e in
        absurd (let z : ◌≡◌ {A = ℕ} 0 1 = cc in omega arith)

-- ---- a segment of a text, and those that follow it
pub data Follows (s : List ℕ) : Piece → List Piece → Type 0 where
  passed : (a t : ℕ) (l : List Piece) → a ≤ t → t < length s → ((e : ℕ) → e ≤ t + 1 → cut_before e l ≡ false) → Follows s (finished a t) l
  cut_off : (a e : ℕ) → a < length s → Follows s (unfinished a e) []

by_segment : (v : Service) (s : List ℕ) (i : ℕ) (p : Piece) (l : List Piece) (k : Segment) → k ≡ segment_at v i s → list_by k i (length s) (segments_from v s) ≡ p ∷ l → Follows s p l
by_segment v s i p l (segment.Finished t n) c e =
    let w = lies v s i (segment.Finished t n) c t n refl in
    let h : finished i t ≡ p = cc in
    let g : segments_from v s n ≡ l = cc in
    let y : i ≤ t = w.from in
    subst (λ (x : Piece). Follows s x l) h (subst (Follows s (finished i t)) g (passed i t (segments_from v s n) y w.ends (λ j o. cut_from v s j n (let b = w.next in omega arith))))
by_segment v s i p l segment.Unfinished c e =
    let h : unfinished i (length s) ≡ p = cc in
    let g : ◌≡◌ {A = List Piece} [] l = cc in
    subst (λ (x : Piece). Follows s x l) h (subst (Follows s (unfinished i (length s))) g (cut_off i (length s) (unfinished_within v s i segment.Unfinished c refl)))
by_segment v s i p l segment.Nothing c e = absurd (let z : ◌≡◌ {A = ℕ} 0 1 = cc in omega arith)

pub follows : (v : Service) (s : List ℕ) (i : ℕ) (p : Piece) (l : List Piece) → segments_from v s i ≡ p ∷ l → Follows s p l
follows v s i p l e = by_segment v s i p l (segment_at v i s) refl (sym (segments_at v s i) ∙ e)

-- ---- a step of a reader in a text
module _ (t : Text) (r q : Segments) (inv : r.text ≡ t) (p : Piece) (w : Steps r (Some p) q) where
  pub kept : q.text ≡ t
  kept = w.same ∙ inv

  pub after_it : Follows t.bytes.now p (segments_left q)
  after_it = subst (λ (y : Text). Follows y.bytes.now p (segments_left q)) inv (follows r.text.service r.text.bytes.now r.at p (segments_left q) w.yields)

  pub kind_is : (k : Kind) → k ≡ kind_of q.text.service q.text.bytes.now p (segments_left q) → kind_of t.service t.bytes.now p (segments_left q) ≡ k
  kind_is k c = sym (c ∙ ap (λ (y : Text). kind_of y.service y.bytes.now p (segments_left q)) kept)
