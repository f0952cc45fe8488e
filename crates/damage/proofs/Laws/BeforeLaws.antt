-- What stands before a damaged place is found as before. Assumes nothing.
use Rattle.std.specs.Prelude.{ℕ, ◌≤◌, ◌<◌, ◌≡◌, Bool, drop}
use Rattle.std.proofs.Math.Decide.{dec_lt}
use native.Mathlib.Omega.{arith}
use Rattle.std.proofs.Math.Path.{refl, ap}
use Rattle.std.proofs.Common.{sym, ◌∙◌, ap₂, subst}
use mathlib.Core.List.{List, [], ◌∷◌, ◌++◌}
use Rattle.std.proofs.Math.Bool.{true, false}
use Rattle.std.proofs.Math.ListN.{length}
use Rattle.std.proofs.lemmas.List.{drop-append-le}
use Rattle.std.proofs.Math.Dec.{T}
use Rattle.service.specs.declared.Service.{Service}
use Rattle.service.specs.Tests.{if, is_empty}
use Rattle.std.specs.Prelude.{Option}
use Rattle.std.specs.Prelude.{Some, None}
use Rattle.segments.specs.declared.Segment.{Segment}
use Rattle.segments.specs.declared.Segment.TheVariants as segment
use Rattle.segments.specs.Forms.Bytes.{end_from, past_breaks}
use Rattle.segments.specs.Forms.Segments.{segment_by, segment_at}
use Rattle.segments.specs.Laws.SegmentsLaws.{segment_nothing, segment_by_lem, lies}
use Rattle.segments.specs.declared.Piece.{Piece}
use Rattle.segments.specs.declared.Piece.TheVariants.{Finished as finished, Unfinished as unfinished}
use Rattle.segments.specs.SegmentList.{segments_from, segments_after}
use Rattle.segments.specs.Laws.ListLaws.{list_nothing, list_finished, list_unfinished, segments_after_lem}
use Rattle.parts.specs.Parts.{lex, value_of}
use Rattle.parts.proofs.Laws.PartLaws.{lex_part}
use Rattle.values.specs.Text.{says}
use Rattle.interchange.specs.Messages.{tag_at, Extent, extent_by, extent_of, messages_by}
use Rattle.interchange.specs.declared.Kind.TheVariants.{Head as head, Trailer as trailer, Last as last, Other as other}
use Rattle.damage.proofs.Laws.DamageLaws.{beginning}

-- whether a message stands open after the segments l, where one stood open before them or not
unfoldable pub stands : Service → List ℕ → Bool → List Piece → Bool
stands v s r [] = r
stands v s r (finished a t ∷ l) = stands v s (if (says (tag_at v s a) "UNH") true (if (says (tag_at v s a) "UNT") false r)) l
stands v s r (unfinished a e ∷ l) = stands v s r l

-- the tags of two texts at the finished segments of a list agree
pub data Agree (v : Service) (s s' : List ℕ) : List Piece → Type 0 where
  nil : Agree v s s' []
  fin : (a t : ℕ) (l : List Piece) → tag_at v s a ≡ tag_at v s' a → Agree v s s' l → Agree v s s' (finished a t ∷ l)
  unf : (a e : ℕ) (l : List Piece) → Agree v s s' l → Agree v s s' (unfinished a e ∷ l)

pub agree_both : (v : Service) (s s' x : List ℕ) (l : List Piece) → Agree v s x l → Agree v s' x l → Agree v s s' l
agree_both v s s' x l nil nil = nil
agree_both v s s' x l (fin a t k e w) (fin _ _ _ e' w') = fin a t k (e ∙ sym e') (agree_both v s s' x k w w')
agree_both v s s' x l (unf a e k w) (unf _ _ _ w') = unf a e k (agree_both v s s' x k w w')

-- ---- a message that ends among the segments l does not depend on what follows
module _ (v : Service) (s s' : List ℕ) (r r' : List Piece) where
  ends_by_lem : (i a t : ℕ) (l : List Piece) (x y z : Bool) → stands v s' (if x true (if y false true)) l ≡ false
      → (stands v s' true l ≡ false → extent_of v s i (l ++ r) ≡ extent_of v s' i (l ++ r'))
      → extent_by (if x head (if y trailer (if z (if (is_empty (l ++ r)) last other) other))) (finished a t) i (extent_of v s i (l ++ r))
      ≡ extent_by (if x head (if y trailer (if z (if (is_empty (l ++ r')) last other) other))) (finished a t) i (extent_of v s' i (l ++ r'))
  unfolding stands
  ends_by_lem i a t l true y z h ih = refl
  ends_by_lem i a t l false true z h ih = refl
  ends_by_lem i a t [] false false z h ih = absurd (subst T h tt)
  ends_by_lem i a t (p ∷ l) false false true h ih = ih h
  ends_by_lem i a t (p ∷ l) false false false h ih = ih h

  pub extent_ends : (i : ℕ) {l : List Piece} → Agree v s s' l → stands v s' true l ≡ false → extent_of v s i (l ++ r) ≡ extent_of v s' i (l ++ r')
  unfolding stands extent_of
  extent_ends i nil h = absurd (subst T h tt)
  extent_ends i (fin a t l e w) h =
      rw e
      (ends_by_lem i a t l (says (tag_at v s' a) "UNH") (says (tag_at v s' a) "UNT") (says (tag_at v s' a) "UNZ") h (extent_ends i w))
  extent_ends i (unf a e l w) h = extent_ends i w h

  begins_by : (b : Bool) (l : List Piece) (x y z : Bool) (m m' : Extent) (k k' : List Extent) → stands v s' (if x true (if y false b)) l ≡ false → (stands v s' true l ≡ false → m ≡ m')
      → ((c : Bool) → stands v s' c l ≡ false → k ≡ k')
      → messages_by (if x head (if y trailer (if z (if (is_empty (l ++ r)) last other) other))) m k ≡ messages_by (if x head (if y trailer (if z (if (is_empty (l ++ r')) last other) other))) m' k'
  begins_by b l true y z m m' k k' h e ih = ap₂ (λ (u : Extent) (w : List Extent). u ∷ w) (e h) (ih true h)
  begins_by b l false true z m m' k k' h e ih = ih false h
  begins_by b l false false false m m' k k' h e ih = ih b h
  begins_by b l false false true m m' k k' h e ih = both (is_empty (l ++ r)) (is_empty (l ++ r'))
    where
      both : (t u : Bool) → messages_by (if t last other) m k ≡ messages_by (if u last other) m' k'
      both true true = ih b h
      both true false = ih b h
      both false true = ih b h
      both false false = ih b h

  pub begins_same : (b : Bool) {l : List Piece} → Agree v s s' l → stands v s' b l ≡ false → beginning v s l r ≡ beginning v s' l r'
  unfolding stands beginning
  begins_same b nil h = refl
  begins_same b (fin a t l e w) h =
      rw e
      (begins_by b l (says (tag_at v s' a) "UNH") (says (tag_at v s' a) "UNT") (says (tag_at v s' a) "UNZ") (extent_of v s a (l ++ r)) (extent_of v s' a (l ++ r')) (beginning v s l r) (beginning v s' l r') h (extent_ends a w) (λ (c : Bool) q. begins_same c w q))
  begins_same b (unf a e l w) h = begins_same b w h

-- ---- the tags in a text are those of any longer one
end_by_lem : (s : List ℕ) (k : Option ℕ) (t n : ℕ) → segment_by s k ≡ segment.Finished t n → k ≡ Some t
end_by_lem s (Some u) t n e = let a : u ≡ t = cc in ap Some a
end_by_lem s None t n e = absurd (let z : ◌≡◌ {A = ℕ} 0 1 = cc in omega arith)

module _ (v : Service) (s b : List ℕ) where
  pub end_is : (i : ℕ) (k : Segment) → k ≡ segment_at v i s → (t n : ℕ) → k ≡ segment.Finished t n → end_from v false i (drop i s) ≡ Some t
  end_is i k c t n e = go (dec_lt i (length s))
    where
      go : Dec (i < length s) → end_from v false i (drop i s) ≡ Some t
      go (yes h) = end_by_lem s (end_from v false i (drop i s)) t n (segment_by_lem v s i h (end_from v false i (drop i s)) refl ∙ sym c ∙ e)
      go (no g) =
          let h : length s ≤ i = omega arith in
          let q = segment_nothing v s i h ∙ sym c ∙ e in
          absurd (let z : ◌≡◌ {A = ℕ} 0 1 = cc in omega arith)

  pub tag_longer : (i : ℕ) (k : Segment) → k ≡ segment_at v i s → (t n : ℕ) → k ≡ segment.Finished t n → tag_at v (s ++ b) i ≡ tag_at v s i
  unfolding tag_at
  tag_longer i k c t n e =
      let w = lies v s i k c t n e in
      let h : i ≤ length s = omega arith in
      ap (λ (l : List ℕ). value_of (lex v false l)) (drop-append-le i s b h)
      ∙ ap value_of (lex_part v false i (drop i s) b t (end_is i k c t n e))

  agree_by : (l : List Piece) → ((n : ℕ) (m : List Piece) → segments_from v s n ≡ m → (p : Piece) → l ≡ p ∷ m → Agree v (s ++ b) s m) → (i : ℕ) → segments_from v s i ≡ l → (k : Segment) → k ≡ segment_at v i s → Agree v (s ++ b) s l
  agree_by l ih i e (segment.Finished t n) c =
      let g : l ≡ finished i t ∷ segments_from v s n = sym e ∙ list_finished v s i (segment.Finished t n) c t n refl in
      subst (Agree v (s ++ b) s) (sym g) (fin i t (segments_from v s n) (tag_longer i (segment.Finished t n) c t n refl) (ih n (segments_from v s n) refl (finished i t) g))
  agree_by l ih i e segment.Unfinished c = subst (Agree v (s ++ b) s) (sym (list_unfinished v s i segment.Unfinished c refl) ∙ e) (unf i (length s) [] nil)
  agree_by l ih i e segment.Nothing c = subst (Agree v (s ++ b) s) (sym (list_nothing v s i segment.Nothing c refl) ∙ e) nil

  agree_from : (l : List Piece) (i : ℕ) → segments_from v s i ≡ l → Agree v (s ++ b) s l
  agree_from [] i e = nil
  agree_from (p ∷ l) i e =
      agree_by (p ∷ l) (λ (n : ℕ) (m : List Piece) f (q : Piece) x. let u : m ≡ l = cc in subst (Agree v (s ++ b) s) (sym u) (agree_from l n (f ∙ u))) i e (segment_at v i s) refl

  pub agree : (i : ℕ) → Agree v (s ++ b) s (segments_after v s i)
  agree i =
      subst (Agree v (s ++ b) s) (sym (segments_after_lem v s i (past_breaks i (drop i s)) refl))
      (agree_from (segments_from v s (past_breaks i (drop i s))) (past_breaks i (drop i s)) refl)
