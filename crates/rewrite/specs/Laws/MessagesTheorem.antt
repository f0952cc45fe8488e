-- The messages of an interchange and of its plain bytes: as many, in the same order, closed or not alike, with the same values segment by segment.
-- Assumes nothing.
use Rattle.std.specs.Prelude.{ℕ, ◌+◌, ◌≤◌, ◌<◌, ◌≡◌, length}
use Rattle.std.proofs.Math.Decide.{dec_lt}
use Rattle.std.proofs.Common.{arith, sym, ◌∙◌, drop_of_length-le}
use Rattle.std.proofs.Math.Path.{refl, ap, ap₂, subst}
use mathlib.Core.List.{List, [], ◌∷◌}
use Rattle.service.specs.declared.Service.{Service}
use Rattle.service.specs.Service.{plain_service}
use Rattle.service.specs.Tests.{is_empty}
use Rattle.segments.specs.declared.Piece.{Piece}
use Rattle.segments.specs.declared.Piece.TheVariants.{Finished as finished}
use Rattle.segments.specs.SegmentList.{gap, pieces, segments_after, segments_from}
use Rattle.parts.specs.Trimmed.{Values, values_at, values_in}
use Rattle.values.specs.Text.{text}
use Rattle.interchange.specs.Answers.{Opens}
use Rattle.interchange.specs.Messages.{tag_at, kind_of, Extent, is_closed, bytes_of, extent_by, extent_of, messages_by, messages_of}
use Rattle.interchange.specs.declared.Kind.{Kind}
use Rattle.interchange.specs.declared.Kind.TheVariants.{Head as head, Trailer as trailer, Last as last, Other as other, Cut as cut}
use Rattle.interchange.specs.Envelope.{body_of}
use Rattle.interchange.specs.Forms.Answers.{opening_of}
use Rattle.interchange.specs.Laws.WalkLaws.{Placed, end, at}
use Rattle.interchange.specs.Laws.KindLaws.{head_tag}
use Rattle.interchange.specs.Laws.OwnLaws.{members_by, members, message_finished, message_closed}
use Rattle.interchange.specs.Laws.WalkTheorems.{header, body_is}
use Rattle.interchange.specs.Alike.{Alike, none, both, Pair, Pairs, also}
use Rattle.interchange.specs.Alike as pairs
use Rattle.interchange.specs.Laws.AlikeLaws.{alike, same_tag, same_kind}
use Rattle.interchange.specs.Laws.MessageLaws.{message_values}
use Rattle.rewrite.specs.Plain.{rewritten}
use Rattle.rewrite.specs.Laws.RewriteTheorems.{opens_again, alike_body}

-- ---- a segment that stands where it is said to
record There (v : Service) (s : List ℕ) (a t : ℕ) (l : List Piece) : Type 0 where
  within : a ≤ length s
  here : segments_after v s a ≡ finished a t ∷ l
  next : segments_after v s (t + 1) ≡ l
  rest : Placed v s l

none_past : (v : Service) (s : List ℕ) (a t : ℕ) (l : List Piece) → length s ≤ a → segments_after v s a ≡ finished a t ∷ l → ⊥
unfolding pieces
none_past v s a t l h e = let w : ◌≡◌ {A = List Piece} [] (finished a t ∷ l) = sym (ap (pieces v gap a a) (drop_of_length-le s h)) ∙ e in let n : ◌≡◌ {A = ℕ} 0 1 = cc in omega arith

there_within : (v : Service) (s : List ℕ) (a t : ℕ) (l : List Piece) → segments_after v s a ≡ finished a t ∷ l → a ≤ length s
there_within v s a t l e = go (dec_lt a (length s))
  where
    go : Dec (a < length s) → a ≤ length s
    go (yes h) = omega arith
    go (no g) = let h : length s ≤ a = omega arith in absurd (none_past v s a t l h e)

there_by : (v : Service) (s : List ℕ) {m : List Piece} → Placed v s m → (a t : ℕ) (l : List Piece) → m ≡ finished a t ∷ l → There v s a t l
there_by v s end a t l e = absurd (let n : ◌≡◌ {A = ℕ} 0 1 = cc in omega arith)
there_by v s (at i u k h g w) a t l e =
    let x : i ≡ a = cc in
    let y : u ≡ t = cc in
    let z : k ≡ l = cc in
    let f : segments_after v s a ≡ finished a t ∷ l = ap (segments_after v s) (sym x) ∙ h ∙ e in
    record {
      within = there_within v s a t l f;
      here = f;
      next = ap (λ (n : ℕ). segments_after v s (n + 1)) (sym y) ∙ g ∙ z;
      rest = subst (Placed v s) z w;
    }

there : (v : Service) (s : List ℕ) (a t : ℕ) (l : List Piece) → Placed v s (finished a t ∷ l) → There v s a t l
there v s a t l w = there_by v s w a t l refl

-- ---- alike segments, alike messages
module _ (v : Service) (s : List ℕ) (v' : Service) (s' : List ℕ) where
  closes_by : (k : Kind) (a t a' t' i i' : ℕ) (m m' : Extent) → is_closed m ≡ is_closed m' → is_closed (extent_by k (finished a t) i m) ≡ is_closed (extent_by k (finished a' t') i' m')
  closes_by head a t a' t' i i' m m' e = refl
  closes_by trailer a t a' t' i i' m m' e = refl
  closes_by last a t a' t' i i' m m' e = refl
  closes_by other a t a' t' i i' m m' e = e
  closes_by cut a t a' t' i i' m m' e = e

  same_closes : {l l' : List Piece} → Alike v s v' s' l l' → (i i' : ℕ) → is_closed (extent_of v s i l) ≡ is_closed (extent_of v' s' i' l')
  unfolding extent_of
  same_closes none i i' = refl
  same_closes (both a t a' t' l l' q w) i i' =
      ap (λ (k : Kind). is_closed (extent_by k (finished a t) i (extent_of v s i l))) (same_kind v s v' s' a t a' t' l l' q w)
      ∙ closes_by (kind_of v' s' (finished a' t') l') a t a' t' i i' (extent_of v s i l) (extent_of v' s' i' l') (same_closes w i i')

  members_by_lem : (k : Kind) (a t a' t' : ℕ) (l l' : List Piece) → values_at v s a ≡ values_at v' s' a' → values_in v s l ≡ values_in v' s' l'
      → values_in v s (members_by k (finished a t) l) ≡ values_in v' s' (members_by k (finished a' t') l')
  unfolding values_in
  members_by_lem head a t a' t' l l' q e = refl
  members_by_lem trailer a t a' t' l l' q e = ap (λ (x : Values). x ∷ []) q
  members_by_lem last a t a' t' l l' q e = refl
  members_by_lem other a t a' t' l l' q e = ap₂ (λ (x : Values) (y : List Values). x ∷ y) q e
  members_by_lem cut a t a' t' l l' q e = ap₂ (λ (x : Values) (y : List Values). x ∷ y) q e

  same_members : {l l' : List Piece} → Alike v s v' s' l l' → values_in v s (members v s l) ≡ values_in v' s' (members v' s' l')
  unfolding members values_in
  same_members none = refl
  same_members (both a t a' t' l l' q w) =
      ap (λ (k : Kind). values_in v s (members_by k (finished a t) (members v s l))) (same_kind v s v' s' a t a' t' l l' q w)
      ∙ members_by_lem (kind_of v' s' (finished a' t') l') a t a' t' (members v s l) (members v' s' l') q (same_members w)

  one_more_lem : (a t a' t' : ℕ) (l l' : List Piece) → values_at v s a ≡ values_at v' s' a' → values_in v s l ≡ values_in v' s' l' → values_in v s (finished a t ∷ l) ≡ values_in v' s' (finished a' t' ∷ l')
  unfolding values_in
  one_more_lem a t a' t' l l' q e = ap₂ (λ (x : Values) (y : List Values). x ∷ y) q e

  -- one message
  same_message : (a t a' t' : ℕ) (l l' : List Piece) → values_at v s a ≡ values_at v' s' a' → Alike v s v' s' l l' → There v s a t l → There v' s' a' t' l'
      → tag_at v' s' a' ≡ text "UNH" → Pair v s v' s' (extent_of v s a l) (extent_of v' s' a' l')
  same_message a t a' t' l l' q w x y u = record {
    closes = same_closes w a a';
    ends =
        message_closed v s a t l x.within x.here x.next x.rest (same_tag v s v' s' a a' q ∙ u)
        ∙ same_closes w a a'
        ∙ sym (message_closed v' s' a' t' l' y.within y.here y.next y.rest u);
    segments =
        alike v (bytes_of s (extent_of v s a l)) v' (bytes_of s' (extent_of v' s' a' l')) (segments_from v (bytes_of s (extent_of v s a l)) 0)
        (segments_from v' (bytes_of s' (extent_of v' s' a' l')) 0) (message_finished v s a t l x.within x.here x.next x.rest)
        (message_finished v' s' a' t' l' y.within y.here y.next y.rest)
        (message_values v s a t l x.within x.here x.next x.rest
        ∙ one_more_lem a t a' t' (members v s l) (members v' s' l') q (same_members w)
        ∙ sym (message_values v' s' a' t' l' y.within y.here y.next y.rest));
  }

  messages_by_lem : (k : Kind) (m m' : Extent) (l l' : List Extent) → (k ≡ head → Pair v s v' s' m m') → Pairs v s v' s' l l' → Pairs v s v' s' (messages_by k m l) (messages_by k m' l')
  messages_by_lem head m m' l l' p e = also m m' l l' (p refl) e
  messages_by_lem trailer m m' l l' p e = e
  messages_by_lem last m m' l l' p e = e
  messages_by_lem other m m' l l' p e = e
  messages_by_lem cut m m' l l' p e = e

  pub same_messages : {l l' : List Piece} → Alike v s v' s' l l' → Placed v s l → Placed v' s' l' → Pairs v s v' s' (messages_of v s l) (messages_of v' s' l')
  unfolding messages_of
  same_messages none x y = pairs.end
  same_messages (both a t a' t' l l' q w) x y =
      let f = there v s a t l x in
      let g = there v' s' a' t' l' y in
      subst (λ (k : Kind). Pairs v s v' s' (messages_by k (extent_of v s a l) (messages_of v s l)) (messages_of v' s' (finished a' t' ∷ l'))) (sym (same_kind v s v' s' a t a' t' l l' q w))
      (messages_by_lem (kind_of v' s' (finished a' t') l') (extent_of v s a l) (extent_of v' s' a' l') (messages_of v s l) (messages_of v' s' l')
      (λ (k : kind_of v' s' (finished a' t') l' ≡ head). same_message a t a' t' l l' q w f g (head_tag (tag_at v' s' a') (is_empty l') k)) (same_messages w f.rest g.rest))

-- ---- an interchange that opens, and whose plain bytes are no more than an interchange may have
module _ (s : List ℕ) (v : Service) (first : ℕ) (o : opening_of s ≡ Opens v first) where
  body_placed : Placed v s (body_of v s first)
  body_placed = subst (Placed v s) (body_is s v first o) (header s v first o).body

module _ (s : List ℕ) (v : Service) (first : ℕ) (o : opening_of s ≡ Opens v first) (h : length (rewritten s) ≤ 1048576) where
  pub messages_kept : Pairs v s plain_service (rewritten s) (messages_of v s (body_of v s first)) (messages_of plain_service (rewritten s) (body_of plain_service (rewritten s) 0))
  messages_kept =
      same_messages v s plain_service (rewritten s) (alike_body s v first o h) (body_placed s v first o)
      (body_placed (rewritten s) plain_service 0 (opens_again s v first o h))
