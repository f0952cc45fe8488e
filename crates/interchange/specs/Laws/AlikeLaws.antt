-- Texts with the same values have the same envelope. Assumes nothing.
use Rattle.std.specs.Prelude.{ℕ, suc, Bool, true, ◌&&◌, drop, eqb}
use Rattle.std.proofs.Common.{arith, ◌∙◌, subst}
use Rattle.std.proofs.Math.Path.{◌≡◌, refl, sym, ap, ap₂}
use mathlib.Core.List.{List, [], ◌∷◌}
use Rattle.std.proofs.Math.Bool.{false}
use Rattle.std.proofs.Math.ListN.{length}
use Rattle.std.proofs.Math.Seq.{drop-length}
use Rattle.std.proofs.Math.Dec.{T}
use Rattle.numbers.specs.declared.Number.TheVariants as numbers
use Rattle.std.specs.Prelude.{Some}
use Rattle.std.specs.Prelude.{None}
use Rattle.service.specs.declared.Service.{Service}
use Rattle.service.specs.Tests.{if, is_empty, last_of}
use Rattle.segments.specs.declared.Piece.{Piece}
use Rattle.segments.specs.declared.Piece.TheVariants.{Finished as finished, Unfinished as unfinished}
use Rattle.segments.specs.SegmentList.{all_finished}
use Rattle.parts.specs.Parts.{lex, elements}
use Rattle.parts.proofs.Laws.ValueLaws.{tag_value}
use Rattle.parts.specs.Trimmed.{trimmed, values_at, values_in}
use Rattle.parts.proofs.Laws.TrimLaws.{same_at}
use Rattle.values.specs.Text.{same_list, says}
use Rattle.values.specs.Numbers.{value_from, value_in}
use Rattle.values.specs.Forms.Values.{number_of, is_number}
use Rattle.interchange.specs.Messages.{tag_at, kind_by, kind_of, Extent, extent_of, messages_by, messages_of, stays, stray_by, strays_of}
use Rattle.interchange.specs.declared.Kind.{Kind}
use Rattle.interchange.specs.declared.Kind.TheVariants.{Head as head, Trailer as trailer, Last as last, Other as other, Cut as cut}
use Rattle.interchange.specs.Envelope.{is_reference, is_header, headed, last_unz, last_start}
use Rattle.interchange.specs.Forms.Answers.{closing_fault}
use Rattle.interchange.specs.Alike.{Alike, none, both}

module _ (v : Service) (s : List ℕ) (v' : Service) (s' : List ℕ) where
  -- ---- the same values are the same segments
  pub alike : (l l' : List Piece) → all_finished l ≡ true → all_finished l' ≡ true → values_in v s l ≡ values_in v' s' l' → Alike v s v' s' l l'
  unfolding all_finished values_in
  alike [] [] f g e = none
  alike [] (finished a t ∷ l') f g e = absurd (let n : ◌≡◌ {A = ℕ} 0 1 = cc in omega arith)
  alike [] (unfinished a t ∷ l') f g e = absurd (subst T (sym g) tt)
  alike (finished a t ∷ l) [] f g e = absurd (let n : ◌≡◌ {A = ℕ} 0 1 = cc in omega arith)
  alike (finished a t ∷ l) (finished b u ∷ l') f g e =
      let p : values_at v s a ≡ values_at v' s' b = cc in
      let q : values_in v s l ≡ values_in v' s' l' = cc in
      both a t b u l l' p (alike l l' f g q)
  alike (finished a t ∷ l) (unfinished b u ∷ l') f g e = absurd (subst T (sym g) tt)
  alike (unfinished a t ∷ l) l' f g e = absurd (subst T (sym f) tt)

  -- ---- two segments with the same values
  module _ (i i' : ℕ) (q : values_at v s i ≡ values_at v' s' i') where
    pub same_value : (e c : ℕ) → value_in v i s e c ≡ value_in v' i' s' e c
    same_value = same_at (elements (lex v false (drop i s))) (elements (lex v' false (drop i' s'))) q

    pub same_first : value_from v i s ≡ value_from v' i' s'
    same_first = tag_value (lex v false (drop i s)) ∙ same_value 0 0 ∙ sym (tag_value (lex v' false (drop i' s')))

    pub same_tag : tag_at v s i ≡ tag_at v' s' i'
    unfolding tag_at
    same_tag = same_first

    pub same_header : is_header v s i ≡ is_header v' s' i'
    unfolding is_header
    same_header =
        ap₂ (λ (x : List ℕ) (y : Bool). says x "UNB" && y) same_tag
        (ap₂ (λ (x y : List ℕ). says x "3" && is_reference (length y)) (same_value 1 1) (same_value 5 0))

  -- ---- lists of such segments
  pub same_none : {l l' : List Piece} → Alike v s v' s' l l' → is_empty l ≡ is_empty l'
  same_none none = refl
  same_none (both a t a' t' l l' q w) = refl

  pub same_kind : (a t a' t' : ℕ) (l l' : List Piece) → values_at v s a ≡ values_at v' s' a' → Alike v s v' s' l l' → kind_of v s (finished a t) l ≡ kind_of v' s' (finished a' t') l'
  same_kind a t a' t' l l' q w = ap₂ kind_by (same_tag a a' q) (same_none w)

  pub same_headed : {l l' : List Piece} → Alike v s v' s' l l' → headed v s l ≡ headed v' s' l'
  same_headed none = refl
  same_headed (both a t a' t' l l' q w) = same_header a a' q

  pub same_ended : {l l' : List Piece} → Alike v s v' s' l l' → (b : Bool) → last_unz v s b l ≡ last_unz v' s' b l'
  unfolding last_of
  same_ended none b = refl
  same_ended (both a t a' t' l l' q w) b = ap (λ (x : List ℕ). last_unz v s (says x "UNZ") l) (same_tag a a' q) ∙ same_ended w (says (tag_at v' s' a') "UNZ")

  count_by : (k : Kind) (m m' : Extent) (l l' : List Extent) → length l ≡ length l' → length (messages_by k m l) ≡ length (messages_by k m' l')
  count_by head m m' l l' e = ap suc e
  count_by trailer m m' l l' e = e
  count_by last m m' l l' e = e
  count_by other m m' l l' e = e
  count_by cut m m' l l' e = e

  pub same_count : {l l' : List Piece} → Alike v s v' s' l l' → length (messages_of v s l) ≡ length (messages_of v' s' l')
  unfolding messages_of
  same_count none = refl
  same_count (both a t a' t' l l' q w) =
      ap (λ (k : Kind). length (messages_by k (extent_of v s a l) (messages_of v s l))) (same_kind a t a' t' l l' q w)
      ∙ count_by (kind_of v' s' (finished a' t') l') (extent_of v s a l) (extent_of v' s' a' l') (messages_of v s l) (messages_of v' s' l') (same_count w)

  stray_by_lem : (k : Kind) (r : Bool) (p p' : Piece) (l l' : List Piece) → length l ≡ length l' → length (stray_by k r p l) ≡ length (stray_by k r p' l')
  stray_by_lem head r p p' l l' e = e
  stray_by_lem trailer true p p' l l' e = e
  stray_by_lem trailer false p p' l l' e = ap suc e
  stray_by_lem last r p p' l l' e = e
  stray_by_lem other true p p' l l' e = e
  stray_by_lem other false p p' l l' e = ap suc e
  stray_by_lem cut r p p' l l' e = e

  pub same_strays : {l l' : List Piece} → Alike v s v' s' l l' → (r : Bool) → length (strays_of v s r l) ≡ length (strays_of v' s' r l')
  unfolding strays_of
  same_strays none r = refl
  same_strays (both a t a' t' l l' q w) r =
      ap (λ (k : Kind). length (stray_by k r (finished a t) (strays_of v s (stays k r) l))) (same_kind a t a' t' l l' q w)
      ∙ stray_by_lem (kind_of v' s' (finished a' t') l') r (finished a t) (finished a' t') (strays_of v s (stays (kind_of v' s' (finished a' t') l') r) l)
      (strays_of v' s' (stays (kind_of v' s' (finished a' t') l') r) l') (same_strays w (stays (kind_of v' s' (finished a' t') l') r))

  -- the last of them
  pub same_last : {l l' : List Piece} → Alike v s v' s' l l' → (d d' : ℕ) → values_at v s d ≡ values_at v' s' d' → values_at v s (last_start d l) ≡ values_at v' s' (last_start d' l')
  unfolding last_of
  same_last none d d' e = e
  same_last (both a t a' t' l l' q w) d d' e = same_last w a a' q

  pub same_end : values_at v s (length s) ≡ values_at v' s' (length s')
  unfolding lex
  same_end = ap (λ (x : List ℕ). trimmed (elements (lex v false x))) (drop-length s) ∙ sym (ap (λ (x : List ℕ). trimmed (elements (lex v' false x))) (drop-length s'))

  pub same_number : (i i' j j' m n : ℕ) → values_at v s i ≡ values_at v' s' i' → values_at v s j ≡ values_at v' s' j' → closing_fault v s i j m n ≡ closing_fault v' s' i' j' m n
  unfolding closing_fault
  same_number i i' j j' m n p q =
      ap₂ (λ (x : List ℕ) (y : Bool). if (is_number (number_of x) m) (if y (if (eqb n 0) None (Some numbers.Strays)) (Some numbers.Reference)) (Some numbers.Count)) (same_value j j' q 1 0)
      (ap₂ same_list (same_value i i' p 5 0) (same_value j j' q 2 0))
