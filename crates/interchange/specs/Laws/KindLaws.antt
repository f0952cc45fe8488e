-- What the tests of the code say of a segment's kind, and a kind of the tag. Assumes nothing.
use Rattle.std.specs.Prelude.{ℕ, ◌≤◌, ◌<◌, ◌≡◌, refl, List, [], ◌∷◌, Bool, true, false, length, drop, eqb, leb, get_or}
use Rattle.std.proofs.Math.Decide.{dec_lt}
use Rattle.std.proofs.Common.{arith, sym, ◌∙◌, ap, eq-eqb, ne_eqb, le-leb, drop-cons}
use Rattle.std.proofs.lemmas.Bool.{lt-leb}
use Rattle.service.specs.declared.Service.{Service}
use Rattle.service.specs.Tests.{if, is_empty}
use Rattle.std.specs.Prelude.{Option}
use Rattle.std.specs.Prelude.{Some, None}
use Rattle.segments.specs.declared.Class.TheVariants.{Plain, Comp, Elem, Term}
use Rattle.segments.specs.Classes.{class_of}
use Rattle.segments.specs.Forms.Bytes.{end_from}
use Rattle.segments.specs.Forms.Segments.{segment_by}
use Rattle.segments.specs.Laws.SegmentsLaws.{segment_by_lem}
use Rattle.segments.specs.declared.Piece.{Piece}
use Rattle.segments.specs.declared.Piece.TheVariants.{Finished as finished, Unfinished as unfinished}
use Rattle.segments.specs.SegmentList.{segments_from}
use Rattle.segments.specs.Laws.SyncLaws.{rest_nothing}
use Rattle.segments.specs.Laws.ListLaws.{list_by, segments_at}
use Rattle.parts.specs.Parts.{Tok, lex_by, lex, value_of}
use Rattle.values.specs.Text.{text, says, same_list}
use Rattle.values.specs.Laws.TextLaws.{same_eq}
use Rattle.values.specs.Forms.Values.{code_of}
use Rattle.interchange.specs.Messages.{tag_at, kind_by, kind_of}
use Rattle.interchange.specs.declared.Kind.TheVariants.{Head as head, Trailer as trailer, Last as last, Other as other, Cut as cut}
use Rattle.values.specs.Forms.Codes.{UNH, UNT, UNZ}
use Rattle.interchange.specs.Laws.TagLaws.{unh_code, unt_code, unz_code}

-- no segment is left exactly if no byte is
some_by : (v : Service) (s : List ℕ) (n : ℕ) (k : Option ℕ) → is_empty (list_by (segment_by s k) n (length s) (segments_from v s)) ≡ false
some_by v s n (Some t) = refl
some_by v s n None = refl

pub none_list : (v : Service) (s : List ℕ) (n : ℕ) → is_empty (segments_from v s n) ≡ leb (length s) n
none_list v s n = go (dec_lt n (length s))
  where
    go : Dec (n < length s) → is_empty (segments_from v s n) ≡ leb (length s) n
    go (yes h) =
        ap is_empty (segments_at v s n)
        ∙ rw (← segment_by_lem v s n h (end_from v false n (drop n s)) refl) (some_by v s n (end_from v false n (drop n s)))
        ∙ sym (lt-leb (length s) n h)
    go (no g) = let h : length s ≤ n = omega arith in ap is_empty (rest_nothing v s n h) ∙ sym (le-leb (length s) n h)

-- ---- the kind by the tests of the code
-- a first byte that is neither U nor the release: the tag begins with it or is empty
none_empty : (e : Bool) → other ≡ kind_by [] e
unfolding text same_list
none_empty e = refl

none_other : (b : ℕ) (l : List ℕ) (e : Bool) → (b ≡ 85 → ⊥) → other ≡ kind_by (b ∷ l) e
unfolding text same_list
none_other b l e n = simp (ne_eqb b 85 n)

none_by : (b : ℕ) (rel on : List Tok) (e : Bool) → (b ≡ 85 → ⊥) → (t u w r : Bool) → other ≡ kind_by (value_of (lex_by (if t Term (if u Elem (if w Comp (if r Plain Plain)))) b rel on)) e
unfolding value_of
none_by b rel on e n true u w r = none_empty e
none_by b rel on e n false true w r = none_empty e
none_by b rel on e n false false true r = none_empty e
none_by b rel on e n false false false true = none_other b (value_of on) e n
none_by b rel on e n false false false false = none_other b (value_of on) e n

pub other_byte : (v : Service) (s : List ℕ) (at : ℕ) → at < length s → (get_or s at 0 ≡ 85 → ⊥) → (get_or s at 0 ≡ v.release → ⊥) → (e : Bool) → other ≡ kind_by (tag_at v s at) e
unfolding tag_at lex class_of
other_byte v s at h n f e =
    rw (drop-cons s at 0)
    (simp (ne_eqb (get_or s at 0) v.release f)
    (none_by (get_or s at 0) _ _ e n (eqb (get_or s at 0) v.terminator) (eqb (get_or s at 0) v.element) (eqb (get_or s at 0) v.component) v.releases))

module _ (l : List ℕ) (g : ℕ) (q : g ≡ code_of l) where
  by_code : (e : Bool) → kind_by l e ≡ if (eqb g UNH) head (if (eqb g UNT) trailer (if (eqb g UNZ) (if e last other) other))
  by_code e = rw (q, unh_code l, unt_code l, unz_code l) refl

  pub tag_head : g ≡ UNH → (e : Bool) → head ≡ kind_by l e
  tag_head h e = sym (by_code e ∙ simp (eq-eqb g UNH h))

  module _ (h : g ≡ UNH → ⊥) where
    pub tag_trailer : g ≡ UNT → (e : Bool) → trailer ≡ kind_by l e
    tag_trailer u e = sym (by_code e ∙ simp (ne_eqb g UNH h, eq-eqb g UNT u))

    module _ (u : g ≡ UNT → ⊥) (v : Service) (s : List ℕ) (n : ℕ) where
      pub tag_last : g ≡ UNZ → length s ≤ n → last ≡ kind_by l (is_empty (segments_from v s n))
      tag_last z o =
          sym (by_code (is_empty (segments_from v s n)) ∙ simp (ne_eqb g UNH h, ne_eqb g UNT u, eq-eqb g UNZ z) (rw (none_list v s n ∙ le-leb (length s) n o) refl))

      pub tag_inner : n < length s → other ≡ kind_by l (is_empty (segments_from v s n))
      tag_inner o = sym (by_code (is_empty (segments_from v s n)) ∙ simp (ne_eqb g UNH h, ne_eqb g UNT u) (rw (none_list v s n ∙ lt-leb (length s) n o) (same (eqb g UNZ))))
        where
          same : (t : Bool) → if t other other ≡ other
          same true = refl
          same false = refl

      pub tag_other : (g ≡ UNZ → ⊥) → other ≡ kind_by l (is_empty (segments_from v s n))
      tag_other z = sym (by_code (is_empty (segments_from v s n)) ∙ simp (ne_eqb g UNH h, ne_eqb g UNT u, ne_eqb g UNZ z))

-- a finished segment is not cut off, and none follows the end UNZ
cut_by : (t u w e : Bool) → if t head (if u trailer (if w (if e last other) other)) ≡ cut → ⊥
cut_by true u w e q = let z : ◌≡◌ {A = ℕ} 0 1 = cc in omega arith
cut_by false true w e q = let z : ◌≡◌ {A = ℕ} 0 1 = cc in omega arith
cut_by false false true true q = let z : ◌≡◌ {A = ℕ} 0 1 = cc in omega arith
cut_by false false true false q = let z : ◌≡◌ {A = ℕ} 0 1 = cc in omega arith
cut_by false false false e q = let z : ◌≡◌ {A = ℕ} 0 1 = cc in omega arith

pub never_cut : (g : List ℕ) (e : Bool) → kind_by g e ≡ cut → ⊥
never_cut g e = cut_by (says g "UNH") (says g "UNT") (says g "UNZ") e

last_by : (t u w e : Bool) → if t head (if u trailer (if w (if e last other) other)) ≡ last → e ≡ true
last_by true u w e q = absurd (let z : ◌≡◌ {A = ℕ} 0 1 = cc in omega arith)
last_by false true w e q = absurd (let z : ◌≡◌ {A = ℕ} 0 1 = cc in omega arith)
last_by false false true true q = refl
last_by false false true false q = absurd (let z : ◌≡◌ {A = ℕ} 0 1 = cc in omega arith)
last_by false false false e q = absurd (let z : ◌≡◌ {A = ℕ} 0 1 = cc in omega arith)

pub none_after : (v : Service) (s : List ℕ) (p : Piece) (l : List Piece) → kind_of v s p l ≡ last → l ≡ []
none_after v s (finished a t) [] e = refl
none_after v s (finished a t) (q ∷ l) e = absurd (let h = last_by (says (tag_at v s a) "UNH") (says (tag_at v s a) "UNT") (says (tag_at v s a) "UNZ") false e in let z : ◌≡◌ {A = ℕ} 0 1 = cc in omega arith)
none_after v s (unfinished a u) l e = absurd (let z : ◌≡◌ {A = ℕ} 0 1 = cc in omega arith)

-- ---- a kind says the tag
head_by : (g : List ℕ) (t u x e : Bool) → says g "UNH" ≡ t → if t head (if u trailer (if x (if e last other) other)) ≡ head → g ≡ text "UNH"
head_by g true u x e p q = same_eq g (text "UNH") p
head_by g false true x e p q = absurd (let z : ◌≡◌ {A = ℕ} 0 1 = cc in omega arith)
head_by g false false true true p q = absurd (let z : ◌≡◌ {A = ℕ} 0 1 = cc in omega arith)
head_by g false false true false p q = absurd (let z : ◌≡◌ {A = ℕ} 0 1 = cc in omega arith)
head_by g false false false e p q = absurd (let z : ◌≡◌ {A = ℕ} 0 1 = cc in omega arith)

pub head_tag : (g : List ℕ) (e : Bool) → kind_by g e ≡ head → g ≡ text "UNH"
head_tag g e q = head_by g (says g "UNH") (says g "UNT") (says g "UNZ") e refl q
