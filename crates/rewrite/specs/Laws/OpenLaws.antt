-- The interchange rewritten has the same values and opens again. Assumes nothing.
use Rattle.std.specs.Prelude.{ℕ, suc, ◌+◌, ◌≤◌, ◌≡◌, List, [], ◌∷◌, ◌++◌, map, Bool, true, ◌&&◌, length, drop, get_or, eqb}
use Rattle.std.proofs.Common.{arith, ◌∙◌, subst}
use Rattle.std.proofs.Math.Path.{refl, sym, ap}
use Rattle.std.proofs.Math.Bool.{false}
use Rattle.service.specs.declared.Service.{Service}
use Rattle.service.specs.Service.{Fit}
use Rattle.service.specs.Service.{plain_service, begins_una, characters_of, among}
use Rattle.segments.specs.declared.Piece.{Piece}
use Rattle.segments.specs.SegmentList.{gap, pieces, all_finished, segments_from}
use Rattle.segments.specs.Laws.ListLaws.{finished_first}
use Rattle.segments.specs.Laws.ResyncLaws.{gap_first}
use Rattle.parts.specs.Parts.{lex, elements, value_at}
use Rattle.parts.proofs.Laws.ValueLaws.{tag_value}
use Rattle.parts.specs.Trimmed.{Values, values_at, values_in, values_from}
use Rattle.parts.proofs.Laws.TrimLaws.{trimmed_value, values_trimmed}
use Rattle.values.specs.Text.{text}
use Rattle.interchange.specs.Answers.{Opens}
use Rattle.interchange.specs.Envelope.{first_at}
use Rattle.interchange.specs.Forms.Answers.{opening_of}
use Rattle.interchange.specs.Laws.OpenedLaws.{opened, opens}
use Rattle.interchange.specs.Messages.{tag_at}
use Rattle.interchange.specs.Laws.WalkLaws.{Placed, end, at}
use Rattle.interchange.specs.Laws.WalkTheorems.{header}
use Rattle.interchange.specs.Alike.{Alike}
use Rattle.interchange.specs.Laws.AlikeLaws.{alike, same_headed, same_ended}
use Rattle.rewrite.specs.Plain.{values_of, is_released, plain_byte, plain_value, behind, plain_element, plain_elements, begun, plain_segment, plain, rewritten}
use Rattle.rewrite.specs.Laws.ReadLaws.{plain_unbroken, segment_pieces, read_back}

-- ---- every segment of plain bytes is finished
none_open : (i : ℕ) → all_finished (pieces plain_service gap 0 i []) ≡ true
unfolding all_finished pieces
none_open i = refl

all_plain : (ss : List Values) (i : ℕ) → all_finished (pieces plain_service gap 0 i (plain ss)) ≡ true
unfolding plain
all_plain [] i = none_open i
all_plain (x ∷ ss) i =
    let n : ℕ = i + length (plain_segment x) in
    ap all_finished (segment_pieces x (plain ss) 0 i n refl) ∙ finished_first i n (pieces plain_service gap 0 (suc n) (plain ss)) (all_plain ss (suc n))

pub plain_finished : (ss : List Values) → all_finished (segments_from plain_service (plain ss) 0) ≡ true
plain_finished ss = ap all_finished (sym (gap_first plain_service 0 0 (plain ss) (plain_unbroken ss))) ∙ all_plain ss 0

-- ---- plain bytes whose first segment's tag is UNB do not begin with UNA
unb_by : (c p q z : List ℕ) → c ≡ 85 ∷ 78 ∷ 66 ∷ [] → get_or (begun ((plain_value c ++ p) ++ q) ++ z) 2 0 ≡ 66
unfolding plain_value plain_byte is_released among
unb_by c p q z e = subst (λ (x : List ℕ). get_or (begun ((plain_value x ++ p) ++ q) ++ z) 2 0 ≡ 66) (sym e) refl

no_value : (A : Type 0) → ◌≡◌ {A = List ℕ} [] (85 ∷ 78 ∷ 66 ∷ []) → A
no_value A e = absurd (let n : ◌≡◌ {A = ℕ} 0 1 = cc in omega arith)

segment_unb : (x : Values) (z : List ℕ) → value_at x 0 0 ≡ 85 ∷ 78 ∷ 66 ∷ [] → get_or (plain_segment x ++ z) 2 0 ≡ 66
unfolding value_at plain_segment plain_elements plain_element
segment_unb [] z e = no_value (get_or (plain_segment [] ++ z) 2 0 ≡ 66) e
segment_unb ([] ∷ es) z e = no_value (get_or (plain_segment ([] ∷ es) ++ z) 2 0 ≡ 66) e
segment_unb ((c ∷ cs) ∷ es) z e = unb_by c (behind 58 (map plain_value cs)) (behind 43 (map plain_element es)) z e

no_una : (l : List ℕ) → get_or l 2 0 ≡ 66 → begins_una l ≡ false
unfolding begins_una
no_una l e = rw e (no_by (eqb (get_or l 0 0) 85) (eqb (get_or l 1 0) 78))
  where
    no_by : (x y : Bool) → x && (y && false) ≡ false
    no_by true true = refl
    no_by true false = refl
    no_by false y = refl

plain_characters : (x : Values) (ss : List Values) → value_at x 0 0 ≡ 85 ∷ 78 ∷ 66 ∷ [] → characters_of (plain (x ∷ ss)) ≡ Fit plain_service 0
unfolding characters_of plain
plain_characters x ss e = rw (no_una (plain_segment x ++ 39 ∷ plain ss) (segment_unb x (39 ∷ plain ss) e)) refl

-- ---- an interchange that opens
all_placed : (v : Service) (s : List ℕ) {l : List Piece} → Placed v s l → all_finished l ≡ true
unfolding all_finished
all_placed v s end = refl
all_placed v s (at i t l h g w) = all_placed v s w

module _ (s : List ℕ) (v : Service) (first : ℕ) (o : opening_of s ≡ Opens v first) where
  pub rewritten_by : rewritten s ≡ plain (values_from v s first)
  unfolding rewritten values_of
  rewritten_by = rw o refl

  all_finished_lem : all_finished (segments_from v s first) ≡ true
  all_finished_lem =
      let h = header s v first o in
      ap all_finished h.here ∙ finished_first first h.term (segments_from v s h.next) (all_placed v s h.body)

  pub first_values : values_from v s first ≡ values_at v s first ∷ values_from v s (header s v first o).next
  unfolding values_in
  first_values = ap (values_in v s) (header s v first o).here

  -- its values are those of its plain bytes
  pub same_values : values_from plain_service (rewritten s) 0 ≡ values_from v s first
  same_values =
      ap (λ (r : List ℕ). values_from plain_service r 0) rewritten_by ∙ read_back (values_from v s first) ∙ values_trimmed v s (segments_from v s first)

  rewritten_finished : all_finished (segments_from plain_service (rewritten s) 0) ≡ true
  rewritten_finished = ap (λ (r : List ℕ). all_finished (segments_from plain_service r 0)) rewritten_by ∙ plain_finished (values_from v s first)

  pub alike_rewritten : Alike v s plain_service (rewritten s) (segments_from v s first) (segments_from plain_service (rewritten s) 0)
  alike_rewritten =
      alike v s plain_service (rewritten s) (segments_from v s first) (segments_from plain_service (rewritten s) 0) all_finished_lem rewritten_finished (sym same_values)

  unb_value : value_at (values_at v s first) 0 0 ≡ 85 ∷ 78 ∷ 66 ∷ []
  unfolding tag_at text
  unb_value =
      trimmed_value (elements (lex v false (drop first s))) 0 0
      ∙ sym (tag_value (lex v false (drop first s)))
      ∙ (header s v first o).tag

  rewritten_characters : characters_of (rewritten s) ≡ Fit plain_service 0
  rewritten_characters =
      ap characters_of (rewritten_by ∙ ap plain first_values)
      ∙ plain_characters (values_at v s first) (values_from v s (header s v first o).next) unb_value

  first_zero : first_at (rewritten s) 0 ≡ 0
  unfolding first_at
  first_zero = refl

  -- the plain bytes open, with the default characters, if they are no more than an interchange may have
  pub reopens : length (rewritten s) ≤ 1048576 → opening_of (rewritten s) ≡ Opens plain_service 0
  reopens h =
      let f = opened s v first o in
      opens (rewritten s) plain_service 0
      (record {
        una = 0;
        short = h;
        named = rewritten_characters;
        begins = first_zero;
        heads = sym (same_headed v s plain_service (rewritten s) alike_rewritten) ∙ f.heads;
        closes = sym (same_ended v s plain_service (rewritten s) alike_rewritten false) ∙ f.closes;
      })
