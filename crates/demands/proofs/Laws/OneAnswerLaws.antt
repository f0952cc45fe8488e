-- No public function has a second answer. Assumes nothing.
use Rattle.std.specs.Prelude.{ℕ, ◌≡◌, refl, List, [], ◌∷◌, Option, None, Some}
use Rattle.std.specs.Option.{option_map}
use Rattle.std.specs.Iterator.{YieldsFirstBy}
use Rattle.std.proofs.Common.{arith, sym, ap, ap₂, ◌∙◌}
use Rattle.service.specs.declared.Service.{Service}
use Rattle.service.specs.Laws.Unique.{only}
use Rattle.segments.specs.declared.Text.{Text}
use Rattle.segments.specs.declared.Segments.{Segments}
use Rattle.segments.specs.declared.Piece.{Piece}
use Rattle.segments.specs.Left.{segments_left, Steps as PieceNext}
use Rattle.segments.specs.SegmentList.{segments_from}
use Rattle.parts.specs.declared.Part.{Part}
use Rattle.parts.specs.declared.Part.TheVariants as part
use Rattle.parts.specs.declared.Tokens.{Tokens}
use Rattle.parts.specs.Parts.{Tok, byte, comp, elem}
use Rattle.parts.specs.Tokens.{tok, tokens_left}
use Rattle.parts.proofs.Laws.Unique.{only_component}
use Rattle.interchange.specs.Laws.OpenedLaws.{one_opening}
use Rattle.interchange.specs.Laws.ClosingLaws.{one_closing}
use Rattle.chart.specs.declared.Cursor.{Cursor}
use Rattle.chart.specs.Forms.Cursor.{CursorIs}
use Rattle.kinds.specs.Kinds.{table_of}
use Rattle.chart.proofs.Answers.{one_answer}
use Rattle.numbering.specs.declared.LineNumbers.{LineNumbers}
use Rattle.numbering.specs.declared.SequenceNumber.{SequenceNumber}
use Rattle.numbering.specs.declared.SequenceNumbers.{SequenceNumbers}
use Rattle.numbering.specs.declared.Control.{Control}
use Rattle.trailer.specs.declared.Trailer.{Trailer}
use Rattle.amounts.specs.Laws.StepLaws.{one_sums}
use Rattle.report.specs.Laws.ReportedLaws.{one_report}
use Rattle.report.specs.Laws.JudgeLaws.{one_judged}
use Rattle.walk.specs.Laws.WalksLaws.{one_walk}
use Rattle.walk.specs.Laws.JudgesLaws.{one_judge}
use Rattle.twineherald.specs.Laws.NumbersLaws.{one_open, one_close, one_step, one_check}
use Rattle.twineherald.specs.Laws.SeveralLaws.{one_steps}
use Rattle.lines.specs.Lines.{message_line_by, message_line, end_line, open_line}
use Rattle.message.specs.Segs.{Seg}
use Rattle.rule.specs.declared.placed.Place.{Place}
use Rattle.rule.specs.declared.placed.Places.{Places}
use Rattle.rule.specs.Left.{places_left, Steps as PlaceNext}
use Rattle.demands.specs.OneAnswer.{Only, OnlyLine, filled, piece_read, token_read, places_held, placed_seg, place_read, OneAnswer}
use Rattle.faults.specs.Laws.FirstsLaws.{fault_one_by, fault_one}

one_cursor : (v : Service) (m : List ℕ) (at : ℕ) (x y : Cursor) → CursorIs v m at x → CursorIs v m at y → x ≡ y
one_cursor v m at x y p q =
    let a = only p.at q.at in
    let b = only p.tag q.tag in
    λ i. record { at = a i; tag = b i }

one_reader : (t : Text) (at : ℕ) → Only (λ (r : Segments). (segments_left r ≡ segments_from t.service t.bytes.now at) × (r.text ≡ t) × (r.at ≡ at))
one_reader t at x y p q =
    let a = only p.1 q.1 in
    let b = only p.2 q.2 in
    λ i. record { text = a i; at = b i }

-- a rule, by the number and the places that it keeps
one_lines : (LIN : ℕ) (x y : LineNumbers LIN) → ◌≡◌ {A = ℕ × Option ℕ} (x.line.0, x.first20) (y.line.0, y.first20) → x ≡ y
one_lines LIN x y p = λ i. record { line = record { 0 = (p i).0 }; first20 = (p i).1 }

one_number : (x y : Option SequenceNumber) → option_map (λ (n : SequenceNumber). n.0) x ≡ option_map (λ (n : SequenceNumber). n.0) y → x ≡ y
one_number None None p = refl
one_number None (Some y) p = cc
one_number (Some x) None p = cc
one_number (Some x) (Some y) p =
    let a : x.0 ≡ y.0 = cc in
    λ i. Some (record { 0 = a i })

one_sequences : (x y : SequenceNumbers) → ◌≡◌ {A = Option ℕ × Option ℕ} (option_map (λ (n : SequenceNumber). n.0) x.sequence, x.first21) (option_map (λ (n : SequenceNumber). n.0) y.sequence, y.first21) → x ≡ y
one_sequences x y p =
    let a = one_number x.sequence y.sequence (λ i. (p i).0) in
    λ i. record { sequence = a i; first21 = (p i).1 }

one_control : (x y : Control) → x.first29 ≡ y.first29 → x ≡ y
one_control x y p = λ i. record { first29 = p i }

one_trailer : (UNT : ℕ) (x y : Trailer UNT) → x.first17 ≡ y.first17 → x.first18 ≡ y.first18 → x ≡ y
one_trailer UNT x y p q = λ i. record { first17 = p i; first18 = q i }

-- a step of a reader: what it gives, by what is seen of it, and what it then has left
abbrev first_or : {B : Type 0} → B → List B → B
first_or d [] = d
first_or d (b ∷ l) = b

abbrev others : {B : Type 0} → List B → List B
others [] = []
others (b ∷ l) = l

abbrev some_left : {B : Type 0} → List B → ℕ
some_left [] = 0
some_left (b ∷ l) = 1

module _ {R A B : Type 0} (view : A → B) (left : R → List B) (r : R) where
  no_more : (b : B) (l : List B) → left r ≡ [] → left r ≡ b ∷ l → ⊥
  no_more b l e f = let w : ◌≡◌ {A = ℕ} 0 1 = ap some_left (sym e ∙ f) in omega arith

  gives : (x y : Option A) (p q : R) → YieldsFirstBy view left r x p → YieldsFirstBy view left r y q → option_map view x ≡ option_map view y
  gives None None p q h k = refl
  gives None (Some b) p q h k = absurd (no_more (view b) (left q) h.0 k)
  gives (Some a) None p q h k = absurd (no_more (view a) (left p) k.0 h)
  gives (Some a) (Some b) p q h k = let e : view a ∷ left p ≡ view b ∷ left q = sym h ∙ k in ap (λ l. Some (first_or (view a) l)) e

  leaves : (x y : Option A) (p q : R) → YieldsFirstBy view left r x p → YieldsFirstBy view left r y q → left p ≡ left q
  leaves None None p q h k = h.1 ∙ sym k.1
  leaves None (Some b) p q h k = absurd (no_more (view b) (left q) h.0 k)
  leaves (Some a) None p q h k = absurd (no_more (view a) (left p) k.0 h)
  leaves (Some a) (Some b) p q h k = let e : view a ∷ left p ≡ view b ∷ left q = sym h ∙ k in ap others e

-- the item itself, where it is seen whole
same_item : {A : Type 0} (x y : Option A) → option_map (λ a. a) x ≡ option_map (λ a. a) y → x ≡ y
same_item None None e = e
same_item None (Some b) e = e
same_item (Some a) None e = e
same_item (Some a) (Some b) e = e

-- a reader of tokens gives each token as a case of its own
abbrev part_of : Tok → Part
part_of (byte b) = part.Byte b
part_of comp = part.Comp
part_of elem = part.Elem

part_again : (x : Option Part) → option_map part_of (option_map tok x) ≡ x
part_again None = refl
part_again (Some (part.Byte b)) = refl
part_again (Some part.Comp) = refl
part_again (Some part.Elem) = refl

one_piece : (r : Segments) (x y : Option Piece × Segments) → PieceNext r x.0 x.1 → PieceNext r y.0 y.1 → piece_read x ≡ piece_read y
one_piece r x y h k =
    let a = same_item x.0 y.0 (gives (λ (p : Piece). p) segments_left r x.0 y.0 x.1 y.1 h.yields k.yields) in
    let b = leaves (λ (p : Piece). p) segments_left r x.0 y.0 x.1 y.1 h.yields k.yields in
    let c = only h.same k.same in
    λ i. (a i, b i, c i)

one_token : (r : Tokens) (x y : Option Part × Tokens) → YieldsFirstBy tok tokens_left r x.0 x.1 → YieldsFirstBy tok tokens_left r y.0 y.1
    → token_read x ≡ token_read y
one_token r x y h k =
    let a = sym (part_again x.0) ∙ ap (option_map part_of) (gives tok tokens_left r x.0 y.0 x.1 y.1 h k) ∙ part_again y.0 in
    let b = leaves tok tokens_left r x.0 y.0 x.1 y.1 h k in
    λ i. (a i, b i)

one_place : (r : Places) (x y : Option Place × Places) → PlaceNext r x.0 x.1 → PlaceNext r y.0 y.1
    → place_read r.text x ≡ place_read r.text y
one_place r x y h k =
    let a = gives (placed_seg r.text) places_left r x.0 y.0 x.1 y.1 h.yields k.yields in
    let b = leaves (placed_seg r.text) places_left r x.0 y.0 x.1 y.1 h.yields k.yields in
    let c = only h.same k.same in
    λ i. (a i, b i, c i)

one_placed : (x y : Places) {l : List Seg} {t : Text} → (places_left x ≡ l) × (x.text ≡ t) → (places_left y ≡ l) × (y.text ≡ t) → places_held x ≡ places_held y
one_placed x y h k = let a = only h.0 k.0 in let b = only h.1 k.1 in λ i. (a i, b i)

one_line : (l : List ℕ) → OnlyLine l
one_line l o o1 o2 x y p q = ap₂ filled (only p.answer q.answer) (only p.room q.room)

pub one : OneAnswer
one = record {
  service_is_mark = λ b x y p q. only p q;
  service_characters_of = λ s x y p q. only p q;
  service_fits = λ v x y p q. only p q;
  segments_classify = λ v b x y p q. only p q;
  segments_is_break = λ b x y p q. only p q;
  segments_skip_breaks = λ s at x y p q. only p q;
  segments_start = λ r x y p q. only p q;
  segments_segments = λ t at x y. one_reader t at x y;
  segments_next = λ r x y. one_piece r x y;
  segments_segment_at = λ s at v x y p q. only p q;
  parts_token_at = λ s i v x y p q. only p q;
  parts_next = λ r x y. one_token r x y;
  parts_component = λ s at v e c x y. only_component v s at e c x y;
  values_code_at = λ s at v x y p q. only p q;
  values_is_capitals = λ code x y p q. only p q;
  values_code_in = λ s at v e c x y p q. only p q;
  values_length_in = λ s at v e c x y p q. only p q;
  values_amount_in = λ s at v e c x y p q. only p q;
  values_same_in = λ s at v e c other f d x y p q. only p q;
  values_number_is = λ s at v e c n x y p q. only p q;
  interchange_refuse = λ number x y p q. only p q;
  interchange_refuse_any = λ number x y p q. only p q;
  interchange_is_reference = λ n x y p q. only p q;
  interchange_characters_of = λ s x y p q. only p q;
  interchange_open = λ s x y p q. one_opening s p q;
  interchange_find = λ s at v x y p q. only p q;
  interchange_close = λ s x y p q. one_closing s p q;
  numbers_from = λ c x y p q. only p q;
  numbers_number = λ c x y p q. only p q;
  numbers_number_any = λ n x y p q. only p q;
  numbers_told = λ c x y p q. only p q;
  faults_earlier = λ a b x y p q. only p q;
  faults_unless = λ holds at x y p q. only p q;
  faults_keep = λ first holds at x y p q. only p q;
  faults_before = λ number first other x y p q. fault_one x y (only p q);
  faults_before_any = λ number first other x y p q. fault_one_by ℕ (λ n. n) (λ a b e. e) x y (only p q);
  lent_low16 = λ n x y p q. only p q;
  lent_low32 = λ n x y p q. only p q;
  lent_put = λ o o1 o2 j b x y p i q k. ap₂ filled (only i k) (only p q);
  truth_both = λ a b x y p q. only p q;
  truth_either = λ a b x y p q. only p q;
  truth_isnt = λ a x y p q. only p q;
  table_code = λ r x y p q. only p q;
  table_most = λ r x y p q. only p q;
  table_is_required = λ r x y p q. only p q;
  paymul_chart = λ x y p q. only p q;
  debmul_chart = λ x y p q. only p q;
  kinds_table = λ kind x y p q. only p q;
  chart_cursor_at = λ m at v x y. one_cursor v m at x y;
  chart_step = λ m v c x y p q. only p.is q.is;
  chart_place = λ m v kind. one_answer (table_of kind) v m;
  chart_next_row = λ t prev tag x y p q. only p q;
  tally_tally_of = λ m v x y p q. only p q;
  tally_segments_before = λ m v at x y p q. only p q;
  tally_segment_start = λ m v before x y p q. only p q;
  rule_places = λ text t x y p q. only p q;
  rule_places_text = λ text t x y. one_placed x y;
  rule_next = λ r x y. one_place r x y;
  rule_refusal = λ rules other x y p q. fault_one x y (only p q);
  rule_judge = λ rules m v t x y p q. fault_one x y (only p q);
  numbering_line_start_lem = λ l x y p q. only p q;
  numbering_line_step_lem = λ l st m v at nth row x y p q. one_lines l x y (only p q);
  numbering_sequence_start_lem = λ x y p q. only p q;
  numbering_sequence_step_lem = λ st m v at nth row x y p q. one_sequences x y (only p q);
  numbering_control_start_lem = λ x y p q. only p q;
  numbering_control_step_lem = λ st m v at nth row n x y p q. one_control x y (only p q);
  numbering_line_start = λ l x y p q. only p q;
  numbering_sequence_start = λ x y p q. only p q;
  numbering_control_start = λ n x y p q. only p q;
  numbering_line_step = λ l st m v at nth row x y p q. only p q;
  numbering_sequence_step = λ st m v at nth row x y p q. only p q;
  numbering_control_step = λ f m v at nth row n x y p q. only p q;
  amounts_start = λ x y p q. only p q;
  amounts_worth_at = λ m v at x y p q. only p q;
  amounts_step = λ st m v at nth row x y p q. one_sums v m x y (only p.0 q.0) (only p.1 q.1);
  amounts_close_lem = λ st m v x y p q. only p q;
  parties_start_lem = λ x y p q. only p q;
  parties_step_lem = λ st m v at nth row x y p q. only p q;
  parties_close_lem = λ st x y p q. only p q;
  details_start_lem = λ x y p q. only p q;
  details_step_lem = λ st m v at nth row x y p q. only p q;
  details_close_lem = λ st x y p q. only p q;
  trailer_start_lem = λ u x y p q. only p q;
  trailer_step_lem = λ u st m v at nth row n x y p q. one_trailer u x y (only p.0 q.0) (only p.1 q.1);
  trailer_count_start = λ u n x y p q. only p q;
  trailer_reference_start = λ u m v x y p q. only p q;
  trailer_count_step = λ u f m v at nth row n x y p q. only p q;
  trailer_reference_step = λ u f m v at nth row x y p q. only p q;
  rules_judge = λ m v t n k x y p q. fault_one x y (only p q);
  advice_judge = λ m v t segments x y p q. fault_one x y (only p q);
  listing_put_lists = λ m v t n k l x y p q. only p q;
  report_check = λ m v. one_report v m;
  report_judge = λ m v. one_judged v m;
  walk_walk = one_walk;
  walk_judge = one_judge;
  rewrite_rewrite = λ s o o1 o2 x y p i q j. ap₂ filled (only p q) (only i j);
  lines_message_line = λ place told. one_line (message_line place told);
  lines_message_line_any = λ place told. one_line (message_line_by (λ n. n) place told);
  lines_end_line = λ messages accepted strays closing. one_line (end_line messages accepted strays closing);
  lines_open_line = λ number. one_line (open_line number);
  twineherald_from = λ r x y p q. only p q;
  twineherald_open = one_open;
  twineherald_walk = one_step;
  twineherald_walk_each = λ b ps a a1 a2 x y p q. let w = one_steps b ps a a1 a2 x y p q in ap₂ filled w.0 w.1;
  twineherald_check = one_check;
  twineherald_close = one_close;
  twineherald_rewrite = λ b o o1 o2 x y p q. ap₂ filled (only p.numbers q.numbers) (only p.room q.room);
}
