-- "prove that no second answer satisfies it": every public function of every crate, what its contract says of the answer, and that two answers that meet it are one,
-- the final content of lent lists included. Where the answer is one up to something alone, the field says what is one; docs/DECISIONS.md says why.
use Rattle.std.specs.Prelude.{ℕ, ◌%◌, ◌≡◌, List, [], Bool, false, not, ◌&&◌, ◌||◌, length, drop, set, Option, None, Result}
use Rattle.std.specs.Option.{option_map}
use Rattle.std.specs.Iterator.{YieldsFirstBy}
use Rattle.numbers.specs.declared.Number.{Number}
use Rattle.numbers.specs.Table.{table_number}
use Rattle.numbers.specs.Table.{number_told}
use Rattle.faults.specs.Firsts.{told_by, told_of}
use Rattle.service.specs.declared.Service.{Service}
use Rattle.service.specs.Service.{is_mark, characters_of, fitting}
use Rattle.segments.specs.Classes.{class_of, is_break}
use Rattle.segments.specs.Forms.Bytes.{past_breaks}
use Rattle.segments.specs.Forms.Segments.{segment_at}
use Rattle.segments.specs.declared.Piece.{Piece}
use Rattle.segments.specs.declared.Text.{Text}
use Rattle.segments.specs.declared.Segments.{Segments}
use Rattle.segments.specs.Left.{segments_left, Steps as PieceNext}
use Rattle.segments.specs.SegmentList.{start_of, segments_from, start_at}
use Rattle.parts.specs.Parts.{Tok, lex, value_of, elements, value_at}
use Rattle.parts.specs.Forms.Lex.{token_at}
use Rattle.parts.specs.declared.Part.{Part}
use Rattle.parts.specs.declared.Tokens.{Tokens}
use Rattle.parts.specs.Tokens.{tok, tokens_left}
use Rattle.values.specs.Numbers.{value_from, value_in}
use Rattle.values.specs.Text.{same_list}
use Rattle.values.specs.Forms.Values.{code_of, amount_of, is_capitals, number_of, is_number}
use Rattle.interchange.specs.declared.Refusal.{Refusal}
use Rattle.interchange.specs.Messages.{found_from}
use Rattle.interchange.specs.Envelope.{is_reference, refusal}
use Rattle.interchange.specs.Forms.Answers.{read_by}
use Rattle.interchange.specs.Opened.{OpenedAs}
use Rattle.interchange.specs.Closed.{ClosedAs}
use Rattle.faults.specs.declared.Fault as fault
use Rattle.faults.specs.Firsts.{Fault}
use Rattle.faults.specs.Firsts.{lesser, place_unless, number_first}
use Rattle.lent.specs.Lists.{Lists, left}
use Rattle.lent.specs.Forms.Puts.{past_one}
use Rattle.lines.specs.Lines.{message_line_by, message_line, end_line, open_line, Lined}
use Rattle.chart.specs.Table.{Table}
use Rattle.chart.specs.declared.Cursor.{Cursor}
use Rattle.chart.specs.Forms.Cursor.{CursorIs, Stepped as Onwards}
use Rattle.chart.specs.Answer.{Answers}
use Rattle.chart.specs.Forms.Next.{next_row}
use Rattle.tally.specs.Tallied.{tally_of}
use Rattle.tally.specs.Places.{passed}
use Rattle.message.specs.Segs.{Seg, seg_at}
use Rattle.message.specs.Placed.{placed_on}
use Rattle.message.specs.Rules.{worth, paymul_of}
use Rattle.message.specs.Advices.{debmul_of}
use Rattle.message.specs.Faults.{tell_all, least_of}
use Rattle.rule.specs.declared.placed.Place.{Place}
use Rattle.rule.specs.declared.placed.Places.{Places}
use Rattle.rule.specs.Left.{places_left, Steps as PlaceNext}
use Rattle.rule.specs.Refusals.{by_rules}
use Rattle.numbering.specs.declared.LineNumbers.{LineNumbers}
use Rattle.numbering.specs.declared.SequenceNumber.{SequenceNumber}
use Rattle.numbering.specs.declared.SequenceNumbers.{SequenceNumbers}
use Rattle.numbering.specs.declared.Control.{Control}
use Rattle.numbering.specs.Steps.{line_start, line_step, lines_after, sequence_start, sequence_step, sequences_after, control_start, control_step, control_after}
use Rattle.amounts.specs.declared.Amounts.{Amounts}
use Rattle.amounts.specs.Forms.Steps.{sums_start, sums_of, sums_step, amounts_close, own_of, own_at}
use Rattle.parties.specs.declared.Parties.{Parties}
use Rattle.parties.specs.Forms.Steps.{parties_start, parties_step, parties_close}
use Rattle.details.specs.declared.Details.{Details}
use Rattle.details.specs.Forms.Steps.{details_start, details_step, details_close}
use Rattle.trailer.specs.declared.Trailer.{Trailer}
use Rattle.trailer.specs.Trailing.{trailer_start, count_step, count_after, reference_step, reference_after}
use Rattle.listing.specs.Listing.{lists_after}
use Rattle.table.specs.declared.Row.{Row}
use Rattle.table.specs.Entries.{tag_in, most_in, required}
use Rattle.paymul.specs.Table.{PAYMUL}
use Rattle.debmul.specs.Table.{DEBMUL}
use Rattle.kinds.specs.declared.Kind.{Kind}
use Rattle.kinds.specs.Kinds.{table_of}
use Rattle.report.specs.declared.Counts.{Counts}
use Rattle.report.specs.Answers.{Report}
use Rattle.report.specs.Reported.{Reported}
use Rattle.report.specs.Judged.{Judged}
use Rattle.walk.specs.Walks.{Walks, Judges}
use Rattle.rewrite.specs.Answers.{Rewriting}
use Rattle.rewrite.specs.Plain.{rewriting_of, room_after}
use Rattle.twineherald.specs.declared.RewritingNumbers.{RewritingNumbers}
use Rattle.twineherald.specs.Numbers.{refused_of, OpenedWith, ClosedWith, Stepped, Checked, Rewritten}
use Rattle.twineherald.specs.Several.{SteppedEach}

-- a contract that no two answers meet
abbrev pub Only : {A : Type 0} → (A → Type 0) → Type 0
Only {A} f = (x y : A) → f x → f y → x ≡ y

-- of a contract that says what the answer equals
abbrev pub OnlyIs : {A : Type 0} → A → Type 0
OnlyIs {A} d = Only (λ (x : A). x ≡ d)

-- of a contract on the lists before and after and the answer
abbrev pub OnlyWith : {A : Type 0} → (Lists → Lists → A → Type 0) → Type 0
OnlyWith {A} f = (x x1 x2 : Lists) (y z : A) → f x x1 y → f x x2 z → left y x1 ≡ left z x2

-- of a contract from which only what g makes of the answer follows
abbrev pub OnlyUpTo : {A B : Type 0} → (A → B) → (A → Type 0) → Type 0
OnlyUpTo {A} g f = (x y : A) → f x → f y → g x ≡ g y

-- what a step of a reader gives, and the reader after it by what it has left, and by its text: of the segments, the tokens and the placed segments
abbrev pub piece_read : Option Piece × Segments → Option Piece × List Piece × Text
piece_read x = (x.0, segments_left x.1, x.1.text)

abbrev pub token_read : Option Part × Tokens → Option Part × List Tok
token_read x = (x.0, tokens_left x.1)

abbrev pub places_held : Places → List Seg × Text
places_held r = (places_left r, r.text)

abbrev pub placed_seg : Text → Place → Seg
placed_seg t p = seg_at t.service t.bytes.now p.nth p.row p.at

abbrev pub place_read : Text → Option Place × Places → Option Seg × List Seg × Text
place_read t x = (option_map (placed_seg t) x.0, places_left x.1, x.1.text)

-- an answer, and the room after it
pub record Filled (A B : Type 0) : Type 0 where
  pub answer : A
  pub room : List B

abbrev pub filled : {A B : Type 0} → A → List B → Filled A B
filled x o = record { answer = x; room = o }

-- of a contract that puts a line into a room
abbrev pub OnlyLine : List ℕ → Type 0
OnlyLine l = (o o1 o2 : List ℕ) (x y : ℕ) → Lined l o o1 x → Lined l o o2 y → filled x o1 ≡ filled y o2

-- the value that is read from a position
abbrev pub value_found : Service → List ℕ → ℕ → List ℕ
value_found v s r = value_of (lex v false (drop r s))

pub record OneAnswer : Type 0 where
  -- service
  pub service_is_mark : (b : ℕ) → OnlyIs (is_mark b)
  pub service_characters_of : (s : List ℕ) → OnlyIs (characters_of s)
  pub service_fits : (v : Service) → OnlyIs (fitting v)
  -- segments: a reader's step leaves it anywhere where it has the same left
  pub segments_classify : (v : Service) (b : ℕ) → OnlyIs (class_of v b)
  pub segments_is_break : (b : ℕ) → OnlyIs (is_break b)
  pub segments_skip_breaks : (s : List ℕ) (at : ℕ) → OnlyIs (past_breaks at (drop at s))
  pub segments_start : (p : Piece) → OnlyIs (start_of p)
  pub segments_segments : (text : Text) (at : ℕ) → Only (λ (r : Segments). (segments_left r ≡ segments_from text.service text.bytes.now at) × (r.text ≡ text) × (r.at ≡ at))
  pub segments_next : (r : Segments) → OnlyUpTo piece_read (λ (x : Option Piece × Segments). PieceNext r x.0 x.1)
  pub segments_segment_at : (s : List ℕ) (at : ℕ) (v : Service) → OnlyIs (segment_at v at s)
  -- parts: `component` gives a position, and the value there is one
  pub parts_token_at : (s : List ℕ) (i : ℕ) (v : Service) → OnlyIs (token_at v i (drop i s))
  pub parts_next : (r : Tokens) → OnlyUpTo token_read (λ (x : Option Part × Tokens). YieldsFirstBy tok tokens_left r x.0 x.1)
  pub parts_component : (s : List ℕ) (at : ℕ) (v : Service) (e c : ℕ) → OnlyUpTo (value_found v s) (λ r. value_found v s r ≡ value_at (elements (lex v false (drop at s))) e c)
  -- values
  pub values_code_at : (s : List ℕ) (at : ℕ) (v : Service) → OnlyIs (code_of (value_from v at s))
  pub values_is_capitals : (code : ℕ) → OnlyIs (is_capitals code)
  pub values_code_in : (s : List ℕ) (at : ℕ) (v : Service) (e c : ℕ) → OnlyIs (code_of (value_in v at s e c))
  pub values_length_in : (s : List ℕ) (at : ℕ) (v : Service) (e c : ℕ) → OnlyIs (length (value_in v at s e c))
  pub values_amount_in : (s : List ℕ) (at : ℕ) (v : Service) (e c : ℕ) → OnlyIs (amount_of (value_in v at s e c))
  pub values_same_in : (s : List ℕ) (at : ℕ) (v : Service) (e c other f d : ℕ) → OnlyIs (same_list (value_in v at s e c) (value_in v other s f d))
  pub values_number_is : (s : List ℕ) (at : ℕ) (v : Service) (e c n : ℕ) → OnlyIs (is_number (number_of (value_in v at s e c)) n)
  -- interchange
  pub interchange_refuse : (number : Number) → OnlyIs (refusal number)
  -- and of any number, one outside the table too
  pub interchange_refuse_any : (number : ℕ) → OnlyIs (refusal number)
  pub interchange_is_reference : (n : ℕ) → OnlyIs (is_reference n)
  pub interchange_characters_of : (s : List ℕ) → OnlyIs (read_by s)
  pub interchange_open : (s : List ℕ) → Only (OpenedAs s)
  pub interchange_find : (s : List ℕ) (at : ℕ) (v : Service) → OnlyIs (found_from v s at)
  pub interchange_close : (s : List ℕ) → Only (ClosedAs s)
  -- numbers
  pub numbers_from : (c : Number) → OnlyIs (table_number c)
  pub numbers_number : (c : Number) → OnlyIs (table_number c)
  -- and of any number, one outside the table too
  pub numbers_number_any : (n : ℕ) → OnlyIs n
  pub numbers_told : (c : Option Number) → OnlyIs (number_told c)
  -- faults
  pub faults_earlier : (a b : Option ℕ) → OnlyIs (lesser a b)
  pub faults_unless : (holds : Bool) (at : ℕ) → OnlyIs (place_unless holds at)
  pub faults_keep : (first : Option ℕ) (holds : Bool) (at : ℕ) → OnlyIs (lesser first (place_unless holds at))
  pub faults_before : (number : Number) (first : Option ℕ) (other : Option Fault) → Only (λ (f : Option Fault). told_of f ≡ number_first (table_number number) first (told_of other))
  -- and of any number, one outside the table too
  pub faults_before_any : (number : ℕ) (first : Option ℕ) (other : Option (fault.Fault ℕ)) → Only (λ (f : Option (fault.Fault ℕ)). told_by (λ n. n) f ≡ number_first number first (told_by (λ n. n) other))
  -- lent
  pub lent_low16 : (x : ℕ) → OnlyIs (x % 65536)
  pub lent_low32 : (x : ℕ) → OnlyIs (x % 4294967296)
  pub lent_put : (o o1 o2 : List ℕ) (j b x y : ℕ) → o1 ≡ set o j b → x ≡ past_one j (length o) → o2 ≡ set o j b → y ≡ past_one j (length o) → filled x o1 ≡ filled y o2
  -- and, or and not: the language's own `&&`, `||` and `!`
  pub truth_both : (a b : Bool) → OnlyIs (a && b)
  pub truth_either : (a b : Bool) → OnlyIs (a || b)
  pub truth_isnt : (a : Bool) → OnlyIs (not a)
  -- table
  pub table_code : (r : Row) → OnlyIs (tag_in r)
  pub table_most : (r : Row) → OnlyIs (most_in r)
  pub table_is_required : (r : Row) → OnlyIs (required r.status)
  -- paymul
  pub paymul_chart : OnlyIs PAYMUL
  -- debmul
  pub debmul_chart : OnlyIs DEBMUL
  -- kinds
  pub kinds_table : (kind : Kind) → OnlyIs (table_of kind)
  -- chart
  pub chart_cursor_at : (m : List ℕ) (at : ℕ) (v : Service) → Only (CursorIs v m at)
  pub chart_step : (m : List ℕ) (v : Service) (c : Cursor) → Only (Onwards v m c)
  pub chart_place : (m : List ℕ) (v : Service) (kind : Kind) → Only (Answers (table_of kind) v m)
  pub chart_next_row : (t : Table) (prev tag : ℕ) → OnlyIs (next_row t prev tag)
  -- tally
  pub tally_tally_of : (m : List ℕ) (v : Service) → OnlyIs (tally_of v m (segments_from v m 0))
  pub tally_segments_before : (m : List ℕ) (v : Service) (at : ℕ) → OnlyIs (passed (length m) at (segments_from v m 0))
  pub tally_segment_start : (m : List ℕ) (v : Service) (before : ℕ) → OnlyIs (start_at v m before)
  -- rule: by whatever rules it judges; of a reader of placed segments, those that are left, and with them the text
  pub rule_places : (text : Text) (t : Table) → OnlyUpTo places_left (λ (r : Places). places_left r ≡ placed_on t text.service text.bytes.now)
  pub rule_places_text : (text : Text) (t : Table) → OnlyUpTo places_held (λ (r : Places). (places_left r ≡ placed_on t text.service text.bytes.now) × (r.text ≡ text))
  pub rule_next : (r : Places) → OnlyUpTo (place_read r.text) (λ (x : Option Place × Places). PlaceNext r x.0 x.1)
  pub rule_refusal : (rules : List (ℕ × List ℕ)) (other : Option Fault) → Only (λ (f : Option Fault). told_of f ≡ by_rules rules (told_of other))
  pub rule_judge : (rules : List Seg → List (ℕ × List ℕ)) (m : List ℕ) (v : Service) (t : Table) → Only (λ (f : Option Fault). told_of f ≡ by_rules (rules (placed_on t v m)) None)
  -- numbering: each of its rules before the first segment and after one more
  pub numbering_line_start_lem : (LIN : ℕ) → OnlyIs (line_start LIN)
  pub numbering_line_step_lem : (LIN : ℕ) (st : LineNumbers LIN) (m : List ℕ) (v : Service) (at nth row : ℕ)
      → Only (λ (r : LineNumbers LIN). (r.line.0, r.first20) ≡ line_step LIN (st.line.0, st.first20) (seg_at v m nth row at))
  pub numbering_sequence_start_lem : OnlyIs sequence_start
  pub numbering_sequence_step_lem : (st : SequenceNumbers) (m : List ℕ) (v : Service) (at nth row : ℕ)
      → Only (λ (r : SequenceNumbers). (option_map (λ (n : SequenceNumber). n.0) r.sequence, r.first21) ≡ sequence_step (option_map (λ (n : SequenceNumber). n.0) st.sequence, st.first21) (seg_at v m nth row at))
  pub numbering_control_start_lem : OnlyIs control_start
  pub numbering_control_step_lem : (st : Control) (m : List ℕ) (v : Service) (at nth row orders : ℕ)
      → Only (λ (r : Control). r.first29 ≡ control_step orders st.first29 (seg_at v m nth row at))
  -- the number and the place that each of these keeps
  pub numbering_line_start : (LIN : ℕ) → OnlyIs (lines_after LIN [])
  pub numbering_sequence_start : OnlyIs (sequences_after [])
  pub numbering_control_start : (orders : ℕ) → OnlyIs (control_after orders [])
  pub numbering_line_step : (LIN : ℕ) (st : ℕ × Option ℕ) (m : List ℕ) (v : Service) (at nth row : ℕ) → OnlyIs (line_step LIN st (seg_at v m nth row at))
  pub numbering_sequence_step : (st : Option ℕ × Option ℕ) (m : List ℕ) (v : Service) (at nth row : ℕ) → OnlyIs (sequence_step st (seg_at v m nth row at))
  pub numbering_control_step : (first : Option ℕ) (m : List ℕ) (v : Service) (at nth row orders : ℕ) → OnlyIs (control_step orders first (seg_at v m nth row at))
  -- amounts
  pub amounts_start : OnlyIs sums_start
  pub amounts_worth_at : (m : List ℕ) (v : Service) (at : ℕ) → OnlyIs (worth (amount_of (value_in v at m 1 1)))
  pub amounts_step : (st : Amounts) (m : List ℕ) (v : Service) (at nth row : ℕ)
      → Only (λ (r : Amounts). (sums_of v m r ≡ sums_step (sums_of v m st) (seg_at v m nth row at)) × (own_of r ≡ own_at (own_of st) row at))
  pub amounts_close_lem : (st : Amounts) (m : List ℕ) (v : Service) → OnlyIs (amounts_close v m st)
  -- parties
  pub parties_start_lem : OnlyIs parties_start
  pub parties_step_lem : (st : Parties) (m : List ℕ) (v : Service) (at nth row : ℕ) → OnlyIs (parties_step st (seg_at v m nth row at))
  pub parties_close_lem : (st : Parties) → OnlyIs (parties_close st)
  -- details
  pub details_start_lem : OnlyIs details_start
  pub details_step_lem : (st : Details) (m : List ℕ) (v : Service) (at nth row : ℕ) → OnlyIs (details_step st (seg_at v m nth row at))
  pub details_close_lem : (st : Details) → OnlyIs (details_close st)
  -- trailer: before the first segment and after one more
  pub trailer_start_lem : (UNT : ℕ) → OnlyIs (trailer_start UNT)
  pub trailer_step_lem : (UNT : ℕ) (st : Trailer UNT) (m : List ℕ) (v : Service) (at nth row segments : ℕ)
      → Only (λ (r : Trailer UNT). (r.first17 ≡ count_step UNT segments st.first17 (seg_at v m nth row at)) × (r.first18 ≡ reference_step UNT (value_in v 0 m 1 0) st.first18 (seg_at v m nth row at)))
  -- the place that it keeps by each of its rules
  pub trailer_count_start : (UNT segments : ℕ) → OnlyIs (count_after UNT segments [])
  pub trailer_reference_start : (UNT : ℕ) (m : List ℕ) (v : Service) → OnlyIs (reference_after UNT (value_in v 0 m 1 0) [])
  pub trailer_count_step : (UNT : ℕ) (first : Option ℕ) (m : List ℕ) (v : Service) (at nth row segments : ℕ) → OnlyIs (count_step UNT segments first (seg_at v m nth row at))
  pub trailer_reference_step : (UNT : ℕ) (first : Option ℕ) (m : List ℕ) (v : Service) (at nth row : ℕ) → OnlyIs (reference_step UNT (value_in v 0 m 1 0) first (seg_at v m nth row at))
  -- rules
  pub rules_judge : (m : List ℕ) (v : Service) (t : Table) (segments orders : ℕ) → Only (λ (f : Option Fault). told_of f ≡ least_of (tell_all (paymul_of segments orders (placed_on t v m))))
  -- advice
  pub advice_judge : (m : List ℕ) (v : Service) (t : Table) (segments : ℕ) → Only (λ (f : Option Fault). told_of f ≡ least_of (tell_all (debmul_of segments (placed_on t v m))))
  -- listing: what the lists are after it
  pub listing_put_lists : (m : List ℕ) (v : Service) (t : Table) (segments orders : ℕ) (x : Lists) → OnlyIs (lists_after t v m segments orders x)
  -- report
  pub report_check : (m : List ℕ) (v : Service) → OnlyWith (Reported v m)
  pub report_judge : (m : List ℕ) (v : Service) → Only (Judged v m)
  -- walk
  pub walk_walk : (s : List ℕ) (at : ℕ) → OnlyWith (Walks s at)
  pub walk_judge : (s : List ℕ) (at : ℕ) → Only (Judges s at)
  -- rewrite
  pub rewrite_rewrite : (s o o1 o2 : List ℕ) (x y : Rewriting) → x ≡ rewriting_of s (length o) → o1 ≡ room_after s o → y ≡ rewriting_of s (length o) → o2 ≡ room_after s o → filled x o1 ≡ filled y o2
  -- lines
  pub lines_message_line : (place : ℕ) (told : Report) → OnlyLine (message_line place told)
  -- and of a refusal by any number, one outside the table too
  pub lines_message_line_any : (place : ℕ) (told : Result Counts (Refusal ℕ)) → OnlyLine (message_line_by (λ n. n) place told)
  pub lines_end_line : (messages accepted strays closing : ℕ) → OnlyLine (end_line messages accepted strays closing)
  pub lines_open_line : (number : ℕ) → OnlyLine (open_line number)
  -- twineherald
  pub twineherald_from : (r : Refusal Number) → OnlyIs (refused_of r)
  pub twineherald_open : (b : List ℕ) → Only (OpenedWith b)
  pub twineherald_walk : (b : List ℕ) (at : ℕ) → OnlyWith (Stepped b at)
  pub twineherald_walk_each : (b ps : List ℕ) (a a1 a2 : List (List ℕ)) (x y : ℕ) → SteppedEach b ps a a1 x → SteppedEach b ps a a2 y → filled x a1 ≡ filled y a2
  pub twineherald_check : (h m : List ℕ) → OnlyWith (Checked h m)
  pub twineherald_close : (b : List ℕ) → Only (ClosedWith b)
  pub twineherald_rewrite : (b o o1 o2 : List ℕ) (x y : RewritingNumbers) → Rewritten b x o o1 → Rewritten b y o o2 → filled x o1 ≡ filled y o2
