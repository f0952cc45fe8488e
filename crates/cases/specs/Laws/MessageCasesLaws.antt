-- Rows 9 to 11 and 13 hold. Assumes nothing.
use Rattle.std.specs.Prelude.{ℕ, ◌≡◌, refl, List, [], ◌∷◌, None}
use Rattle.std.proofs.Common.{sym, ◌∙◌, ap, subst}
use Rattle.service.specs.Service.{plain_service, is_mark, is_alphanumeric, serves, among, distinct, fitting}
use Rattle.segments.specs.Classes.{class_of}
use Rattle.segments.specs.SegmentList.{pieces, starts_from}
use Rattle.parts.specs.Parts.{lex, elements, value_at, value_of, is_strange, strange_from}
use Rattle.values.specs.Text.{same_list, text}
use Rattle.values.specs.Forms.Values.{digits, number_of, one_more, units, fraction, code_from, is_capital, is_capitals}
use Rattle.interchange.specs.Messages.{tag_at, closed_at}
use Rattle.interchange.specs.Envelope.{is_reference}
use Rattle.faults.specs.Firsts.{fault_at}
use Rattle.lent.specs.Lists.{Lists, Left, left}
use Rattle.lent.specs.Over.{over}
use Rattle.chart.specs.Chart.{Reading}
use Rattle.chart.specs.Forms.Machine.{only, run, step, step_rows, free, free_rows, placed, choose, takes, owed, rows_by}
use Rattle.table.specs.Entries.{lines_from, within}
use Rattle.chart.specs.Table.{chart_of, row_over, inside}
use Rattle.values.specs.Forms.Codes.{UNH, BGM, DTM, LIN, RFF, MOA, FII, SEQ, CNT, UNT, CUX, NAD}
use Rattle.chart.specs.Forms.Columns.{parent_of, first_of}
use Rattle.chart.specs.Forms.Next.{next_of, chain_from, find_in, next_row, rows_of}
use Rattle.chart.specs.Tags.{tags_from, tags_of}
use Rattle.kinds.specs.declared.Kind.{Kind}
use Rattle.kinds.specs.declared.Kind.TheVariants.{Paymul}
use Rattle.kinds.specs.Kinds.{table_of}
use Rattle.paymul.specs.Table.{PAYMUL, table}
use Rattle.chart.proofs.Plain.{placed_one}
use Rattle.chart.proofs.Whole.{fine, reading_of}
use Rattle.chart.proofs.Tables.{sound}
use Rattle.message.specs.Segs.{segs_from, segs_of, those, until, stretches, each}
use Rattle.message.specs.Rules.{some, failing, misnumbered, rule17, rule18, rule20, rule21, rule22, rule23, rule24, rule25, rule26, rule27, rule28, rule29, first_holds, second_holds, is_base, bases_hold, sum, order_holds, payment_holds, details_hold, totals_of}
use Rattle.message.specs.Kinds.{chart_for, rules_for}
use Rattle.message.specs.Faults.{rank, tell, tell_all, least, least_of}
use Rattle.report.specs.Answers.{Report}
use Rattle.report.specs.Answers.{Accepted}
use Rattle.report.specs.Reported.{bare_of, Room, room_of, rule10, is_kind, headed, lines, asked, fits, early, Of, Applies, counts_of, filled, Reported, accepted}
use Rattle.report.specs.Laws.ReportedLaws.{one_report}
use Rattle.report.specs.Laws.LateLaws.{late_none, late_lowest}
use Rattle.cases.specs.MessageCases.{room, Holds, Gives, Totals, joined, exchange, unnamed, counted, Row9, Row10, Row11, Row13}

-- ---- a message of a kind with these tags, whose rows are these
module _ (k : Kind) (x : Room) (m ts ns : List ℕ) (o : Of k plain_service m) (t : tags_of plain_service m ≡ ts) (p : run ts (only (chart_for k)) 0 ≡ placed) (r : rows_of (table_of k) ts ≡ ns)
    (e : tell_all (early (bare_of plain_service m) x) ≡ []) where
  reads : Reading (chart_for k) (tags_of plain_service m) ns
  reads =
      let w = placed_one (chart_for k) ts (fine (table_of k) (sound k)) p in
      subst (λ (l : List ℕ). Reading (chart_for k) l ns) (sym t) (subst (λ (l : List ℕ). Reading (chart_for k) ts l) r (reading_of (table_of k) (sound k) ts w.0 w.1))

  pub holds : least_of (tell_all (rules_for k (segs_of plain_service m ns))) ≡ None → Holds k x m
  holds h = record { of = o; rows = ns; reading = reads; free = late_none k plain_service m o x ns reads e h }

  pub gives : (n s : ℕ) → least_of (tell_all (rules_for k (segs_of plain_service m ns))) ≡ fault_at n s → Gives x m n s
  gives n s h = late_lowest k plain_service m o x ns reads e n s h

-- ---- whatever meets the contract of a message with this reading to which nothing applies
module _ (m rows : List ℕ) (i : Of Paymul plain_service m) (r : Reading (chart_for Paymul) (tags_of plain_service m) rows) (free : (n s : ℕ) → Applies plain_service m room n s → ⊥) where
  pub answer : (x x' : Lists) (y : Report) → room_of x ≡ room → Reported plain_service m x x' y → left y x' ≡ left (Accepted (counts_of Paymul (segs_of plain_service m rows))) (filled Paymul plain_service m rows x)
  answer x x' y e w =
      one_report plain_service m x x' (filled Paymul plain_service m rows x) y (Accepted (counts_of Paymul (segs_of plain_service m rows))) w
      (accepted (counts_of Paymul (segs_of plain_service m rows)) Paymul i rows r (subst (λ (k : Room). (n s : ℕ) → Applies plain_service m k n s → ⊥) (sym e) free) refl refl)

  totals_by : (l : List ℕ) → totals_of (segs_of plain_service m rows) ≡ l → Totals m l
  totals_by l t x x' y e w = ap (λ (k : Left Report). k.lists.totals) (answer x x' y e w) ∙ ap (λ (k : List ℕ). over k x.totals) t

-- ---- row 9
abbrev tags9 : List ℕ
tags9 = UNH ∷ BGM ∷ DTM ∷ LIN ∷ DTM ∷ RFF ∷ MOA ∷ CUX ∷ FII ∷ SEQ ∷ MOA ∷ RFF ∷ NAD ∷ CNT ∷ UNT ∷ []

abbrev pub rows9 : List ℕ
rows9 = 1 ∷ 2 ∷ 3 ∷ 17 ∷ 18 ∷ 19 ∷ 23 ∷ 24 ∷ 28 ∷ 50 ∷ 51 ∷ 53 ∷ 61 ∷ 108 ∷ 112 ∷ []

run9 : run tags9 (only (chart_for Paymul)) 0 ≡ placed
unfolding PAYMUL table lines_from within text chart_of row_over inside run step step_rows free free_rows choose takes owed
run9 = refl

place9 : rows_of PAYMUL tags9 ≡ rows9
unfolding PAYMUL table lines_from within text rows_by next_row chain_from find_in next_of parent_of first_of
place9 = refl

tags_eur : tags_of plain_service (exchange "MOA+57:100:EUR'") ≡ tags9
unfolding joined text starts_from pieces tags_from class_of lex value_of code_from
tags_eur = refl

of_eur : Of Paymul plain_service (exchange "MOA+57:100:EUR'")
unfolding joined text is_kind pieces class_of lex elements value_at same_list
of_eur = refl

early_eur : tell_all (early (bare_of plain_service (exchange "MOA+57:100:EUR'")) room) ≡ []
unfolding joined text serves is_alphanumeric among distinct fitting pieces class_of lex value_of elements value_at same_list is_strange strange_from tag_at closed_at is_reference rule10 is_kind headed lines asked fits early tell tell_all
early_eur = refl

late_eur : least_of (tell_all (rules_for Paymul (segs_of plain_service (exchange "MOA+57:100:EUR'") rows9))) ≡ None
unfolding joined text starts_from pieces class_of lex elements value_at segs_from code_from same_list digits number_of one_more is_mark units fraction is_capital is_capitals those until stretches each some failing misnumbered rule17 rule18 rule20 rule21 rule22 rule23 rule24 rule25 rule26 rule27 rule28 rule29 first_holds second_holds is_base bases_hold sum order_holds payment_holds details_hold rank tell tell_all least least_of
late_eur = refl

tags_usd : tags_of plain_service (exchange "MOA+57:100:USD'") ≡ tags9
unfolding joined text starts_from pieces tags_from class_of lex value_of code_from
tags_usd = refl

of_usd : Of Paymul plain_service (exchange "MOA+57:100:USD'")
unfolding joined text is_kind pieces class_of lex elements value_at same_list
of_usd = refl

early_usd : tell_all (early (bare_of plain_service (exchange "MOA+57:100:USD'")) room) ≡ []
unfolding joined text serves is_alphanumeric among distinct fitting pieces class_of lex value_of elements value_at same_list is_strange strange_from tag_at closed_at is_reference rule10 is_kind headed lines asked fits early tell tell_all
early_usd = refl

late_usd : least_of (tell_all (rules_for Paymul (segs_of plain_service (exchange "MOA+57:100:USD'") rows9))) ≡ fault_at 25 8
unfolding joined text starts_from pieces class_of lex elements value_at segs_from code_from same_list digits number_of one_more is_mark units fraction is_capital is_capitals those until stretches each some failing misnumbered rule17 rule18 rule20 rule21 rule22 rule23 rule24 rule25 rule26 rule27 rule28 rule29 first_holds second_holds is_base bases_hold sum order_holds payment_holds details_hold rank tell tell_all least least_of
late_usd = refl

pub nine : Row9
nine =
    (holds Paymul room (exchange "MOA+57:100:EUR'") tags9 rows9 of_eur tags_eur run9 place9 early_eur late_eur, gives Paymul room (exchange "MOA+57:100:USD'") tags9 rows9 of_usd tags_usd run9 place9 early_usd 25 8 late_usd)

-- its reading
pub read9 : Reading (chart_for Paymul) (tags_of plain_service (exchange "MOA+57:100:EUR'")) rows9
read9 = reads Paymul room (exchange "MOA+57:100:EUR'") tags9 rows9 of_eur tags_eur run9 place9 early_eur

-- ---- row 10
abbrev tags10 : List ℕ
tags10 = UNH ∷ BGM ∷ DTM ∷ LIN ∷ DTM ∷ RFF ∷ MOA ∷ FII ∷ NAD ∷ SEQ ∷ MOA ∷ RFF ∷ NAD ∷ CNT ∷ UNT ∷ []

abbrev rows10 : List ℕ
rows10 = 1 ∷ 2 ∷ 3 ∷ 17 ∷ 18 ∷ 19 ∷ 23 ∷ 28 ∷ 32 ∷ 50 ∷ 51 ∷ 53 ∷ 61 ∷ 108 ∷ 112 ∷ []

run10 : run tags10 (only (chart_for Paymul)) 0 ≡ placed
unfolding PAYMUL table lines_from within text chart_of row_over inside run step step_rows free free_rows choose takes owed
run10 = refl

place10 : rows_of PAYMUL tags10 ≡ rows10
unfolding PAYMUL table lines_from within text rows_by next_row chain_from find_in next_of parent_of first_of
place10 = refl

tags_pl : tags_of plain_service (unnamed "NAD+PL+++A'") ≡ tags10
unfolding joined text starts_from pieces tags_from class_of lex value_of code_from
tags_pl = refl

of_pl : Of Paymul plain_service (unnamed "NAD+PL+++A'")
unfolding joined text is_kind pieces class_of lex elements value_at same_list
of_pl = refl

early_pl : tell_all (early (bare_of plain_service (unnamed "NAD+PL+++A'")) room) ≡ []
unfolding joined text serves is_alphanumeric among distinct fitting pieces class_of lex value_of elements value_at same_list is_strange strange_from tag_at closed_at is_reference rule10 is_kind headed lines asked fits early tell tell_all
early_pl = refl

late_pl : least_of (tell_all (rules_for Paymul (segs_of plain_service (unnamed "NAD+PL+++A'") rows10))) ≡ None
unfolding joined text starts_from pieces class_of lex elements value_at segs_from code_from same_list digits number_of one_more is_mark units fraction is_capital is_capitals those until stretches each some failing misnumbered rule17 rule18 rule20 rule21 rule22 rule23 rule24 rule25 rule26 rule27 rule28 rule29 first_holds second_holds is_base bases_hold sum order_holds payment_holds details_hold rank tell tell_all least least_of
late_pl = refl

tags_oy : tags_of plain_service (unnamed "NAD+OY+++A'") ≡ tags10
unfolding joined text starts_from pieces tags_from class_of lex value_of code_from
tags_oy = refl

of_oy : Of Paymul plain_service (unnamed "NAD+OY+++A'")
unfolding joined text is_kind pieces class_of lex elements value_at same_list
of_oy = refl

early_oy : tell_all (early (bare_of plain_service (unnamed "NAD+OY+++A'")) room) ≡ []
unfolding joined text serves is_alphanumeric among distinct fitting pieces class_of lex value_of elements value_at same_list is_strange strange_from tag_at closed_at is_reference rule10 is_kind headed lines asked fits early tell tell_all
early_oy = refl

late_oy : least_of (tell_all (rules_for Paymul (segs_of plain_service (unnamed "NAD+OY+++A'") rows10))) ≡ fault_at 27 4
unfolding joined text starts_from pieces class_of lex elements value_at segs_from code_from same_list digits number_of one_more is_mark units fraction is_capital is_capitals those until stretches each some failing misnumbered rule17 rule18 rule20 rule21 rule22 rule23 rule24 rule25 rule26 rule27 rule28 rule29 first_holds second_holds is_base bases_hold sum order_holds payment_holds details_hold rank tell tell_all least least_of
late_oy = refl

pub ten : Row10
ten =
    (holds Paymul room (unnamed "NAD+PL+++A'") tags10 rows10 of_pl tags_pl run10 place10 early_pl late_pl, gives Paymul room (unnamed "NAD+OY+++A'") tags10 rows10 of_oy tags_oy run10 place10 early_oy 27 4 late_oy)

-- ---- row 11
abbrev tags11 : List ℕ
tags11 = UNH ∷ BGM ∷ DTM ∷ LIN ∷ DTM ∷ RFF ∷ MOA ∷ FII ∷ SEQ ∷ MOA ∷ RFF ∷ NAD ∷ SEQ ∷ MOA ∷ RFF ∷ NAD ∷ LIN ∷ DTM ∷ RFF ∷ MOA ∷ FII ∷ SEQ ∷ MOA ∷ RFF ∷ NAD ∷ CNT ∷ UNT ∷ []

abbrev pub rows11 : List ℕ
rows11 = 1 ∷ 2 ∷ 3 ∷ 17 ∷ 18 ∷ 19 ∷ 23 ∷ 28 ∷ 50 ∷ 51 ∷ 53 ∷ 61 ∷ 50 ∷ 51 ∷ 53 ∷ 61 ∷ 17 ∷ 18 ∷ 19 ∷ 23 ∷ 28 ∷ 50 ∷ 51 ∷ 53 ∷ 61 ∷ 108 ∷ 112 ∷ []

run11 : run tags11 (only (chart_for Paymul)) 0 ≡ placed
unfolding PAYMUL table lines_from within text chart_of row_over inside run step step_rows free free_rows choose takes owed
run11 = refl

place11 : rows_of PAYMUL tags11 ≡ rows11
unfolding PAYMUL table lines_from within text rows_by next_row chain_from find_in next_of parent_of first_of
place11 = refl

tags_again : tags_of plain_service (counted "SEQ++1'") ≡ tags11
unfolding joined text starts_from pieces tags_from class_of lex value_of code_from
tags_again = refl

of_again : Of Paymul plain_service (counted "SEQ++1'")
unfolding joined text is_kind pieces class_of lex elements value_at same_list
of_again = refl

early_again : tell_all (early (bare_of plain_service (counted "SEQ++1'")) room) ≡ []
unfolding joined text serves is_alphanumeric among distinct fitting pieces class_of lex value_of elements value_at same_list is_strange strange_from tag_at closed_at is_reference rule10 is_kind headed lines asked fits early tell tell_all
early_again = refl

late_again : least_of (tell_all (rules_for Paymul (segs_of plain_service (counted "SEQ++1'") rows11))) ≡ None
unfolding joined text starts_from pieces class_of lex elements value_at segs_from code_from same_list digits number_of one_more is_mark units fraction is_capital is_capitals those until stretches each some failing misnumbered rule17 rule18 rule20 rule21 rule22 rule23 rule24 rule25 rule26 rule27 rule28 rule29 first_holds second_holds is_base bases_hold sum order_holds payment_holds details_hold rank tell tell_all least least_of
late_again = refl

tags_on : tags_of plain_service (counted "SEQ++3'") ≡ tags11
unfolding joined text starts_from pieces tags_from class_of lex value_of code_from
tags_on = refl

of_on : Of Paymul plain_service (counted "SEQ++3'")
unfolding joined text is_kind pieces class_of lex elements value_at same_list
of_on = refl

early_on : tell_all (early (bare_of plain_service (counted "SEQ++3'")) room) ≡ []
unfolding joined text serves is_alphanumeric among distinct fitting pieces class_of lex value_of elements value_at same_list is_strange strange_from tag_at closed_at is_reference rule10 is_kind headed lines asked fits early tell tell_all
early_on = refl

late_on : least_of (tell_all (rules_for Paymul (segs_of plain_service (counted "SEQ++3'") rows11))) ≡ fault_at 21 22
unfolding joined text starts_from pieces class_of lex elements value_at segs_from code_from same_list digits number_of one_more is_mark units fraction is_capital is_capitals those until stretches each some failing misnumbered rule17 rule18 rule20 rule21 rule22 rule23 rule24 rule25 rule26 rule27 rule28 rule29 first_holds second_holds is_base bases_hold sum order_holds payment_holds details_hold rank tell tell_all least least_of
late_on = refl

pub eleven : Row11
eleven =
    (holds Paymul room (counted "SEQ++1'") tags11 rows11 of_again tags_again run11 place11 early_again late_again, gives Paymul room (counted "SEQ++3'") tags11 rows11 of_on tags_on run11 place11 early_on 21 22 late_on)

pub read11 : Reading (chart_for Paymul) (tags_of plain_service (counted "SEQ++1'")) rows11
read11 = reads Paymul room (counted "SEQ++1'") tags11 rows11 of_again tags_again run11 place11 early_again

-- ---- row 13, in the message of row 9
tags_half : tags_of plain_service (exchange "MOA+57:,5:EUR'") ≡ tags9
unfolding joined text starts_from pieces tags_from class_of lex value_of code_from
tags_half = refl

of_half : Of Paymul plain_service (exchange "MOA+57:,5:EUR'")
unfolding joined text is_kind pieces class_of lex elements value_at same_list
of_half = refl

early_half : tell_all (early (bare_of plain_service (exchange "MOA+57:,5:EUR'")) room) ≡ []
unfolding joined text serves is_alphanumeric among distinct fitting pieces class_of lex value_of elements value_at same_list is_strange strange_from tag_at closed_at is_reference rule10 is_kind headed lines asked fits early tell tell_all
early_half = refl

late_half : least_of (tell_all (rules_for Paymul (segs_of plain_service (exchange "MOA+57:,5:EUR'") rows9))) ≡ None
unfolding joined text starts_from pieces class_of lex elements value_at segs_from code_from same_list digits number_of one_more is_mark units fraction is_capital is_capitals those until stretches each some failing misnumbered rule17 rule18 rule20 rule21 rule22 rule23 rule24 rule25 rule26 rule27 rule28 rule29 first_holds second_holds is_base bases_hold sum order_holds payment_holds details_hold rank tell tell_all least least_of
late_half = refl

totals_half : totals_of (segs_of plain_service (exchange "MOA+57:,5:EUR'") rows9) ≡ 500 ∷ []
unfolding joined text starts_from pieces class_of lex elements value_at segs_from those digits one_more is_mark units fraction
totals_half = refl

tags_bare : tags_of plain_service (exchange "MOA+57:5,:EUR'") ≡ tags9
unfolding joined text starts_from pieces tags_from class_of lex value_of code_from
tags_bare = refl

of_bare : Of Paymul plain_service (exchange "MOA+57:5,:EUR'")
unfolding joined text is_kind pieces class_of lex elements value_at same_list
of_bare = refl

early_bare : tell_all (early (bare_of plain_service (exchange "MOA+57:5,:EUR'")) room) ≡ []
unfolding joined text serves is_alphanumeric among distinct fitting pieces class_of lex value_of elements value_at same_list is_strange strange_from tag_at closed_at is_reference rule10 is_kind headed lines asked fits early tell tell_all
early_bare = refl

late_bare : least_of (tell_all (rules_for Paymul (segs_of plain_service (exchange "MOA+57:5,:EUR'") rows9))) ≡ fault_at 22 7
unfolding joined text starts_from pieces class_of lex elements value_at segs_from code_from same_list digits number_of one_more is_mark units fraction is_capital is_capitals those until stretches each some failing misnumbered rule17 rule18 rule20 rule21 rule22 rule23 rule24 rule25 rule26 rule27 rule28 rule29 first_holds second_holds is_base bases_hold sum order_holds payment_holds details_hold rank tell tell_all least least_of
late_bare = refl

pub thirteen : Row13
thirteen =
    let h = holds Paymul room (exchange "MOA+57:,5:EUR'") tags9 rows9 of_half tags_half run9 place9 early_half late_half in
    let r = reads Paymul room (exchange "MOA+57:,5:EUR'") tags9 rows9 of_half tags_half run9 place9 early_half in
    (h, totals_by (exchange "MOA+57:,5:EUR'") rows9 of_half r h.free (500 ∷ []) totals_half, gives Paymul room (exchange "MOA+57:5,:EUR'") tags9 rows9 of_bare tags_bare run9 place9 early_bare 22 7 late_bare)
