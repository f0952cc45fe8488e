-- The cases of a debit advice. Assumes nothing.
use Rattle.std.specs.Prelude.{ℕ, ◌≡◌, refl, List, [], ◌∷◌, None}
use Rattle.service.specs.Service.{plain_service, is_alphanumeric, serves, among, distinct, fitting}
use Rattle.segments.specs.Classes.{class_of}
use Rattle.segments.specs.SegmentList.{pieces, starts_from}
use Rattle.parts.specs.Parts.{lex, elements, value_at, value_of, is_strange, strange_from}
use Rattle.values.specs.Text.{same_list, text}
use Rattle.values.specs.Forms.Values.{digits, number_of, code_from}
use Rattle.values.specs.Forms.Codes.{UNH, BGM, DTM, LIN, RFF, MOA, FII, SEQ, CNT, UNT}
use Rattle.interchange.specs.Messages.{tag_at, closed_at}
use Rattle.interchange.specs.Envelope.{is_reference}
use Rattle.faults.specs.Firsts.{fault_at}
use Rattle.chart.specs.Forms.Machine.{only, run, step, step_rows, free, free_rows, placed, choose, takes, owed, rows_by}
use Rattle.table.specs.Entries.{lines_from, within}
use Rattle.chart.specs.Table.{chart_of, row_over, inside}
use Rattle.chart.specs.Forms.Columns.{parent_of, first_of}
use Rattle.chart.specs.Forms.Next.{next_of, chain_from, find_in, next_row, rows_of}
use Rattle.chart.specs.Tags.{tags_from, tags_of}
use Rattle.kinds.specs.declared.Kind.TheVariants.{Debmul}
use Rattle.debmul.specs.Table.{DEBMUL, table}
use Rattle.message.specs.Segs.{segs_from, segs_of, those, until, stretches, each}
use Rattle.message.specs.Rules.{some, failing, misnumbered, rule17, rule18, rule20}
use Rattle.message.specs.Advices.{pre_advice, date_holds, rule30, rule31}
use Rattle.message.specs.Kinds.{chart_for, rules_for}
use Rattle.message.specs.Faults.{rank, tell, tell_all, least, least_of}
use Rattle.report.specs.Reported.{bare_of, rule10, is_kind, headed, lines, asked, fits, early, Of}
use Rattle.cases.specs.MessageCases.{joined}
use Rattle.cases.specs.AdviceCases.{narrow, coming, referenced, plain, elsewhere, AdviceCases}
use Rattle.cases.specs.Laws.MessageCasesLaws.{holds, gives}

-- ---- with an RFF in SG11: the tags and their rows
abbrev referenced_tags : List ℕ
referenced_tags = UNH ∷ BGM ∷ DTM ∷ LIN ∷ DTM ∷ MOA ∷ RFF ∷ FII ∷ SEQ ∷ FII ∷ RFF ∷ MOA ∷ CNT ∷ UNT ∷ []

abbrev referenced_rows : List ℕ
referenced_rows = 1 ∷ 2 ∷ 3 ∷ 17 ∷ 18 ∷ 20 ∷ 22 ∷ 25 ∷ 43 ∷ 46 ∷ 48 ∷ 54 ∷ 120 ∷ 124 ∷ []

referenced_run : run referenced_tags (only (chart_for Debmul)) 0 ≡ placed
unfolding DEBMUL table lines_from within text chart_of row_over inside run step step_rows free free_rows choose takes owed
referenced_run = refl

referenced_place : rows_of DEBMUL referenced_tags ≡ referenced_rows
unfolding DEBMUL table lines_from within text rows_by next_row chain_from find_in next_of parent_of first_of
referenced_place = refl

-- ---- with none: the tags and their rows
abbrev plain_tags : List ℕ
plain_tags = UNH ∷ BGM ∷ DTM ∷ LIN ∷ DTM ∷ MOA ∷ RFF ∷ FII ∷ SEQ ∷ FII ∷ MOA ∷ CNT ∷ UNT ∷ []

abbrev plain_rows : List ℕ
plain_rows = 1 ∷ 2 ∷ 3 ∷ 17 ∷ 18 ∷ 20 ∷ 22 ∷ 25 ∷ 43 ∷ 46 ∷ 54 ∷ 120 ∷ 124 ∷ []

plain_run : run plain_tags (only (chart_for Debmul)) 0 ≡ placed
unfolding DEBMUL table lines_from within text chart_of row_over inside run step step_rows free free_rows choose takes owed
plain_run = refl

plain_place : rows_of DEBMUL plain_tags ≡ plain_rows
unfolding DEBMUL table lines_from within text rows_by next_row chain_from find_in next_of parent_of first_of
plain_place = refl

-- ---- with one in SG13: the tags and their rows
abbrev elsewhere_tags : List ℕ
elsewhere_tags = UNH ∷ BGM ∷ DTM ∷ LIN ∷ DTM ∷ MOA ∷ RFF ∷ FII ∷ SEQ ∷ FII ∷ MOA ∷ RFF ∷ CNT ∷ UNT ∷ []

abbrev elsewhere_rows : List ℕ
elsewhere_rows = 1 ∷ 2 ∷ 3 ∷ 17 ∷ 18 ∷ 20 ∷ 22 ∷ 25 ∷ 43 ∷ 46 ∷ 54 ∷ 57 ∷ 120 ∷ 124 ∷ []

elsewhere_run : run elsewhere_tags (only (chart_for Debmul)) 0 ≡ placed
unfolding DEBMUL table lines_from within text chart_of row_over inside run step step_rows free free_rows choose takes owed
elsewhere_run = refl

elsewhere_place : rows_of DEBMUL elsewhere_tags ≡ elsewhere_rows
unfolding DEBMUL table lines_from within text rows_by next_row chain_from find_in next_of parent_of first_of
elsewhere_place = refl

-- ---- expected
expected_of : Of Debmul plain_service (coming "BGM+342+1+9'")
unfolding joined text is_kind pieces class_of lex elements value_at same_list
expected_of = refl

expected_tags : tags_of plain_service (coming "BGM+342+1+9'") ≡ referenced_tags
unfolding joined text starts_from pieces tags_from class_of lex value_of code_from
expected_tags = refl

expected_early : tell_all (early (bare_of plain_service (coming "BGM+342+1+9'")) narrow) ≡ []
unfolding joined text serves is_alphanumeric among distinct fitting pieces class_of lex value_of elements value_at same_list is_strange strange_from tag_at closed_at is_reference rule10 is_kind headed lines asked fits early tell tell_all
expected_early = refl

expected_late : least_of (tell_all (rules_for Debmul (segs_of plain_service (coming "BGM+342+1+9'") referenced_rows))) ≡ None
unfolding joined text starts_from pieces class_of lex elements value_at segs_from code_from same_list digits number_of those until stretches each some failing misnumbered rule17 rule18 rule20 pre_advice date_holds rule30 rule31 rank tell tell_all least least_of
expected_late = refl

-- ---- unexpected
unexpected_of : Of Debmul plain_service (coming "BGM+456+1+9'")
unfolding joined text is_kind pieces class_of lex elements value_at same_list
unexpected_of = refl

unexpected_tags : tags_of plain_service (coming "BGM+456+1+9'") ≡ referenced_tags
unfolding joined text starts_from pieces tags_from class_of lex value_of code_from
unexpected_tags = refl

unexpected_early : tell_all (early (bare_of plain_service (coming "BGM+456+1+9'")) narrow) ≡ []
unfolding joined text serves is_alphanumeric among distinct fitting pieces class_of lex value_of elements value_at same_list is_strange strange_from tag_at closed_at is_reference rule10 is_kind headed lines asked fits early tell tell_all
unexpected_early = refl

unexpected_late : least_of (tell_all (rules_for Debmul (segs_of plain_service (coming "BGM+456+1+9'") referenced_rows))) ≡ fault_at 30 5
unfolding joined text starts_from pieces class_of lex elements value_at segs_from code_from same_list digits number_of those until stretches each some failing misnumbered rule17 rule18 rule20 pre_advice date_holds rule30 rule31 rank tell tell_all least least_of
unexpected_late = refl

-- ---- bare
bare_of_lem : Of Debmul plain_service (plain "LIN+1+106'")
unfolding joined text is_kind pieces class_of lex elements value_at same_list
bare_of_lem = refl

bare_tags : tags_of plain_service (plain "LIN+1+106'") ≡ plain_tags
unfolding joined text starts_from pieces tags_from class_of lex value_of code_from
bare_tags = refl

bare_early : tell_all (early (bare_of plain_service (plain "LIN+1+106'")) narrow) ≡ []
unfolding joined text serves is_alphanumeric among distinct fitting pieces class_of lex value_of elements value_at same_list is_strange strange_from tag_at closed_at is_reference rule10 is_kind headed lines asked fits early tell tell_all
bare_early = refl

bare_late : least_of (tell_all (rules_for Debmul (segs_of plain_service (plain "LIN+1+106'") plain_rows))) ≡ None
unfolding joined text starts_from pieces class_of lex elements value_at segs_from code_from same_list digits number_of those until stretches each some failing misnumbered rule17 rule18 rule20 pre_advice date_holds rule30 rule31 rank tell tell_all least least_of
bare_late = refl

-- ---- too_much
too_much_of : Of Debmul plain_service (referenced "LIN+1+106'")
unfolding joined text is_kind pieces class_of lex elements value_at same_list
too_much_of = refl

too_much_tags : tags_of plain_service (referenced "LIN+1+106'") ≡ referenced_tags
unfolding joined text starts_from pieces tags_from class_of lex value_of code_from
too_much_tags = refl

too_much_early : tell_all (early (bare_of plain_service (referenced "LIN+1+106'")) narrow) ≡ []
unfolding joined text serves is_alphanumeric among distinct fitting pieces class_of lex value_of elements value_at same_list is_strange strange_from tag_at closed_at is_reference rule10 is_kind headed lines asked fits early tell tell_all
too_much_early = refl

too_much_late : least_of (tell_all (rules_for Debmul (segs_of plain_service (referenced "LIN+1+106'") referenced_rows))) ≡ fault_at 31 9
unfolding joined text starts_from pieces class_of lex elements value_at segs_from code_from same_list digits number_of those until stretches each some failing misnumbered rule17 rule18 rule20 pre_advice date_holds rule30 rule31 rank tell tell_all least least_of
too_much_late = refl

-- ---- detailed
detailed_of : Of Debmul plain_service (referenced "LIN+1+107'")
unfolding joined text is_kind pieces class_of lex elements value_at same_list
detailed_of = refl

detailed_tags : tags_of plain_service (referenced "LIN+1+107'") ≡ referenced_tags
unfolding joined text starts_from pieces tags_from class_of lex value_of code_from
detailed_tags = refl

detailed_early : tell_all (early (bare_of plain_service (referenced "LIN+1+107'")) narrow) ≡ []
unfolding joined text serves is_alphanumeric among distinct fitting pieces class_of lex value_of elements value_at same_list is_strange strange_from tag_at closed_at is_reference rule10 is_kind headed lines asked fits early tell tell_all
detailed_early = refl

detailed_late : least_of (tell_all (rules_for Debmul (segs_of plain_service (referenced "LIN+1+107'") referenced_rows))) ≡ None
unfolding joined text starts_from pieces class_of lex elements value_at segs_from code_from same_list digits number_of those until stretches each some failing misnumbered rule17 rule18 rule20 pre_advice date_holds rule30 rule31 rank tell tell_all least least_of
detailed_late = refl

-- ---- too_little
too_little_of : Of Debmul plain_service (elsewhere "LIN+1+107'")
unfolding joined text is_kind pieces class_of lex elements value_at same_list
too_little_of = refl

too_little_tags : tags_of plain_service (elsewhere "LIN+1+107'") ≡ elsewhere_tags
unfolding joined text starts_from pieces tags_from class_of lex value_of code_from
too_little_tags = refl

too_little_early : tell_all (early (bare_of plain_service (elsewhere "LIN+1+107'")) narrow) ≡ []
unfolding joined text serves is_alphanumeric among distinct fitting pieces class_of lex value_of elements value_at same_list is_strange strange_from tag_at closed_at is_reference rule10 is_kind headed lines asked fits early tell tell_all
too_little_early = refl

too_little_late : least_of (tell_all (rules_for Debmul (segs_of plain_service (elsewhere "LIN+1+107'") elsewhere_rows))) ≡ fault_at 31 9
unfolding joined text starts_from pieces class_of lex elements value_at segs_from code_from same_list digits number_of those until stretches each some failing misnumbered rule17 rule18 rule20 pre_advice date_holds rule30 rule31 rank tell tell_all least least_of
too_little_late = refl

pub advice_cases : AdviceCases
advice_cases = record {
  expected = holds Debmul narrow (coming "BGM+342+1+9'") referenced_tags referenced_rows expected_of expected_tags referenced_run referenced_place expected_early expected_late;
  unexpected = gives Debmul narrow (coming "BGM+456+1+9'") referenced_tags referenced_rows unexpected_of unexpected_tags referenced_run referenced_place unexpected_early 30 5 unexpected_late;
  bare = holds Debmul narrow (plain "LIN+1+106'") plain_tags plain_rows bare_of_lem bare_tags plain_run plain_place bare_early bare_late;
  too_much = gives Debmul narrow (referenced "LIN+1+106'") referenced_tags referenced_rows too_much_of too_much_tags referenced_run referenced_place too_much_early 31 9 too_much_late;
  detailed = holds Debmul narrow (referenced "LIN+1+107'") referenced_tags referenced_rows detailed_of detailed_tags referenced_run referenced_place detailed_early detailed_late;
  too_little = gives Debmul narrow (elsewhere "LIN+1+107'") elsewhere_tags elsewhere_rows too_little_of too_little_tags elsewhere_run elsewhere_place too_little_early 31 9 too_little_late;
}
