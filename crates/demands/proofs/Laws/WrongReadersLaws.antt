-- The five wrong readers do not get through. Assumes nothing.
use Rattle.std.specs.Prelude.{ℕ, ◌+◌, ◌≡◌, refl, length}
use Rattle.std.proofs.Common.{arith, sym, ◌∙◌, subst}
use Rattle.std.proofs.Math.Path.{ap}
use mathlib.Core.List.{List, [], ◌∷◌}
use Rattle.std.proofs.Math.ListN.{get_or}
use Rattle.service.specs.Tests.{last_of}
use Rattle.service.specs.Service.{plain_service, is_mark, begins_una, characters_of}
use Rattle.segments.specs.Classes.{class_of}
use Rattle.segments.specs.SegmentList.{pieces, starts_from}
use Rattle.parts.specs.Parts.{lex, elements, value_at, value_of}
use Rattle.values.specs.Text.{text, same_list}
use Rattle.values.specs.Forms.Values.{digits, one_more, units, fraction}
use Rattle.interchange.specs.Answers.{Refusal}
use Rattle.interchange.specs.Answers.{Opens}
use Rattle.interchange.specs.Messages.{Extent, closed, bytes_of, tag_at, extent_of, messages_of}
use Rattle.interchange.specs.Envelope.{is_reference, is_header, first_at, body_of}
use Rattle.interchange.specs.Forms.Answers.{opened_by, opening_of}
use Rattle.interchange.specs.Laws.ZeroTheorems.{walks_zero}
use Rattle.lent.specs.Lists.{Lists, Left, left}
use Rattle.lent.specs.Over.{over}
use Rattle.chart.specs.Chart.{Reading}
use Rattle.chart.specs.Tags.{tags_of}
use Rattle.kinds.specs.declared.Kind.{Kind}
use Rattle.kinds.specs.declared.Kind.TheVariants.{Paymul}
use Rattle.message.specs.Kinds.{chart_for}
use Rattle.message.specs.Segs.{segs_from, segs_of, those}
use Rattle.message.specs.Rules.{totals_of}
use Rattle.report.specs.declared.Counts.{Counts}
use Rattle.report.specs.Answers.{Report, Accepted, Refused}
use Rattle.report.specs.Reported.{Room, Of, Applies, room_of, counts_of, filled, Reported, accepted, refused}
use Rattle.report.specs.Laws.KindLaws.{one_kind}
use Rattle.chart.proofs.Theorems.{one_reading}
use Rattle.cases.specs.MessageCases.{room, joined, Gives}
use Rattle.cases.specs.Laws.MessageCasesLaws.{answer, nine, eleven, rows9, rows11, read9, read11}
use Rattle.demands.specs.Runs.{Visit, Run, Over, none, also, Told}
use Rattle.demands.proofs.Laws.RunLaws.{run_over}
use Rattle.demands.proofs.Laws.AnsweringLaws.{answering}
use Rattle.demands.specs.WrongReaders.{Reader, Right, good, longer, bad, clear, two, counts, WrongReaders}

-- ---- what is computed of the two messages
segments9 : counts_of Paymul (segs_of plain_service good rows9) ≡ counts 15 1 1
unfolding joined text starts_from pieces class_of segs_from those
segments9 = refl

segments11 : counts_of Paymul (segs_of plain_service longer rows11) ≡ counts 27 2 3
unfolding joined text starts_from pieces class_of segs_from those
segments11 = refl

totals9 : totals_of (segs_of plain_service good rows9) ≡ 100000 ∷ []
unfolding joined text starts_from pieces class_of lex elements value_at segs_from those digits one_more is_mark units fraction
totals9 = refl

totals11 : totals_of (segs_of plain_service longer rows11) ≡ 200000 ∷ 100000 ∷ []
unfolding joined text starts_from pieces class_of lex elements value_at segs_from those digits one_more is_mark units fraction
totals11 = refl

-- ---- the counts of a message with this reading
module _ (m rows : List ℕ) (i : Of Paymul plain_service m) (r : Reading (chart_for Paymul) (tags_of plain_service m) rows) where
  counts_by : (x x' : Lists) (y : Report) → Reported plain_service m x x' y → (c : Counts) → y ≡ Accepted c → c ≡ counts_of Paymul (segs_of plain_service m rows)
  counts_by x x' y (accepted d k o ns a f e p) c u =
      let z : c ≡ d = cc in
      let q : k ≡ Paymul = one_kind plain_service m k Paymul o i in
      let w = one_reading (chart_for Paymul) (tags_of plain_service m) ns rows (subst (λ (j : Kind). Reading (chart_for j) (tags_of plain_service m) ns) q a) r in
      z ∙ e ∙ ap (λ (j : Kind). counts_of j (segs_of plain_service m ns)) q ∙ ap (λ (l : List ℕ). counts_of Paymul (segs_of plain_service m l)) w
  counts_by x x' y (refused g l o p) c u = absurd (let z : ◌≡◌ {A = ℕ} 0 1 = cc in omega arith)

module _ (r : Reader) (h : Right r) where
  nines : left (r good clear).answer (r good clear).lists ≡ left (Accepted (counts_of Paymul (segs_of plain_service good rows9))) (filled Paymul plain_service good rows9 clear)
  nines = answer good rows9 nine.0.of read9 nine.0.free clear (r good clear).lists (r good clear).answer refl (h good clear)

  elevens : left (r longer clear).answer (r longer clear).lists ≡ left (Accepted (counts_of Paymul (segs_of plain_service longer rows11))) (filled Paymul plain_service longer rows11 clear)
  elevens = answer longer rows11 eleven.0.of read11 eleven.0.free clear (r longer clear).lists (r longer clear).answer refl (h longer clear)

  answer9 : (r good clear).answer ≡ Accepted (counts 15 1 1)
  answer9 = ap (λ (k : Left Report). k.answer) nines ∙ ap Accepted segments9

  answer11 : (r longer clear).answer ≡ Accepted (counts 27 2 3)
  answer11 = ap (λ (k : Left Report). k.answer) elevens ∙ ap Accepted segments11

  lists9 : (r good clear).lists ≡ filled Paymul plain_service good rows9 clear
  lists9 = ap (λ (k : Left Report). k.lists) nines

  lists11 : (r longer clear).lists ≡ filled Paymul plain_service longer rows11 clear
  lists11 = ap (λ (k : Left Report). k.lists) elevens

  all_refused : ((m : List ℕ) (x : Lists) → (f : Refusal) × ((r m x).answer ≡ Refused f)) → ⊥
  all_refused w =
      let f = (w good clear).0 in
      let e : Accepted (counts 15 1 1) ≡ Refused f = sym answer9 ∙ (w good clear).1 in
      let z : ◌≡◌ {A = ℕ} 0 1 = cc in omega arith

  one_answer : (y : Report) → ((m : List ℕ) (x : Lists) → (r m x).answer ≡ y) → ⊥
  one_answer y w =
      let e : Accepted (counts 15 1 1) ≡ Accepted (counts 27 2 3) = sym answer9 ∙ w good clear ∙ sym (w longer clear) ∙ answer11 in
      let c : counts 15 1 1 ≡ counts 27 2 3 = cc in
      let z : ◌≡◌ {A = ℕ} 15 27 = ap (λ (k : Counts). k.segments) c in omega arith

  -- an entry of each list
  row_eighth : get_or (r good clear).lists.rows 7 0 ≡ 24
  unfolding over
  row_eighth = ap (λ (x : Lists). get_or x.rows 7 0) lists9

  row_longer : get_or (r longer clear).lists.rows 7 0 ≡ 28
  unfolding over
  row_longer = ap (λ (x : Lists). get_or x.rows 7 0) lists11

  start_second : get_or (r good clear).lists.starts 1 0 ≡ 22
  unfolding over joined text starts_from pieces class_of
  start_second = ap (λ (x : Lists). get_or x.starts 1 0) lists9

  total_first : get_or (r good clear).lists.totals 0 0 ≡ 100000
  unfolding over
  total_first = ap (λ (x : Lists). get_or x.totals 0 0) lists9 ∙ ap (λ (l : List ℕ). get_or (over l clear.totals) 0 0) totals9

  total_longer : get_or (r longer clear).lists.totals 0 0 ≡ 200000
  unfolding over
  total_longer = ap (λ (x : Lists). get_or x.totals 0 0) lists11 ∙ ap (λ (l : List ℕ). get_or (over l clear.totals) 0 0) totals11

  one_rows : (l : List ℕ) → ((m : List ℕ) (x : Lists) → (r m x).lists.rows ≡ l) → ⊥
  one_rows l w = let z : ◌≡◌ {A = ℕ} 24 28 = sym row_eighth ∙ ap (λ (k : List ℕ). get_or k 7 0) (w good clear ∙ sym (w longer clear)) ∙ row_longer in omega arith

  one_totals : (l : List ℕ) → ((m : List ℕ) (x : Lists) → (r m x).lists.totals ≡ l) → ⊥
  one_totals l w = let z : ◌≡◌ {A = ℕ} 100000 200000 = sym total_first ∙ ap (λ (k : List ℕ). get_or k 0 0) (w good clear ∙ sym (w longer clear)) ∙ total_longer in omega arith

  no_rows : ((m : List ℕ) (x : Lists) → (r m x).lists.rows ≡ x.rows) → ⊥
  no_rows w = let z : ◌≡◌ {A = ℕ} 24 0 = sym row_eighth ∙ ap (λ (k : List ℕ). get_or k 7 0) (w good clear) in omega arith

  no_starts : ((m : List ℕ) (x : Lists) → (r m x).lists.starts ≡ x.starts) → ⊥
  no_starts w = let z : ◌≡◌ {A = ℕ} 22 0 = sym start_second ∙ ap (λ (k : List ℕ). get_or k 1 0) (w good clear) in omega arith

  no_totals : ((m : List ℕ) (x : Lists) → (r m x).lists.totals ≡ x.totals) → ⊥
  no_totals w = let z : ◌≡◌ {A = ℕ} 100000 0 = sym total_first ∙ ap (λ (k : List ℕ). get_or k 0 0) (w good clear) in omega arith

-- ---- the walk
opens : opening_of two ≡ Opens plain_service 0
unfolding joined text characters_of begins_una opening_of opened_by first_at is_header is_reference last_of tag_at pieces class_of lex value_of elements value_at same_list
opens = refl

abbrev one : Extent
one = closed 21 (21 + length good)

abbrev other : Extent
other = closed (21 + length good) (21 + length good + length bad)

found : messages_of plain_service two (body_of plain_service two 0) ≡ one ∷ other ∷ []
unfolding joined text messages_of extent_of tag_at pieces class_of lex value_of same_list
found = refl

first_bytes : bytes_of two one ≡ good
unfolding joined text
first_bytes = refl

second_bytes : bytes_of two other ≡ bad
unfolding joined text
second_bytes = refl

is_refused : (m : List ℕ) (n s : ℕ) → Gives room m n s → (x x' : Lists) (y : Report) → room_of x ≡ room → Reported plain_service m x x' y → (f : Refusal) × (y ≡ Refused f)
is_refused m n s g x x' y e (accepted c k i rows a free p q) = absurd (free n s (subst (λ (k : Room). Applies plain_service m k n s) (sym e) g.applies))
is_refused m n s g x x' y e (refused f l o p) = (f, refl)

visits : (x : Lists) {ms : List Extent} {l : List Visit} → Over plain_service two x ms l → ms ≡ one ∷ other ∷ [] → (w w' : Visit) → l ≡ w ∷ w' ∷ []
    → Told plain_service two x one w × Told plain_service two x other w'
visits x none e w w' q = absurd (let z : ◌≡◌ {A = ℕ} 0 1 = cc in omega arith)
visits x (also m v ms l t none) e w w' q = absurd (let z : ◌≡◌ {A = ℕ} 0 1 = cc in omega arith)
visits x (also m v ms l t (also n u ns k s rest)) e w w' q =
    let a : m ≡ one = cc in
    let b : v ≡ w = cc in
    let c : n ≡ other = cc in
    let d : u ≡ w' = cc in
    (subst (λ (i : Visit). Told plain_service two x one i) b (subst (λ (i : Extent). Told plain_service two x i v) a t), subst (λ (i : Visit). Told plain_service two x other i) d (subst (λ (i : Extent). Told plain_service two x i u) c s))

repeated : (x : Lists) → room_of x ≡ room → (w w' : Visit) → Run two x 0 (w ∷ w' ∷ []) → w.given.answer ≡ w'.given.answer → ⊥
repeated x e w w' run q =
    let o = run_over two plain_service 0 opens x (walks_zero two plain_service 0 opens) run in
    let t = visits x o found w w' refl in
    let a : Reported plain_service good x w.given.lists w.given.answer = subst (λ (m : List ℕ). Reported plain_service m x w.given.lists w.given.answer) first_bytes t.0.report in
    let b : Reported plain_service bad x w'.given.lists w'.given.answer = subst (λ (m : List ℕ). Reported plain_service m x w'.given.lists w'.given.answer) second_bytes t.1.report in
    let c = ap (λ (k : Left Report). k.answer) (answer good rows9 nine.0.of read9 nine.0.free x w.given.lists w.given.answer e a) in
    let d = is_refused bad 25 8 nine.1 x w'.given.lists w'.given.answer e b in
    let f = d.0 in
    let z : Accepted (counts_of Paymul (segs_of plain_service good rows9)) ≡ Refused f = sym c ∙ q ∙ d.1 in
    let y : ◌≡◌ {A = ℕ} 0 1 = cc in omega arith

pub wrong_readers : WrongReaders
wrong_readers = record {
  right = (λ m x. (answering.check plain_service m x).0, λ m x. (answering.check plain_service m x).1);
  refuses_all = all_refused;
  fixed_answer = one_answer;
  fixed_rows = one_rows;
  fixed_totals = one_totals;
  writes_no_rows = no_rows;
  writes_no_starts = no_starts;
  writes_no_totals = no_totals;
  repeats = repeated;
  counts_good = λ x x' c w. counts_by good rows9 nine.0.of read9 x x' (Accepted c) w c refl ∙ segments9;
  counts_longer = λ x x' c w. counts_by longer rows11 eleven.0.of read11 x x' (Accepted c) w c refl ∙ segments11;
}
