-- Demand 1 holds of every call. Assumes nothing.
use Prim.Native.Nat.{ℕ, zero, suc, ◌+◌, ◌≤◌, ◌<◌}
use native.Mathlib.Omega.{arith}
use Rattle.std.proofs.Math.Path.{◌≡◌, refl, ap, subst}
use Rattle.std.proofs.Common.{sym, ◌∙◌, inl, inr}
use Rattle.std.specs.Prelude.{◌⊎◌, Bool, ◌||◌, length, eqb, leb, ltb, Option, None, Some, Ok, Err}
use mathlib.Core.List.{List, [], ◌∷◌, ◌++◌, map}
use Rattle.std.proofs.Math.Bool.{true, false}
use Rattle.std.proofs.Math.ListN.{drop, length-map}
use Rattle.std.proofs.Math.Seq.{drop-append_seam}
use borrow.Author.Tests.{eqb-true, leb-false, ne_eqb}
use Rattle.numbers.specs.declared.Number.{Number}
use Rattle.numbers.specs.Table.{table_number}
use Rattle.numbers.specs.Table.{number_told}
use Rattle.numbers.specs.declared.Number.TheVariants as numbers
use Rattle.service.specs.declared.Service.{Service}
use Rattle.service.specs.declared.Characters.{Characters}
use Rattle.service.specs.Service.{Fit, Unfit, among, Fits, fitting, characters_of}
use Rattle.service.specs.Laws.FitLaws.{fits_if}
use Rattle.service.specs.Tests.{if}
use Rattle.segments.specs.declared.Piece.{Piece}
use Rattle.segments.specs.SegmentList.{segments_from, segments_after, all_finished, starts_of, start_at}
use Rattle.segments.specs.Laws.StartsLaws.{starts_past, starts_count, starts_here}
use Rattle.interchange.specs.Answers.{Refusal}
use Rattle.interchange.specs.Answers.{Opening, Closing, Found}
use Rattle.interchange.specs.Answers as opening
use Rattle.interchange.specs.Finds as found
use Rattle.interchange.specs.Messages.{Extent, starts_at, ends_at, messages_of, cut_before, ends_closed, found_by, found_in, found_from}
use Rattle.interchange.specs.Envelope.{refusal, opening_number}
use Rattle.interchange.specs.Opened.{OpenFault, long, unfit as unfit_characters, headless, endless, OpenedAs, accepted as opens_as, refused as refused_as}
use Rattle.interchange.specs.Closed.{CloseFault, count, reference, stray, LeastOrNone, least, none, ClosedAs, unopened, closes as closes_as}
use Rattle.interchange.specs.Forms.Answers.{opening_of}
use Rattle.interchange.specs.Laws.OpenedLaws.{is_opening}
use Rattle.lent.specs.Lists.{Lists}
use Rattle.lent.specs.Over.{over}
use Rattle.chart.specs.Chart.{Reading}
use Rattle.chart.specs.Tags.{tags_of}
use Rattle.chart.specs.Laws.TagsLaws.{same_count}
use Rattle.chart.specs.Forms.Next.{rows_of}
use Rattle.kinds.specs.declared.Kind.{Kind}
use Rattle.kinds.specs.declared.Kind.TheVariants.{Paymul, Debmul}
use Rattle.kinds.specs.Kinds.{table_of}
use Rattle.chart.proofs.Whole.{placed_rows}
use Rattle.chart.proofs.Tables.{sound}
use Rattle.message.specs.Segs.{Seg, segs_of}
use Rattle.message.specs.Rules.{totals_of}
use Rattle.message.specs.Kinds.{chart_for, rules_for, totals_for, order_count}
use Rattle.message.specs.Faults.{rank, told, tell, tell_all}
use Rattle.report.specs.declared.Counts.{Counts}
use Rattle.report.specs.Answers.{Report}
use Rattle.report.specs.Answers as report
use Rattle.report.specs.Reported.{Room, raw_of, bare_of, told_unless, rule10, fits, early, In, here, there, Applies, soon, misfit, late, Lowest, offset_of, counts_of, filled, room_of, Reported, accepted, refused}
use Rattle.report.specs.Reported as reported
use Rattle.report.specs.Laws.ToldLaws.{Every, every, All, all_told}
use Rattle.report.specs.Laws.SmallLaws.{late_within}
use Rattle.report.specs.Laws.FillLaws.{rows_are, placed_length, totals_count}
use Rattle.report.specs.Laws.PieceLaws.{pieces_tags}
use Rattle.report.specs.Laws.RefusalLaws.{refusal_place}
use Rattle.walk.specs.Steps.{Walked}
use Rattle.walk.specs.Steps as walked
use Rattle.walk.specs.Frame.{Step, step_at, step_with, step_from}
use Rattle.walk.specs.Frame as frame
use Rattle.walk.specs.Walks.{between, Walks, walks_message, walks_nothing, walks_refused, Judges, judges}
use Rattle.report.specs.Judged.{Judged, judged}
use Rattle.rewrite.specs.Answers.{Rewriting}
use Rattle.rewrite.specs.Answers as rewriting
use Rattle.rewrite.specs.Plain.{rewritten, rewriting_by, rewriting_of, room_by, room_after}
use Rattle.rewrite.specs.Plain as plain
use Rattle.twineherald.specs.declared.ReportNumbers.{ReportNumbers}
use Rattle.twineherald.specs.declared.StepNumbers.{StepNumbers}
use Rattle.twineherald.specs.declared.RewritingNumbers.{RewritingNumbers}
use Rattle.twineherald.specs.declared.ClosingNumbers.{ClosingNumbers}
use Rattle.twineherald.specs.Numbers.{report_of, step_of, rewriting_numbers, closing_numbers, OpenedWith, opened as opened_with, ClosedWith, closed as closed_with, Stepped, stepped, Checked, checked, unfit, Rewritten}
use Rattle.twineherald.specs.Several.{numbers_of, Answered as AnsweredAt, answered, SteppedEach, given, shorter}
use Rattle.twineherald.specs.Laws.SeveralLaws.{numbers_one}
use Rattle.demands.specs.Refusals.{by_opening, by_walking, by_rewriting, by_closing, by_segment, Nowhere, Tabled, nowhere, byte, head, last, segment, TabledIn, Beyond, Given, given_by, refusal_in, counts_in, Refusals}

-- ---- a refusal at 0, 0
at_none : (n : Number) (numbers : List ℕ) → among (table_number n) numbers ≡ true → Nowhere numbers (given_by (refusal n))
at_none n numbers h = record { number = h; segment = refl; offset = refl }

-- ---- opening
abbrev Opened : Opening → Type 0
Opened (Ok o) = Unit {0}
Opened (Err f) = Nowhere by_opening (given_by f)

fault_one : (s : List ℕ) (n : ℕ) → OpenFault s n → among n by_opening ≡ true
unfolding among
fault_one s n (long w e) = rw e
fault_one s n (unfit_characters w e) = rw e
fault_one s n (headless v una c w e) = rw e
fault_one s n (endless v una c w e) = rw e

opened : (s : List ℕ) {o : Opening} → OpenedAs s o → Opened o
opened s (opens_as v first w) = tt
opened s (refused_as n l) = at_none n by_opening (fault_one s (table_number n) l.one)

opens : (s : List ℕ) (f : Refusal) → OpenedAs s (opening.Refused f) → Nowhere by_opening (given_by f)
opens s f w = opened s w

or_right : (a b : Bool) → b ≡ true → (a || b) ≡ true
or_right true b e = refl
or_right false b e = e

-- one of these, or 0
or_none : (n : ℕ) (numbers : List ℕ) → among n numbers ≡ true → among n (0 ∷ numbers) ≡ true
unfolding among
or_none n numbers h = or_right (eqb n 0) (among n numbers) h

number_by : (o : Opening) → Opened o → among (opening_number o) (0 ∷ by_opening) ≡ true
unfolding among
number_by (Ok o) h = refl
number_by (Err f) h = or_none (table_number f.number) by_opening h.number

-- ---- closing
or_more : (a b c : Bool) → (b ≡ true → c ≡ true) → (a || b) ≡ true → (a || c) ≡ true
or_more true b c h e = refl
or_more false b c h e = h e

among_more : (n : ℕ) (k l : List ℕ) → among n k ≡ true → among n (k ++ l) ≡ true
unfolding among
among_more n [] l h = absurd (let z : ◌≡◌ {A = ℕ} 0 1 = cc in omega arith)
among_more n (x ∷ k) l h = or_more (eqb n x) (among n k) (among n (k ++ l)) (among_more n k l) h

closing_one : (v : Service) (s : List ℕ) (first n : ℕ) → CloseFault v s first n → among n (0 ∷ by_closing) ≡ true
unfolding among
closing_one v s first n (count w e) = rw e
closing_one v s first n (reference w e) = rw e
closing_one v s first n (stray w e) = rw e

closing_number_lem : (v : Service) (s : List ℕ) (first n : ℕ) → LeastOrNone (CloseFault v s first) n → among n (0 ∷ by_closing) ≡ true
unfolding among
closing_number_lem v s first n (least l) = closing_one v s first n l.one
closing_number_lem v s first n (none w e) = rw e

closed_by_lem : (s : List ℕ) {c : Closing} → ClosedAs s c → among (closing_numbers c).number (0 ∷ by_closing) ≡ true
closed_by_lem s (unopened n l) = or_none (table_number n) by_closing (among_more (table_number n) by_opening (5 ∷ 6 ∷ 7 ∷ []) (fault_one s (table_number n) l.one))
closed_by_lem s (closes_as v first n o l) = closing_number_lem v s first (number_told n) l

-- a refusal of closing is one of opening
abbrev Shut : Closing → Type 0
Shut (Ok c) = Unit {0}
Shut (Err f) = Nowhere by_opening (given_by f)

shut : (s : List ℕ) {c : Closing} → ClosedAs s c → Shut c
shut s (unopened n l) = at_none n by_opening (fault_one s (table_number n) l.one)
shut s (closes_as v first n o l) = tt

shuts : (s : List ℕ) (f : Refusal) → ClosedAs s (Err f) → Nowhere by_opening (given_by f)
shuts s f w = shut s w

c_opens : (b : List ℕ) (x : ℕ) → OpenedWith b x → among x (0 ∷ by_opening) ≡ true
c_opens b x (opened_with o w e) = subst (λ (n : ℕ). among n (0 ∷ by_opening) ≡ true) (sym e) (number_by o (opened b w))

c_closes : (b : List ℕ) (y : ClosingNumbers) → ClosedWith b y → among y.number (0 ∷ by_closing) ≡ true
c_closes b y (closed_with c w e) = subst (λ (n : ClosingNumbers). among n.number (0 ∷ by_closing) ≡ true) (sym e) (closed_by_lem b w)

-- ---- a message: number and segment of all that applies
data Row (k n s : ℕ) : Type 0 where
  row_none : among n (1 ∷ 2 ∷ 14 ∷ []) ≡ true → s ≡ 0 → Row k n s
  row_byte : n ≡ 10 → 1 ≤ s → s ≤ k → Row k n s
  row_head : among n (11 ∷ 12 ∷ []) ≡ true → s ≡ 1 → Row k n s
  row_last : n ≡ 13 → s ≡ 10000 → 10000 ≤ k → Row k n s
  row_segment : among n by_segment ≡ true → 1 ≤ s → s ≤ k → Row k n s

-- a case for each of these numbers
abbrev Cases : List ℕ → Type 0
Cases [] = Unit {0}
Cases (n ∷ l) = ((c : Number) × (table_number c ≡ n)) × Cases l

case_by : (n x : ℕ) (l : List ℕ) → (c : Number) × (table_number c ≡ x) → (among n l ≡ true → (c : Number) × (table_number c ≡ n)) → (b : Bool) → eqb n x ≡ b → (b || among n l) ≡ true
    → (c : Number) × (table_number c ≡ n)
case_by n x l u rest true e h = (u.0, u.1 ∙ sym (eqb-true n x e))
case_by n x l u rest false e h = rest h

case_in : (n : ℕ) (l : List ℕ) → Cases l → among n l ≡ true → (c : Number) × (table_number c ≡ n)
unfolding among
case_in n [] u h = absurd (let z : ◌≡◌ {A = ℕ} 0 1 = cc in omega arith)
case_in n (x ∷ l) u h = case_by n x l u.0 (case_in n l u.1) (eqb n x) refl h

row_case : (k n s : ℕ) → Row k n s → (c : Number) × (table_number c ≡ n)
row_case k n s (row_none e q) = case_in n (1 ∷ 2 ∷ 14 ∷ []) ((numbers.TooLong, refl), ((numbers.Characters, refl), ((numbers.Lists, refl), tt))) e
row_case k n s (row_byte e a b) = (numbers.Byte, sym e)
row_case k n s (row_head e q) = case_in n (11 ∷ 12 ∷ []) ((numbers.Unclosed, refl), ((numbers.Type, refl), tt)) e
row_case k n s (row_last e q h) = (numbers.TooMany, sym e)
row_case k n s (row_segment e a b) =
    case_in n by_segment
    ((numbers.Placement, refl), ((numbers.TrailerCount, refl), ((numbers.TrailerReference, refl), ((numbers.LineNumber, refl), ((numbers.SequenceNumber, refl), ((numbers.Amount, refl), ((numbers.Qualifier, refl), ((numbers.Currency, refl), ((numbers.Exchange, refl), ((numbers.Total, refl), ((numbers.Parties, refl), ((numbers.Details, refl), ((numbers.Control, refl), ((numbers.Dates, refl), ((numbers.References, refl), tt)))))))))))))))
    e

unless_is : (P : ℕ → Type 0) (b : Bool) (s : ℕ) → (b ≡ false → P s) → Every P (told_unless b s)
unless_is P true s h = tt
unless_is P false s h = (h refl, tt)

-- all numbers of the rules on a placed message are of the table
abbrev Known : List (ℕ × List ℕ) → Type 0
Known [] = Unit {0}
Known (r ∷ rs) = (among r.0 by_segment ≡ true) × Known rs

known_all : (rs : List (ℕ × List ℕ)) → Known rs → All (λ n s. among n by_segment ≡ true) rs
known_all [] h = tt
known_all (r ∷ rs) h = (every (λ s. among r.0 by_segment ≡ true) (λ s. h.0) r.1, known_all rs h.1)

rules_known : (k : Kind) (m : List Seg) → Known (rules_for k m)
unfolding among
rules_known Paymul m = (refl, (refl, (refl, (refl, (refl, (refl, (refl, (refl, (refl, (refl, (refl, (refl, tt))))))))))))
rules_known Debmul m = (refl, (refl, (refl, (refl, (refl, tt)))))

late_known : (k : Kind) (n s : ℕ) (m : List Seg) → In (told n s) (tell_all (rules_for k m)) → among n by_segment ≡ true
late_known k n s m i = all_told (λ n s. among n by_segment ≡ true) (rules_for k m) (told n s) (known_all (rules_for k m) (rules_known k m)) i

module _ (v : Service) (m : List ℕ) where
  abbrev many : ℕ
  many = length (segments_from v m 0)

  tens : (n : ℕ) (l : List reported.Raw) → 1 ≤ n → n + length l ≤ suc many → Every (Row many 10) (rule10 n l)
  unfolding rule10
  tens n [] h g = tt
  tens n (r ∷ l) h g = go r.usual (tens (suc n) l (omega arith) (omega arith))
    where
      go : (b : Bool) → Every (Row many 10) (rule10 (suc n) l) → Every (Row many 10) (told_unless b n ++ rule10 (suc n) l)
      go true w = w
      go false w = (row_byte refl h (omega arith), w)

  early_rows : (x : Room) → All (Row many) (early (bare_of v m) x)
  unfolding early among
  early_rows x =
      let z = length-map (segments_from v m 0) (raw_of v m) in (
        unless_is (Row many 1) (leb (length m) 1048576) 0 (λ _. row_none refl refl),
        (
          unless_is (Row many 2) (fitting v) 0 (λ _. row_none refl refl),
          (
            tens 1 (map (raw_of v m) (segments_from v m 0)) (omega arith) (omega arith),
            (
              unless_is (Row many 11) (ends_closed v m) 1 (λ _. row_head refl refl),
              (
                unless_is (Row many 12) (reported.headed (map (raw_of v m) (segments_from v m 0))) 1 (λ _. row_head refl refl),
                (
                  unless_is (Row many 13) (leb (length (map (raw_of v m) (segments_from v m 0))) 9999) 10000
                      (λ e. let g = leb-false (length (map (raw_of v m) (segments_from v m 0))) 9999 e in row_last refl refl (omega arith)),
                  (
                    unless_is (Row many 14) (fits (map (raw_of v m) (segments_from v m 0)) x) 0 (λ _. row_none refl refl),
                    tt,
                  ),
                ),
              ),
            ),
          ),
        ),
      )

  rows_many : (k : Kind) (rows : List ℕ) → Reading (chart_for k) (tags_of v m) rows → length rows ≡ many
  rows_many k rows r = ap length (placed_rows (table_of k) (sound k) (tags_of v m) rows r.placement) ∙ rows_are (table_of k) v m ∙ sym (pieces_tags v m)

  row_of : (x : Room) (n s : ℕ) → Applies v m x n s → Row many n s
  unfolding among
  row_of x n s (soon i) = all_told (Row many) (early (bare_of v m) x) (told n s) (early_rows x) i
  row_of x n s (misfit c o j g p q) = let w = g.within in let z = pieces_tags v m in row_segment (ap (λ (k : ℕ). among k by_segment) p) (omega arith) (omega arith)
  row_of x n s (late c o rows r i) =
      let w = late_within c v m rows n s i in
      let a = w.0 in
      let b = w.1 in
      let z = rows_many c rows r in
      row_segment (late_known c n s (segs_of v m rows) i) a (omega arith)

  -- a message with a segment has bytes
  -- every number that applies is that of a case
  pub applies_case : (x : Room) (n s : ℕ) → Applies v m x n s → (c : Number) × (table_number c ≡ n)
  applies_case x n s a = row_case many n s (row_of x n s a)

  has_bytes : 1 ≤ many → 0 < length m
  has_bytes h = go (length m) refl
    where
      go : (n : ℕ) → length m ≡ n → 0 < length m
      go zero e = absurd (let z = starts_count v m 0 in let y = ap length (starts_past v m 0 (omega arith)) in omega arith)
      go (suc n) e = omega arith

  first_start : start_at v m 0 ≡ 0
  first_start = starts_here v m 0 (omega arith)

  -- under 10 the service characters fit: else it were 2
  two_told : (rest : List (ℕ × List ℕ)) (a b : Bool) → b ≡ false → In (told 2 0) (tell_all ((1, told_unless a 0) ∷ (2, told_unless b 0) ∷ rest))
  unfolding tell tell_all
  two_told rest a true e = absurd (let z : ◌≡◌ {A = ℕ} 0 1 = cc in omega arith)
  two_told rest true false e = here
  two_told rest false false e = there here

  two_applies : (x : Room) → fitting v ≡ false → Applies v m x 2 0
  unfolding early
  two_applies x e = soon (two_told _ (leb (length m) 1048576) (fitting v) e)

  ten_fits : (x : Room) (n s : ℕ) → Lowest v m x n s → n ≡ 10 → Fits v
  unfolding rank
  ten_fits x n s l e = go (fitting v) refl
    where
      by : (rank n < rank 2) ⊎ ((n ≡ 2) × (s ≤ 0)) → ⊥
      by (inl h) = omega arith
      by (inr h) = let i = h.0 in omega arith

      go : (b : Bool) → fitting v ≡ b → Fits v
      go true q = fits_if v q
      go false q = absurd (by (l.least 2 0 (two_applies x q)))

  offset_none : (n : ℕ) → offset_of v m n 0 ≡ 0
  unfolding offset_of
  offset_none n = refl

  offset_start : (n k : ℕ) → (n ≡ 10 → ⊥) → offset_of v m n (suc k) ≡ start_at v m k
  unfolding offset_of
  offset_start n k h = rw (ne_eqb n 10 h)

  not_ten : (numbers : List ℕ) → among 10 numbers ≡ false → (n : ℕ) → among n numbers ≡ true → n ≡ 10 → ⊥
  not_ten numbers h n e q = let z : true ≡ false = sym e ∙ ap (λ (k : ℕ). among k numbers) q ∙ h in let y : ◌≡◌ {A = ℕ} 0 1 = cc in omega arith

  pred : (s : ℕ) → 1 ≤ s → (k : ℕ) × (s ≡ suc k)
  pred zero h = absurd (omega arith)
  pred (suc k) h = (k, refl)

  module _ (x x' : Lists) (f : Refusal) (w : Reported v m x x' (report.Refused f)) (l : Lowest v m (room_of x) (table_number f.number) f.segment) (o : f.offset ≡ offset_of v m (table_number f.number) f.segment) where
    starts_at_lem : (numbers : List ℕ) → among 10 numbers ≡ false → among (table_number f.number) numbers ≡ true → (k : ℕ) → f.segment ≡ suc k → f.offset ≡ start_at v m k
    starts_at_lem numbers h e k q = o ∙ ap (offset_of v m (table_number f.number)) q ∙ offset_start (table_number f.number) k (not_ten numbers h (table_number f.number) e)

    tabled : Row many (table_number f.number) f.segment → Tabled v m (given_by f)
    unfolding among
    tabled (row_none e q) = nowhere (record { number = e; segment = q; offset = o ∙ ap (offset_of v m (table_number f.number)) q ∙ offset_none (table_number f.number) })
    tabled (row_byte e a b) =
        let k = pred f.segment a in
        let n = k.0 in
        let q : f.segment ≡ suc n = k.1 in
        let u = (refusal_place v m (has_bytes (omega arith)) x x' f w).1 n q in
        let t = ten_fits (room_of x) (table_number f.number) f.segment l e in
        byte n e (record { segment = q; some = u.some }) (u.from t e) (u.to t e)
    tabled (row_head e q) = head e q (starts_at_lem (11 ∷ 12 ∷ []) refl e 0 q ∙ first_start)
    tabled (row_last e q h) =
        last e (record { segment = q; some = omega arith }) (starts_at_lem (13 ∷ []) refl (ap (λ (k : ℕ). among k (13 ∷ [])) e) 9999 q)
    tabled (row_segment e a b) =
        let k = pred f.segment a in
        let n = k.0 in
        let q : f.segment ≡ suc n = k.1 in
        segment n e (record { segment = q; some = omega arith }) (starts_at_lem by_segment refl e n q)

  module _ (x x' : Lists) where
    check_by : (y : Report) → Reported v m x x' y → (f : Refusal) → y ≡ report.Refused f → Tabled v m (given_by f) × (x' ≡ x)
    check_by y (accepted c k i rows a free e p) f u = absurd (let z : ◌≡◌ {A = ℕ} 0 1 = cc in omega arith)
    check_by y (refused g l o p) f u =
        let z : g ≡ f = cc in
        (subst (λ (k : Refusal). Tabled v m (given_by k)) z (tabled x x' g (refused g l o p) l o (row_of (room_of x) (table_number g.number) g.segment l.applies)), p)

    pub checks : (f : Refusal) → Reported v m x x' (report.Refused f) → Tabled v m (given_by f) × (x' ≡ x)
    checks f w = check_by (report.Refused f) w f refl

    -- acceptance
    drop_over : (n : ℕ) (new old : List ℕ) → length new ≡ n → drop n (over new old) ≡ drop n old
    unfolding over
    drop_over n new old e = subst (λ (k : ℕ). drop k (new ++ drop (length new) old) ≡ drop k old) e (drop-append_seam new (drop (length new) old))

    beyond_totals : (k : Kind) → Reading (chart_for k) (tags_of v m) (rows_of (table_of k) (tags_of v m))
        → drop (order_count k (segs_of v m (rows_of (table_of k) (tags_of v m)))) (over (totals_for k (segs_of v m (rows_of (table_of k) (tags_of v m)))) x.totals) ≡ drop (order_count k (segs_of v m (rows_of (table_of k) (tags_of v m)))) x.totals
    beyond_totals Paymul r = drop_over _ (totals_of (segs_of v m (rows_of (table_of Paymul) (tags_of v m)))) x.totals (totals_count v m r.placement)
    beyond_totals Debmul r = unfold over in refl

    beyond_of : (k : Kind) (rows : List ℕ) → Reading (chart_for k) (tags_of v m) rows → Beyond (counts_of k (segs_of v m rows)) x (filled k v m rows x)
    beyond_of k rows r =
        let q : rows ≡ rows_of (table_of k) (tags_of v m) = placed_rows (table_of k) (sound k) (tags_of v m) rows r.placement in
        let p : Reading (chart_for k) (tags_of v m) (rows_of (table_of k) (tags_of v m)) = subst (Reading (chart_for k) (tags_of v m)) q r in
        let n = placed_length (table_of k) v m in
        subst (λ (l : List ℕ). Beyond (counts_of k (segs_of v m l)) x (filled k v m l x)) (sym q) (record {
          rows = drop_over _ (rows_of (table_of k) (tags_of v m)) x.rows (rows_are (table_of k) v m ∙ sym n);
          starts = drop_over _ (starts_of v m) x.starts (same_count v m 0 ∙ sym n);
          totals = beyond_totals k p;
        })

    beyond_by : (y : Report) → Reported v m x x' y → (c : Counts) → y ≡ report.Accepted c → Beyond c x x'
    beyond_by y (accepted d k o rows a free e p) c u =
        let z : counts_of k (segs_of v m rows) ≡ c = sym e ∙ (let i : d ≡ c = cc in i) in
        subst (λ (i : Counts). Beyond i x x') z (subst (λ (l : Lists). Beyond (counts_of k (segs_of v m rows)) x l) (sym p) (beyond_of k rows a))
    beyond_by y (refused g l o p) c u = absurd (let z : ◌≡◌ {A = ℕ} 0 1 = cc in omega arith)

    pub beyond : (c : Counts) → Reported v m x x' (report.Accepted c) → Beyond c x x'
    beyond c w = beyond_by (report.Accepted c) w c refl

-- ---- the walk
abbrev Went : Step → Type 0
Went (Ok o) = Unit {0}
Went (Err f) = Nowhere by_walking (given_by f)

went_if : (b : Bool) (k k' : Found) → Went k → Went k' → Went (if b k k')
went_if true k k' h h' = h
went_if false k k' h h' = h'

went_by : (ms : List Extent) (l : List Piece) → Went (found_by ms l)
unfolding among
went_by [] l = went_if (all_finished l) found.Nothing found.Unfinished tt (at_none numbers.End by_walking refl)
went_by (m ∷ ms) l = went_if (cut_before (ends_at m) l) found.Unfinished (found.Message (starts_at m) (ends_at m)) (at_none numbers.End by_walking refl) tt

went_found : (v : Service) (s : List ℕ) (at : ℕ) → Went (found_from v s at)
unfolding found_in
went_found v s at = went_by (messages_of v s (segments_after v s at)) (segments_after v s at)

went_at : (v : Service) (s : List ℕ) (at : ℕ) → Went (step_at v s at)
unfolding step_at among
went_at v s at = went_if (ltb (length s) at) (frame.refused (refusal numbers.Position)) (found_from v s at) (at_none numbers.Position by_walking refl) (went_found v s at)

went_with : (s : List ℕ) (at : ℕ) (c : Option Characters) → Went (step_with s at c)
unfolding among
went_with s at (Some k) = went_at k.service s at
went_with s at Unfit = at_none numbers.Characters by_walking refl

went : (s : List ℕ) (at : ℕ) → Went (step_from s at)
unfolding step_from among
went s at = went_if (ltb 1048576 (length s)) (frame.refused (refusal numbers.TooLong)) (step_with s at (characters_of s)) (at_none numbers.TooLong by_walking refl) (went_with s at (characters_of s))

-- whatever the walk answers
abbrev Message : List ℕ → Lists → Lists → ℕ → ℕ → Report → Type 0
Message b x x' a e (Ok c) = Beyond c x x'
Message b x x' a e (Err f) = TabledIn b (between b a e) (given_by f) × (x' ≡ x)

abbrev Told : List ℕ → Lists → Lists → Walked → Type 0
Told b x x' (Ok (Some m)) = Message b x x' m.start m.end m.report
Told b x x' (Ok None) = x' ≡ x
Told b x x' (Err f) = Nowhere by_walking (given_by f) × (x' ≡ x)

message_told : (b : List ℕ) (x x' : Lists) (v : Service) (una : ℕ) → characters_of b ≡ Fit v una → (a e : ℕ) (y : Report) → Reported v (between b a e) x x' y → Message b x x' a e y
message_told b x x' v una c a e (Ok k) w = beyond v (between b a e) x x' k w
message_told b x x' v una c a e (Err f) w =
    let z = checks v (between b a e) x x' f w in
    (record { characters = v; una = una; fit = c; tabled = z.0 }, z.1)

walk_told : (b : List ℕ) (at : ℕ) (x x' : Lists) (y : Walked) → Walks b at x x' y → Told b x x' y
walk_told b at x x' y (walks_message v una a e k n p q) = message_told b x x' v una n a e k q
walk_told b at x x' y (walks_nothing p i) = i
walk_told b at x x' y (walks_refused g p i) = (subst Went (sym p) (went b at), i)

-- ---- with lists that are long enough
judges_told : (v : Service) (m : List ℕ) (f : Refusal) → Judged v m (report.Refused f) → Tabled v m (given_by f)
judges_told v m f (judged x x' e w) = (checks v m x x' f w).0

walk_judges : (b : List ℕ) (at : ℕ) (f : Refusal) → Judges b at (walked.Refused f) → Nowhere by_walking (given_by f)
walk_judges b at f (judges x x' l w) = (walk_told b at x x' (walked.Refused f) w).0

message_judges : (b : List ℕ) (at a e : ℕ) (f : Refusal) → Judges b at (walked.Message a e (report.Refused f)) → TabledIn b (between b a e) (given_by f)
message_judges b at a e f (judges x x' l w) = (walk_told b at x x' (walked.Message a e (report.Refused f)) w).0

-- ---- rewriting
abbrev Wrote : List ℕ → List ℕ → Rewriting → Type 0
Wrote new old (Ok n) = n ≡ length new
Wrote new old (Err f) = Nowhere by_rewriting (given_by f)

wrote_by : (new old : List ℕ) (o : Opening) → Opened o → Wrote new old (rewriting_by o (length new) (length old))
unfolding among
wrote_by new old (Ok o) h = go (plain.fits (length new) (length old))
  where
    go : (b : Bool) → Wrote new old (if b (rewriting.Written (length new)) (rewriting.Refused (refusal numbers.Room)))
    go true = refl
    go false = at_none numbers.Room by_rewriting refl
wrote_by new old (Err f) h = record { number = among_more (table_number f.number) by_opening (9 ∷ []) h.number; segment = h.segment; offset = h.offset }

wrote : (s old : List ℕ) → Wrote (rewritten s) old (rewriting_of s (length old))
unfolding rewriting_of
wrote s old = wrote_by (rewritten s) old (opening_of s) (opened s (is_opening s (opening_of s) refl))

rewrites : (s o : List ℕ) (f : Refusal) → rewriting_of s (length o) ≡ rewriting.Refused f → Nowhere by_rewriting (given_by f) × (room_after s o ≡ o)
unfolding room_after
rewrites s o f e = (subst (Wrote (rewritten s) o) e (wrote s o), ap (λ (k : Rewriting). room_by k (rewritten s) o) e)

rewrites_beyond : (s o : List ℕ) (n : ℕ) → rewriting_of s (length o) ≡ rewriting.Written n → drop n (room_after s o) ≡ drop n o
unfolding room_after over
rewrites_beyond s o n e =
    let q : n ≡ length (rewritten s) = subst (Wrote (rewritten s) o) e (wrote s o) in
    ap (λ (k : Rewriting). drop n (room_by k (rewritten s) o)) e
    ∙ subst (λ (k : ℕ). drop k (rewritten s ++ drop (length (rewritten s)) o) ≡ drop k o) (sym q) (drop-append_seam (rewritten s) (drop (length (rewritten s)) o))

-- ---- for C
abbrev Answered : (Given → Type 0) → Lists → Lists → ReportNumbers → Type 0
Answered P x x' y = (y.number ≡ 0 → ⊥) → P (refusal_in y) × (x' ≡ x)

c_report : (v : Service) (m : List ℕ) (x x' : Lists) (w : Report) → Reported v m x x' w → Answered (Tabled v m) x x' (report_of w)
c_report v m x x' (Ok c) h g = absurd (g refl)
c_report v m x x' (Err f) h g = checks v m x x' f h

abbrev OnCheck : List ℕ → List ℕ → Given → Type 0
OnCheck h m f = Nowhere (2 ∷ []) f ⊎ TabledIn h m f

c_checks : (h m : List ℕ) (x x' : Lists) (y : ReportNumbers) → Checked h m x x' y → Answered (OnCheck h m) x x' y
unfolding among
c_checks h m x x' y (checked v una w p l e) =
    subst (Answered (OnCheck h m) x x') (sym e) (λ g. let z = c_report v m x x' w l g in (inr (record { characters = v; una = una; fit = p; tabled = z.0 }), z.1))
c_checks h m x x' y (unfit q e p) = subst (Answered (OnCheck h m) x x') (sym e) (λ g. (inl (at_none numbers.Characters (2 ∷ []) refl), p))

abbrev OnWalk : List ℕ → StepNumbers → Type 0
OnWalk b y = Nowhere by_walking (refusal_in y.report) ⊎ TabledIn b (between b y.start y.end) (refusal_in y.report)

c_message : (b : List ℕ) (x x' : Lists) (a e : ℕ) (y : Report) → Message b x x' a e y → ((report_of y).number ≡ 0 → ⊥) → OnWalk b (step_of (walked.Message a e y)) × (x' ≡ x)
c_message b x x' a e (Ok c) h g = absurd (g refl)
c_message b x x' a e (Err f) h g = (inr h.0, h.1)

c_told : (b : List ℕ) (x x' : Lists) (w : Walked) → Told b x x' w → ((step_of w).report.number ≡ 0 → ⊥) → OnWalk b (step_of w) × (x' ≡ x)
c_told b x x' (Ok (Some m)) h g = c_message b x x' m.start m.end m.report h g
c_told b x x' (Ok None) h g = absurd (g refl)
c_told b x x' (Err f) h g = (inl h.0, h.1)

c_walks : (b : List ℕ) (at : ℕ) (x x' : Lists) (y : StepNumbers) → Stepped b at x x' y → (y.report.number ≡ 0 → ⊥) → OnWalk b y × (x' ≡ x)
c_walks b at x x' y (stepped w l e) = subst (λ (k : StepNumbers). (k.report.number ≡ 0 → ⊥) → OnWalk b k × (x' ≡ x)) (sym e) (c_told b x x' w (walk_told b at x x' w l))

c_each : (b ps : List ℕ) (a a' : List (List ℕ)) (x : ℕ) → SteppedEach b ps a a' x → (x ≡ 0 → ⊥) → (x ≡ 14) × (a' ≡ a)
c_each b ps a a' x (given w e) g = absurd (g e)
c_each b ps a a' x (shorter l q f) g = (f, q)

c_answers : (b : List ℕ) (at : ℕ) (y : StepNumbers) → AnsweredAt b at (numbers_of y) → (y.report.number ≡ 0 → ⊥) → OnWalk b y
c_answers b at y (answered x x' z l w q) g =
    let e : y ≡ z = numbers_one y z q in
    subst (OnWalk b) (sym e) (c_walks b at x x' z w (λ h. g (ap (λ (k : StepNumbers). k.report.number) e ∙ h))).0

c_room : (s o : List ℕ) (w : Rewriting) → rewriting_of s (length o) ≡ w → ((rewriting_numbers w).number ≡ 0 → ⊥) → (among (rewriting_numbers w).number by_rewriting ≡ true) × (room_after s o ≡ o)
c_room s o (Ok n) e g = absurd (g refl)
c_room s o (Err f) e g = let z = rewrites s o f e in (z.0.number, z.1)

c_rewrites : (b o o' : List ℕ) (y : RewritingNumbers) → Rewritten b y o o' → (y.number ≡ 0 → ⊥) → (among y.number by_rewriting ≡ true) × (o' ≡ o)
c_rewrites b o o' y w g =
    let p = ap (λ (k : RewritingNumbers). k.number) w.numbers in
    let z = c_room b o (rewriting_of b (length o)) refl (λ q. g (p ∙ q)) in
    (ap (λ (n : ℕ). among n by_rewriting) p ∙ z.0, w.room ∙ z.1)

-- past the counts
same_beyond : (c : Counts) (x x' : Lists) → x' ≡ x → Beyond c x x'
same_beyond c x x' e = subst (Beyond c x) (sym e) (record { rows = refl; starts = refl; totals = refl })

report_beyond : (v : Service) (m : List ℕ) (x x' : Lists) (w : Report) → Reported v m x x' w → Beyond (counts_in (report_of w)) x x'
report_beyond v m x x' (Ok c) h = beyond v m x x' c h
report_beyond v m x x' (Err f) h = same_beyond _ x x' (checks v m x x' f h).1

check_on : (h m : List ℕ) (x x' : Lists) (y : ReportNumbers) → Checked h m x x' y → Beyond (counts_in y) x x'
check_on h m x x' y (checked v una w p l e) = subst (λ (k : ReportNumbers). Beyond (counts_in k) x x') (sym e) (report_beyond v m x x' w l)
check_on h m x x' y (unfit q e p) = same_beyond (counts_in y) x x' p

message_beyond : (b : List ℕ) (x x' : Lists) (a e : ℕ) (y : Report) → Message b x x' a e y → Beyond (counts_in (report_of y)) x x'
message_beyond b x x' a e (Ok c) h = h
message_beyond b x x' a e (Err f) h = same_beyond _ x x' h.1

told_beyond : (b : List ℕ) (x x' : Lists) (w : Walked) → Told b x x' w → Beyond (counts_in (step_of w).report) x x'
told_beyond b x x' (Ok (Some m)) h = message_beyond b x x' m.start m.end m.report h
told_beyond b x x' (Ok None) h = same_beyond _ x x' h
told_beyond b x x' (Err f) h = same_beyond _ x x' h.1

walk_on : (b : List ℕ) (at : ℕ) (x x' : Lists) (y : StepNumbers) → Stepped b at x x' y → Beyond (counts_in y.report) x x'
walk_on b at x x' y (stepped w l e) = subst (λ (k : StepNumbers). Beyond (counts_in k.report) x x') (sym e) (told_beyond b x x' w (walk_told b at x x' w l))

room_on : (s o : List ℕ) (w : Rewriting) → rewriting_of s (length o) ≡ w → drop (rewriting_numbers w).length (room_after s o) ≡ drop (rewriting_numbers w).length o
room_on s o (Ok n) e = rewrites_beyond s o n e
room_on s o (Err f) e = ap (drop 0) (rewrites s o f e).1

rewrite_on : (b o o' : List ℕ) (y : RewritingNumbers) → Rewritten b y o o' → drop y.length o' ≡ drop y.length o
rewrite_on b o o' y w =
    subst (λ (k : RewritingNumbers). drop k.length o' ≡ drop k.length o) (sym w.numbers)
    (ap (drop (rewriting_numbers (rewriting_of b (length o))).length) w.room ∙ room_on b o (rewriting_of b (length o)) refl)

pub refusals : Refusals
refusals = record {
  opening = opens;
  closing = λ s c w. closed_by_lem s w;
  closing_refused = shuts;
  checking = checks;
  check_beyond = beyond;
  judging = judges_told;
  walking = λ b at x x' f w. walk_told b at x x' (walked.Refused f) w;
  walk_none = λ b at x x' w. walk_told b at x x' walked.Nothing w;
  walk_message = λ b at a e x x' f w. walk_told b at x x' (walked.Message a e (report.Refused f)) w;
  walk_beyond = λ b at a e x x' c w. walk_told b at x x' (walked.Message a e (report.Accepted c)) w;
  walk_judging = walk_judges;
  judge_message = message_judges;
  rewriting = rewrites;
  rewrite_beyond = rewrites_beyond;
  c_open = c_opens;
  c_close = c_closes;
  c_check = c_checks;
  c_walk = c_walks;
  c_walk_each = c_each;
  c_answer = c_answers;
  c_rewrite = c_rewrites;
  c_check_beyond = check_on;
  c_walk_beyond = walk_on;
  c_rewrite_beyond = rewrite_on;
}
