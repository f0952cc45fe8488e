-- Every contract can be met. Assumes nothing.
use Rattle.std.specs.Prelude.{ℕ, ◌+◌, ◌≤◌, ◌<◌, ◌≡◌, refl, ◌⊎◌, Bool, true, false, length, leb, ltb, Option, None, Some as Just, Ok, Err}
use Rattle.std.proofs.Common.{arith, sym, ◌∙◌, inl, inr}
use Rattle.std.proofs.Math.Decide.{dec_lt}
use Rattle.std.proofs.Math.Path.{subst}
use Rattle.numbers.specs.Table.{table_number}
use Rattle.numbers.specs.declared.Number.TheVariants as numbers
use mathlib.Core.List.{List, [], ◌∷◌, ◌++◌}
use Rattle.service.specs.declared.Service.{Service}
use Rattle.service.specs.declared.Characters.{Characters}
use Rattle.service.specs.Service.{Fit, Unfit, characters_of}
use Rattle.service.specs.Tests.{if}
use Rattle.interchange.specs.Answers.{Refusal}
use Rattle.interchange.specs.Answers.{Opening, Closing}
use Rattle.interchange.specs.Messages.{ends_closed}
use Rattle.interchange.specs.Envelope.{refusal, opening_number}
use Rattle.interchange.specs.Opened.{OpenedAs}
use Rattle.interchange.specs.Closed.{ClosedAs}
use Rattle.interchange.specs.Forms.Answers.{opening_of, closing_of}
use Rattle.interchange.specs.Laws.OpenedLaws.{is_opening}
use Rattle.interchange.specs.Laws.ClosingLaws.{is_closing}
use Rattle.faults.specs.Firsts.{Fault}
use Rattle.lent.specs.Lists.{Lists, lists, left}
use Rattle.chart.specs.Chart.{Placement, FailsAt, Reading}
use Rattle.chart.specs.Tags.{tags_of}
use Rattle.values.specs.Forms.Codes.{UNT}
use Rattle.kinds.specs.declared.Kind.{Kind}
use Rattle.kinds.specs.Kinds.{table_of}
use Rattle.chart.proofs.Theorems.{placed_or_fails, closed_fails}
use Rattle.chart.proofs.Whole.{fine}
use Rattle.chart.proofs.Tables.{sound}
use Rattle.message.specs.Segs.{segs_of}
use Rattle.message.specs.Kinds.{chart_for, rules_for}
use Rattle.message.specs.Faults.{Told, told, tell_all, least_of}
use Rattle.report.specs.Answers.{Report}
use Rattle.report.specs.Answers as report
use Rattle.report.specs.Reported.{Bare, bare_of, told_unless, rule10, headed, fits, early, In, Of, Lowest, offset_of, counts_of, filled, room_of, Reported, accepted, refused}
use Rattle.report.specs.Judged.{Judged, judged as judged-so}
use Rattle.report.specs.Laws.JudgeLaws.{bytes_enough}
use Rattle.report.specs.Laws.LeastLaws.{nowhere}
use Rattle.report.specs.Laws.FreeLaws.{told_in}
use Rattle.report.specs.Laws.EarlyLaws.{early_lowest, early_none}
use Rattle.report.specs.Laws.LateLaws.{late_none, late_lowest, misfit_lowest}
use Rattle.report.specs.Laws.ClosedLaws.{closes}
use Rattle.report.specs.Laws.KindLaws.{headed_of}
use Rattle.report.specs.Forms.Checks.{kind_at}
use Rattle.walk.specs.Steps.{Walked}
use Rattle.walk.specs.Steps as walked
use Rattle.walk.specs.Frame.{Step, message, nothing, step_with, step_from}
use Rattle.walk.specs.Frame as frame
use Rattle.walk.specs.Walks.{between, Walks, walks_message, walks_nothing, walks_refused, Judges, judges}
use Rattle.walk.specs.Laws.WalksLaws.{other, other'}
use Rattle.walk.specs.Laws.JudgesLaws.{enough_at}
use Rattle.twineherald.specs.Numbers.{refused_of, report_of, step_of, closing_numbers, opened, closed, Stepped, stepped, Checked, checked, unfit}
use Rattle.twineherald.specs.Several.{numbers_of, AnsweredEach, no_more, one_more_lem, SteppedEach, given, shorter}
use Rattle.twineherald.specs.Laws.SeveralLaws.{answer_by}
use Rattle.demands.proofs.Laws.AcceptingLaws.{read}
use Rattle.demands.specs.Answering.{Some, Answering}
use Rattle.demands.proofs.Laws.RefusalsLaws.{applies_case}

-- ---- a message
module _ (v : Service) (m : List ℕ) (x : Lists) where
  refuses : (n s : ℕ) → Lowest v m (room_of x) n s → Some (Reported v m x)
  refuses n s l =
      let c = applies_case v m (room_of x) n s l.applies in
      let f : Refusal = record { number = c.0; segment = s; offset = offset_of v m (table_number c.0) s } in
      (left (report.Refused f) x, refused f (subst (λ (k : ℕ). Lowest v m (room_of x) k s) (sym c.1) l) refl refl)

  -- where 11 is not told the message is closed
  unclosed_told : ends_closed v m ≡ false → In (told 11 1) (tell_all (early (bare_of v m) (room_of x)))
  unfolding early
  unclosed_told e =
      let b : Bare = bare_of v m in
      let front : List (ℕ × List ℕ) = (1, told_unless b.short 0) ∷ (2, told_unless b.fit 0) ∷ (10, rule10 1 b.segments) ∷ [] in
      let back : List (ℕ × List ℕ) = (12, told_unless (headed b.segments) 1) ∷ (13, told_unless (leb (length b.segments) 9999) 10000) ∷ (14, told_unless (fits b.segments (room_of x)) 0) ∷ [] in
      subst (λ (t : Bool). In (told 11 1) (tell_all (front ++ (11, told_unless t 1) ∷ back))) (sym e) (told_in front back 11 1)

  untyped_told : headed (bare_of v m).segments ≡ false → In (told 12 1) (tell_all (early (bare_of v m) (room_of x)))
  unfolding early
  untyped_told e =
      let b : Bare = bare_of v m in
      let front : List (ℕ × List ℕ) = (1, told_unless b.short 0) ∷ (2, told_unless b.fit 0) ∷ (10, rule10 1 b.segments) ∷ (11, told_unless b.closed 1) ∷ [] in
      let back : List (ℕ × List ℕ) = (13, told_unless (leb (length b.segments) 9999) 10000) ∷ (14, told_unless (fits b.segments (room_of x)) 0) ∷ [] in
      subst (λ (t : Bool). In (told 12 1) (tell_all (front ++ (12, told_unless t 1) ∷ back))) (sym e) (told_in front back 12 1)

  module _ (q : tell_all (early (bare_of v m) (room_of x)) ≡ []) where
    shut : ends_closed v m ≡ true
    shut = go (ends_closed v m) refl
      where
        go : (b : Bool) → ends_closed v m ≡ b → ends_closed v m ≡ true
        go true e = e
        go false e = absurd (nowhere (told 11 1) _ q (unclosed_told e))

    -- where 12 is not told it is of a kind
    typed : headed (bare_of v m).segments ≡ true
    typed = go (headed (bare_of v m).segments) refl
      where
        go : (b : Bool) → headed (bare_of v m).segments ≡ b → headed (bare_of v m).segments ≡ true
        go true e = e
        go false e = absurd (nowhere (told 12 1) _ q (untyped_told e))

    module _ (d : Kind) (o : Of d v m) where
      judged : (rows : List ℕ) → Reading (chart_for d) (tags_of v m) rows → (k : Option Told) → least_of (tell_all (rules_for d (segs_of v m rows))) ≡ k → Some (Reported v m x)
      judged rows r None e =
          let c = counts_of d (segs_of v m rows) in
          (left (report.Accepted c) (filled d v m rows x), accepted c d o rows r (late_none d v m o (room_of x) rows r q e) refl refl)
      judged rows r (Just k) e = refuses k.number k.segment (late_lowest d v m o (room_of x) rows r q k.number k.segment e)

      placing : ((rows : List ℕ) × Placement (chart_for d) (tags_of v m) rows) ⊎ ((j : ℕ) × FailsAt (chart_for d) (tags_of v m) j) → Some (Reported v m x)
      placing (inl p) = judged p.0 (read v m (room_of x) d p.0 p.1) (least_of (tell_all (rules_for d (segs_of v m p.0)))) refl
      placing (inr p) =
          let c = closes v m shut in
          let w = closed_fails (chart_for d) UNT (sound d).closed (tags_of v m) c.before c.last p.0 p.1 in
          refuses 16 (p.0 + 1) (misfit_lowest d v m o (room_of x) p.0 w q)

    placed_by : Some (Reported v m x)
    placed_by = let d = kind_at v m in placing d (headed_of v m typed) (placed_or_fails (chart_for d) (fine (table_of d) (sound d)) (tags_of v m))

  checks_by : (k : Option Told) → least_of (tell_all (early (bare_of v m) (room_of x))) ≡ k → Some (Reported v m x)
  checks_by None e = placed_by (early_none v m (room_of x) e)
  checks_by (Just k) e = refuses k.number k.segment (early_lowest v m (room_of x) k.number k.segment e)

  checks : Some (Reported v m x)
  checks = checks_by (least_of (tell_all (early (bare_of v m) (room_of x)))) refl

-- ---- a step of the walk
module _ (b : List ℕ) (at : ℕ) (x : Lists) where
  -- a message is found by fit characters alone
  found_by_lem : (t : Bool) (c : Option Characters) (a e : ℕ) → if t (frame.refused (refusal numbers.TooLong)) (step_with b at c) ≡ message a e → (v : Service) × (una : ℕ) × (c ≡ Fit v una)
  found_by_lem true c a e q = absurd (let z : ◌≡◌ {A = ℕ} 0 1 = cc in omega arith)
  found_by_lem false (Just k) a e q = (k.service, k.una, refl)
  found_by_lem false Unfit a e q = absurd (let z : ◌≡◌ {A = ℕ} 0 1 = cc in omega arith)

  fits_found : (a e : ℕ) → step_from b at ≡ message a e → (v : Service) × (una : ℕ) × (characters_of b ≡ Fit v una)
  unfolding step_from
  fits_found a e q = found_by_lem (ltb 1048576 (length b)) (characters_of b) a e q

  steps_by : (k : Step) → step_from b at ≡ k → Some (Walks b at x)
  steps_by (Ok (Just m)) q =
      let a = m.start in
      let e = m.end in
      let w = fits_found a e q in
      let g = checks w.0 (between b a e) x in
      (left (walked.Message a e g.0.answer) g.0.lists, walks_message w.0 w.1 a e g.0.answer w.2 (sym q) g.1)
  steps_by (Ok None) q = (left walked.Nothing x, walks_nothing (sym q) refl)
  steps_by (Err f) q = (left (walked.Refused f) x, walks_refused f (sym q) refl)

  walks : Some (Walks b at x)
  walks = steps_by (step_from b at) refl

  judges_by : (k : Step) → step_from b at ≡ k → (w : Walked) × Judges b at w
  judges_by (Ok (Just span)) q =
      let a = span.start in
      let e = span.end in
      let w = fits_found a e q in
      let m = between b a e in
      let g = checks w.0 m (lists m m m) in (
        walked.Message a e g.0.answer,
        judges (lists m m m) g.0.lists (enough_at b at w.0 w.1 a e w.2 (sym q) (lists m m m) (bytes_enough w.0 m)) (walks_message w.0 w.1 a e g.0.answer w.2 (sym q) g.1),
      )
  judges_by (Ok None) q = (walked.Nothing, judges x x (λ v una a e n h. absurd (other a e (h ∙ q))) (walks_nothing (sym q) refl))
  judges_by (Err f) q = (walked.Refused f, judges x x (λ v una a e n h. absurd (other' a e f (h ∙ q))) (walks_refused f (sym q) refl))

judging : (v : Service) (m : List ℕ) → (y : Report) × Judged v m y
judging v m = let g = checks v m (lists m m m) in (g.0.answer, judged-so (lists m m m) g.0.lists (bytes_enough v m) g.1)

walk_judging : (b : List ℕ) (at : ℕ) → (w : Walked) × Judges b at w
walk_judging b at = judges_by b at (lists [] [] []) (step_from b at) refl

-- ---- opening and closing
opening : (s : List ℕ) → (o : Opening) × OpenedAs s o
opening s = (opening_of s, is_opening s (opening_of s) refl)

closing : (s : List ℕ) → (c : Closing) × ClosedAs s c
closing s = (closing_of s, is_closing s (closing_of s) refl)

-- ---- for C
c_checks : (h m : List ℕ) (x : Lists) (c : Option Characters) → characters_of h ≡ c → Some (Checked h m x)
c_checks h m x (Just k) e = let g = checks k.service m x in (left (report_of g.0.answer) g.0.lists, checked k.service k.una g.0.answer e g.1 refl)
c_checks h m x Unfit e = (left (refused_of (refusal numbers.Characters)) x, unfit e refl refl)

c_walks : (b : List ℕ) (at : ℕ) (x : Lists) → Some (Stepped b at x)
c_walks b at x = let g = walks b at x in (left (step_of g.0.answer) g.0.lists, stepped g.0.answer g.1 refl)

-- an answer for each position
answers : (b ps : List ℕ) (a : List (List ℕ)) → length ps ≤ length a → (a' : List (List ℕ)) × AnsweredEach b ps a a'
answers b [] a h = (a, no_more a a refl)
answers b (at ∷ ps) [] h = absurd (omega arith)
answers b (at ∷ ps) (q ∷ a) h =
    let g = walk_judging b at in
    let y = step_of g.0 in
    let k = answers b ps a (omega arith) in
    (numbers_of y ∷ k.0, one_more_lem at ps q (numbers_of y) a k.0 (answer_by b at g.0 g.1 y refl (numbers_of y) refl) k.1)

c_each : (b ps : List ℕ) (a : List (List ℕ)) → (a' : List (List ℕ)) × (x : ℕ) × SteppedEach b ps a a' x
c_each b ps a = go (dec_lt (length a) (length ps))
  where
    go : Dec (length a < length ps) → (a' : List (List ℕ)) × (x : ℕ) × SteppedEach b ps a a' x
    go (yes h) = (a, 14, shorter h refl refl)
    go (no h) = let k = answers b ps a (omega arith) in (k.0, 0, given k.1 refl)

pub answering : Answering
answering = record {
  opening = opening;
  closing = closing;
  check = checks;
  judge = judging;
  walk = walks;
  walk_judge = walk_judging;
  c_open = λ b. let g = opening b in (opening_number g.0, opened g.0 g.1 refl);
  c_close = λ b. let g = closing b in (closing_numbers g.0, closed g.0 g.1 refl);
  c_check = λ h m x. c_checks h m x (characters_of h) refl;
  c_walk = c_walks;
  c_walk_each = c_each;
}
