-- The numbers by the cases of an answer: 32 bits hold each of them. Assumes nothing.
use Rattle.std.specs.Prelude.{ℕ, ◌<◌, ◌≡◌, refl, List, length, Option, None, Some, Ok, Err}
use Rattle.std.proofs.Common.{arith, sym, ◌∙◌, ap, subst}
use Rattle.numbers.specs.Table.{table_number}
use Rattle.numbers.specs.Table.{number_told}
use Rattle.numbers.specs.declared.Number.TheVariants as numbers
use Rattle.interchange.specs.Answers.{Refusal}
use Rattle.service.specs.declared.Service.{Service}
use Rattle.service.specs.declared.Characters.{Characters}
use Rattle.service.specs.Service.{Fit, Unfit, characters_of}
use Rattle.interchange.specs.Answers.{Opening}
use Rattle.interchange.specs.Answers as opening
use Rattle.interchange.specs.declared.Opened.{Opened}
use Rattle.interchange.specs.declared.Closing as code
use Rattle.interchange.specs.Answers.{Closing}
use Rattle.interchange.specs.Envelope.{refusal, opening_number}
use Rattle.interchange.specs.Opened.{OpenedAs}
use Rattle.interchange.specs.Closed.{ClosedAs}
use Rattle.interchange.specs.Laws.OpenedLaws.{one_opening}
use Rattle.interchange.specs.Laws.ClosingLaws.{one_closing}
use Rattle.interchange.specs.Laws.WithinLaws.{closing_small}
use Rattle.lent.specs.Lists.{Lists, left}
use Rattle.report.specs.declared.Counts.{Counts}
use Rattle.report.specs.Answers.{Report}
use Rattle.report.specs.Answers as report
use Rattle.report.specs.Reported.{Reported}
use Rattle.report.specs.Laws.ReportedLaws.{one_report}
use Rattle.report.specs.Forms.Few.{Few}
use Rattle.walk.specs.declared.Walked as walked
use Rattle.walk.specs.Steps.{Walked}
use Rattle.walk.specs.Steps as walk
use Rattle.walk.specs.Laws.WalksLaws.{one_walk}
use Rattle.rewrite.specs.Answers.{Rewriting}
use Rattle.rewrite.specs.Answers as rewrite
use Rattle.rewrite.specs.Plain.{rewriting_of, room_after}
use Rattle.rewrite.specs.Laws.RoomLaws.{rewriting_small}
use Rattle.twineherald.specs.declared.ReportNumbers.{ReportNumbers}
use Rattle.twineherald.specs.declared.StepNumbers.{StepNumbers}
use Rattle.twineherald.specs.declared.ClosingNumbers.{ClosingNumbers}
use Rattle.twineherald.specs.Numbers.{refused_of, accepted_of, nothing_of, report_of, step_with, step_of, rewriting_numbers, closing_numbers, OpenedWith, opened, ClosedWith, closed, Stepped, stepped, Checked, checked, unfit, Rewritten}

-- opening and closing
pub open_opens : (l : List ℕ) (o : Opening) → OpenedAs l o → (m : Opened) → o ≡ Ok m → OpenedWith l 0
open_opens l o w m q = opened o w (sym (ap opening_number q))

pub open_refused : (l : List ℕ) (o : Opening) → OpenedAs l o → (f : Refusal) → o ≡ opening.Refused f → (n : ℕ) → n ≡ table_number f.number → OpenedWith l n
open_refused l o w f q n e = opened o w (e ∙ sym (ap opening_number q))

pub closing_refused : (l : List ℕ) (k : Closing) → ClosedAs l k → (f : Refusal) → k ≡ Err f → (n : ℕ) → n ≡ table_number f.number → ClosedWith l (record { number = n; messages = 0; strays = 0 })
closing_refused l k w f q n e = closed k w (rw e (sym (ap closing_numbers q)))

module _ (l : List ℕ) (k : Closing) (w : ClosedAs l k) (c : code.Closing) (q : k ≡ Ok c) where
  pub messages_small : c.messages < 4294967296
  messages_small = let z = (closing_small l (subst (ClosedAs l) q w)).messages in omega arith

  pub strays_small : c.strays < 4294967296
  strays_small = let z = (closing_small l (subst (ClosedAs l) q w)).strays in omega arith

  pub closing_by_lem : (n : ℕ) → n ≡ number_told c.fault → ClosedWith l (record { number = n; messages = c.messages; strays = c.strays })
  closing_by_lem n e = closed k w (rw e (sym (ap closing_numbers q)))

module _ (w : Report) (x : ReportNumbers) where
  pub report_accepted : (c : Counts) → w ≡ report.Accepted c → x ≡ accepted_of c → x ≡ report_of w
  report_accepted c e f = f ∙ sym (ap report_of e)

  pub report_refused : (c : Refusal) → w ≡ report.Refused c → x ≡ refused_of c → x ≡ report_of w
  report_refused c e f = f ∙ sym (ap report_of e)

module _ (w : Walked) (k : StepNumbers) (y : ReportNumbers) where
  pub step_message : (m : walked.Walked) → w ≡ Ok (Some m) → y ≡ report_of m.report → k ≡ step_with 1 m.start m.end y → k ≡ step_of w
  step_message m q g f = f ∙ ap (step_with 1 m.start m.end) g ∙ sym (ap step_of q)

  pub step_nothing : w ≡ walk.Nothing → y ≡ nothing_of → k ≡ step_with 0 0 0 y → k ≡ step_of w
  step_nothing q g f = f ∙ ap (step_with 0 0 0) g ∙ sym (ap step_of q)

  pub step_refused : (c : Refusal) → w ≡ walk.Refused c → y ≡ refused_of c → k ≡ step_with 0 0 0 y → k ≡ step_of w
  step_refused c q g f = f ∙ ap (step_with 0 0 0) g ∙ sym (ap step_of q)

module _ (h m : List ℕ) (k : Option Characters) (c : k ≡ characters_of h) where
  pub check_fit : (f : Characters) → k ≡ Some f → (x x' : Lists) (w : Report) → Reported f.service m x x' w → (y : ReportNumbers) → y ≡ report_of w → Checked h m x x' y
  check_fit f q x x' w l y e = checked f.service f.una w (sym c ∙ q) l e

  pub check_unfit : k ≡ Unfit → (f : Refusal) → f ≡ refusal numbers.Characters → (x : Lists) (y : ReportNumbers) → y ≡ refused_of f → Checked h m x x y
  check_unfit q f p x y e = unfit (sym c ∙ q) (e ∙ ap refused_of p) refl

pub written_small : (b o : List ℕ) (w : Rewriting) → w ≡ rewriting_of b (length o) → (n : ℕ) → w ≡ rewrite.Written n → n < 4294967296
written_small b o w q n e = let z = rewriting_small b (length o) n (sym q ∙ e) in omega arith

module _ (b o o' : List ℕ) (w : Rewriting) (q : w ≡ rewriting_of b (length o)) (r : o' ≡ room_after b o) where
  pub written_by : (n : ℕ) → w ≡ rewrite.Written n → Rewritten b (record { number = 0; length = n }) o o'
  written_by n e = record { numbers = sym (ap rewriting_numbers (sym q ∙ e)); room = r }

  pub refused_by : (c : Refusal) → w ≡ rewrite.Refused c → (n : ℕ) → n ≡ table_number c.number → Rewritten b (record { number = n; length = 0 }) o o'
  refused_by c e n h = record { numbers = rw h (sym (ap rewriting_numbers (sym q ∙ e))); room = r }

-- ---- no second answer
pub one_open : (b : List ℕ) (x y : ℕ) → OpenedWith b x → OpenedWith b y → x ≡ y
one_open b x y (opened o w e) (opened u k f) = e ∙ ap opening_number (one_opening b w k) ∙ sym f

pub one_close : (b : List ℕ) (x y : ClosingNumbers) → ClosedWith b x → ClosedWith b y → x ≡ y
one_close b x y (closed c w e) (closed d k f) = e ∙ ap closing_numbers (one_closing b w k) ∙ sym f

pub one_step : (b : List ℕ) (at : ℕ) (x x1 x2 : Lists) (y z : StepNumbers) → Stepped b at x x1 y → Stepped b at x x2 z → left y x1 ≡ left z x2
one_step b at x x1 x2 y z (stepped w l e) (stepped u k f) = let g = one_walk b at x x1 x2 w u l k in rw (e, f) (λ i. left (step_of (g i).answer) (g i).lists)

abbrev service_or : Service → Option Characters → Service
service_or d None = d
service_or d (Some c) = c.service

one_service : (h : List ℕ) (v v' : Service) (a a' : ℕ) → characters_of h ≡ Fit v a → characters_of h ≡ Fit v' a' → v ≡ v'
one_service h v v' a a' p q = let n : Fit v a ≡ Fit v' a' = sym p ∙ q in ap (service_or v) n

fit_unfit : (h : List ℕ) (v : Service) (a : ℕ) → characters_of h ≡ Fit v a → characters_of h ≡ Unfit → ⊥
fit_unfit h v a p q = let n : Fit v a ≡ Unfit = sym p ∙ q in let z : ◌≡◌ {A = ℕ} 0 1 = cc in omega arith

pub one_check : (h m : List ℕ) (x x1 x2 : Lists) (y z : ReportNumbers) → Checked h m x x1 y → Checked h m x x2 z → left y x1 ≡ left z x2
one_check h m x x1 x2 y z (checked v una w p l e) (checked v' una' u q k f) =
    let g = one_report v' m x x1 x2 w u (subst (λ (i : Service). Reported i m x x1 w) (one_service h v v' una una' p q) l) k in
    rw (e, f) (λ i. left (report_of (g i).answer) (g i).lists)
one_check h m x x1 x2 y z (checked v una w p l e) (unfit q f a) = absurd (fit_unfit h v una p q)
one_check h m x x1 x2 y z (unfit q f a) (checked v una w p l e) = absurd (fit_unfit h v una p q)
one_check h m x x1 x2 y z (unfit q f a) (unfit p e a') = rw (e, f, a, a')
