-- The demands are met. Assumes nothing.
use Rattle.std.specs.Prelude.{ℕ, ◌≡◌, refl, List, length}
use Rattle.std.proofs.Common.{arith, sym, ◌∙◌, ap, subst}
use Rattle.numbers.specs.Table.{table_number}
use Rattle.service.specs.declared.Service.{Service}
use Rattle.interchange.specs.Answers.{Refusal}
use Rattle.interchange.specs.Laws.OpenedLaws.{opens}
use Rattle.lent.specs.Lists.{Lists, Left}
use Rattle.report.specs.declared.Counts.{Counts}
use Rattle.report.specs.Answers.{Report}
use Rattle.report.specs.Answers as report
use Rattle.report.specs.Reported.{Applies, Lowest, offset_of, room_of, Reported, accepted, refused}
use Rattle.report.specs.Laws.ReportedLaws.{one_report}
use Rattle.rewrite.specs.Laws.RewriteTheorems.{one_to_one, values_kept, written_so, rewrites_again}
use Rattle.cases.specs.Laws.AdviceCasesLaws.{advice_cases}
use Rattle.cases.specs.Laws.CasesLaws as cases
use Rattle.demands.proofs.Laws.AnsweringLaws.{answering}
use Rattle.demands.proofs.Laws.RefusalsLaws.{applies_case, refusals}
use Rattle.demands.proofs.Laws.AcceptingLaws.{accepting}
use Rattle.demands.proofs.Laws.DamageWhole.{other_messages, single, reaching, last_hit, any_one}
use Rattle.demands.proofs.Laws.PredecessorLaws.{predecessor}
use Rattle.demands.proofs.Laws.DamageCasesLaws.{damage_cases}
use Rattle.demands.proofs.Laws.WrongReadersLaws.{wrong_readers}
use Rattle.demands.proofs.Laws.RewriteKeeps.{keeps}
use Rattle.demands.proofs.Laws.SeveralLaws.{several}
use Rattle.demands.proofs.Laws.OneAnswerLaws as one
use Rattle.demands.specs.Demands.{Demands}

module _ (v : Service) (m : List ℕ) (x x' : Lists) where
  -- acceptance
  accepts : (y : Report) → Reported v m x x' y → (c : Counts) × (y ≡ report.Accepted c) → (n k : ℕ) → Applies v m (room_of x) n k → ⊥
  accepts y (accepted c d o rows a free e p) h = free
  accepts y (refused g l o p) h = absurd (let q = h.1 in let z : ◌≡◌ {A = ℕ} 0 1 = cc in omega arith)

  clear : (y : Report) → Reported v m x x' y → ((n k : ℕ) → Applies v m (room_of x) n k → ⊥) → (c : Counts) × (y ≡ report.Accepted c)
  clear y (accepted c d o rows a free e p) h = (c, refl)
  clear y (refused g l o p) h = absurd (h (table_number g.number) g.segment l.applies)

  -- refusal
  told : (y : Report) → Reported v m x x' y → (n k : ℕ) → (f : Refusal) × (y ≡ report.Refused f) × (table_number f.number ≡ n) × (f.segment ≡ k) → Lowest v m (room_of x) n k
  told y (accepted c d o rows a free e p) n k h = absurd (let q = h.1 in let z : ◌≡◌ {A = ℕ} 0 1 = cc in omega arith)
  told y (refused g l o p) n k h =
      let q = h.1 in
      let u : g ≡ h.0 = cc in
      let i : table_number g.number ≡ n = ap (λ (c : Refusal). table_number c.number) u ∙ h.2 in
      let j : g.segment ≡ k = ap (λ (c : Refusal). c.segment) u ∙ h.3 in
      rw (← i, ← j) l

  lowest : (y : Report) → Reported v m x x' y → (n k : ℕ) → Lowest v m (room_of x) n k → (f : Refusal) × (y ≡ report.Refused f) × (table_number f.number ≡ n) × (f.segment ≡ k)
  lowest y w n k l =
      let c = applies_case v m (room_of x) n k l.applies in
      let f : Refusal = record { number = c.0; segment = k; offset = offset_of v m (table_number c.0) k } in
      let i : Lowest v m (room_of x) (table_number c.0) k = subst (λ (j : ℕ). Lowest v m (room_of x) j k) (sym c.1) l in
      let z : Reported v m x x (report.Refused f) = refused f i refl refl in
      (f, ap (λ (g : Left Report). g.answer) (one_report v m x x' x y (report.Refused f) w z), c.1, refl)

pub met : Demands
met = record {
  answering = answering;
  refusals = refusals;
  accepting = accepting;
  accepted = λ v m x x' y w. (accepts v m x x' y w, clear v m x x' y w);
  refused = λ v m x x' y w n k. (told v m x x' y w n k, lowest v m x x' y w n k);
  values_kept = λ s o n e. let f = written_so s (length o) n e in values_kept s f.characters f.first f.opens f.short;
  twice = λ s o n e. rewrites_again s n o e;
  equal_values = one_to_one;
  rewriting = λ s v first o h. keeps s v first (opens s v first o) h;
  damage = single;
  reaching = reaching;
  several = other_messages;
  last_hit = last_hit;
  any = any_one;
  predecessor = predecessor;
  damaged_files = damage_cases;
  one = one.one;
  wrong = wrong_readers;
  cases = cases.cases;
  advices = advice_cases;
  several_at_once = several;
}
