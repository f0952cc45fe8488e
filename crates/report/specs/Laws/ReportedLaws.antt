-- No second answer meets `Reported`. Assumes nothing.
use Rattle.std.specs.Prelude.{ℕ, ◌≤◌, ◌<◌, ◌≡◌, ◌⊎◌, List}
use Rattle.std.proofs.Common.{arith, sym, ap, subst, ◌∙◌, inl, inr}
use Rattle.numbers.specs.Laws.TableLaws.{number_one}
use Rattle.numbers.specs.Table.{table_number}
use Rattle.service.specs.declared.Service.{Service}
use Rattle.interchange.specs.Answers.{Refusal}
use Rattle.chart.specs.Tags.{tags_of}
use Rattle.chart.specs.Chart.{Reading}
use Rattle.kinds.specs.declared.Kind.{Kind}
use Rattle.message.specs.Kinds.{chart_for}
use Rattle.chart.proofs.Theorems.{one_reading}
use Rattle.lent.specs.Lists.{Lists, left}
use Rattle.message.specs.Faults.{rank}
use Rattle.report.specs.Answers.{Report}
use Rattle.report.specs.Reported.{Room, Lowest, room_of, Reported, accepted, refused}
use Rattle.report.specs.Laws.KindLaws.{one_kind}

-- two lowest faults are one
one_lowest : (v : Service) (m : List ℕ) (x : Room) (n s k t : ℕ) → Lowest v m x n s → Lowest v m x k t → (n ≡ k) × (s ≡ t)
one_lowest v m x n s k t a b = go (a.least k t b.applies) (b.least n s a.applies)
  where
    go : (rank n < rank k) ⊎ ((n ≡ k) × (s ≤ t)) → (rank k < rank n) ⊎ ((k ≡ n) × (t ≤ s)) → (n ≡ k) × (s ≡ t)
    go (inl h) (inl g) = absurd (omega arith)
    go (inl h) (inr g) = absurd (let e = ap rank g.0 in omega arith)
    go (inr h) (inl g) = absurd (let e = ap rank h.0 in omega arith)
    go (inr h) (inr g) = (h.0, let p = h.1 in let q = g.1 in omega arith)

refusal_eq : (f g : Refusal) → f.number ≡ g.number → f.segment ≡ g.segment → f.offset ≡ g.offset → f ≡ g
refusal_eq f g p q w = λ i. record { number = p i; segment = q i; offset = w i }

-- the answer and the lists' content follow from the bytes, the service characters and the lists before
pub one_report : (v : Service) (m : List ℕ) (x x1 x2 : Lists) (y z : Report) → Reported v m x x1 y → Reported v m x x2 z → left y x1 ≡ left z x2
one_report v m x x1 x2 y z (accepted c k o rows a none e p) (accepted d k' o' rows' a' none' e' p') =
    let q = one_kind v m k k' o o' in
    let w = one_reading (chart_for k') (tags_of v m) rows rows' (subst (λ (i : Kind). Reading (chart_for i) (tags_of v m) rows) q a) a' in
    rw (e, e', p, p', w, q)
one_report v m x x1 x2 y z (accepted c k o rows a none e p) (refused f l o' p') = absurd (none (table_number f.number) f.segment l.applies)
one_report v m x x1 x2 y z (refused f l o p) (accepted c k o' rows a none e p') = absurd (none (table_number f.number) f.segment l.applies)
one_report v m x x1 x2 y z (refused f l o p) (refused g k i p') =
    let w = one_lowest v m (room_of x) (table_number f.number) f.segment (table_number g.number) g.segment l k in
    let u : f ≡ g = refusal_eq f g (number_one f.number g.number w.0) w.1 (o ∙ rw (w.0, w.1) (sym i)) in
    rw (u, p, p')
