-- Rewriting keeps each message's refusal number and segment, or its counts, rows and totals. Assumes nothing.
use Rattle.std.specs.Prelude.{ℕ, ◌≤◌, ◌≡◌, refl, List, ◌∷◌, map, length}
use Rattle.std.proofs.Common.{arith, ap₂, length-drop, length-take}
use Rattle.service.specs.declared.Service.{Service}
use Rattle.service.specs.Service.{plain_service, Fits}
use Rattle.service.specs.Laws.FitLaws.{plain_fits, characters_fit}
use Rattle.interchange.specs.Answers.{Opens}
use Rattle.interchange.specs.Messages.{Extent, starts_at, ends_at, bytes_of}
use Rattle.interchange.specs.Forms.Answers.{opening_of}
use Rattle.interchange.specs.Laws.OpenedLaws.{opened}
use Rattle.interchange.specs.Laws.ZeroTheorems.{walks_zero}
use Rattle.lent.specs.Lists.{Lists}
use Rattle.rewrite.specs.Plain.{rewritten}
use Rattle.rewrite.specs.Laws.RewriteTheorems.{opens_again}
use Rattle.rewrite.specs.Laws.MessagesTheorem.{messages_kept}
use Rattle.demands.specs.Runs.{Visit, Over}
use Rattle.demands.specs.Runs as runs
use Rattle.demands.proofs.Laws.RunLaws.{step_message, run_over}
use Rattle.demands.specs.Verdicts.{Verdict, verdict_of, SameVerdicts, SameVerdict, EachVerdict, Keeps}
use Rattle.demands.specs.Verdicts as verdicts
use Rattle.demands.proofs.Laws.VerdictLaws.{same_verdict}
use Rattle.interchange.specs.Alike.{Pair, Pairs, end, also}

part_short : (s : List ℕ) (m : Extent) → length s ≤ 1048576 → length (bytes_of s m) ≤ 1048576
part_short s m h = simp (length-take, length-drop) (omega arith)

module _ (v : Service) (s : List ℕ) (v' : Service) (s' : List ℕ) (f : Fits v) (f' : Fits v') (h : length s ≤ 1048576) (h' : length s' ≤ 1048576) (x : Lists) where
  same_all : {ms ms' : List Extent} {l l' : List Visit} → Pairs v s v' s' ms ms' → Over v s x ms l → Over v' s' x ms' l'
      → map (λ (w : Visit). verdict_of w.given) l ≡ map (λ (w : Visit). verdict_of w.given) l'
  same_all end runs.none runs.none = refl
  same_all (also m m' ms ms' p q) (runs.also _ w _ l t r) (runs.also _ w' _ l' t' r') =
      ap₂ (λ (y : Verdict) (z : List Verdict). y ∷ z)
      (same_verdict v (bytes_of s m) v' (bytes_of s' m') f f' (part_short s m h) (part_short s' m' h') p.ends p.segments
      x w.given.lists w'.given.lists w.given.answer w'.given.answer t.report t'.report)
      (same_all q r r')

module _ (s : List ℕ) (v : Service) (first : ℕ) (o : opening_of s ≡ Opens v first) (h : length (rewritten s) ≤ 1048576) where
  whole_walks : SameVerdicts s
  whole_walks x l l' r r' =
      let d = opened s v first o in
      let o' = opens_again s v first o h in
      same_all v s plain_service (rewritten s) (characters_fit s v d.una d.named).0 plain_fits d.short h x (messages_kept s v first o h)
      (run_over s v first o x (walks_zero s v first o) r) (run_over (rewritten s) plain_service 0 o' x (walks_zero (rewritten s) plain_service 0 o') r')

  one_call : (m m' : Extent) → Pair v s plain_service (rewritten s) m m' → SameVerdict s m m'
  one_call m m' p x at at' g g' q q' =
      let d = opened s v first o in
      let y = step_message s v first o q (starts_at m) (ends_at m) g.answer refl in
      let y' = step_message (rewritten s) plain_service 0 (opens_again s v first o h) q' (starts_at m') (ends_at m') g'.answer refl in
      same_verdict v (bytes_of s m) plain_service (bytes_of (rewritten s) m') (characters_fit s v d.una d.named).0 plain_fits
      (part_short s m d.short) (part_short (rewritten s) m' h) p.ends p.segments x g.lists g'.lists g.answer g'.answer y.1 y'.1

  each_call : {l l' : List Extent} → Pairs v s plain_service (rewritten s) l l' → EachVerdict s l l'
  each_call end = verdicts.none
  each_call (also m m' l l' p r) = verdicts.also m m' l l' (one_call m m' p) (each_call r)

  -- an interchange that opens, and whose plain bytes are no more than an interchange may have
  pub keeps : Keeps s v first
  keeps = record { walks = whole_walks; each = each_call (messages_kept s v first o h) }
