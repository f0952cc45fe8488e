-- The first segment of an interchange that opens begins with no break, so that walking may begin there. Assumes nothing.
use Rattle.std.specs.Prelude.{ℕ, ◌≤◌, ◌≡◌, refl, List, [], ◌∷◌, Bool, true, false, drop, eqb}
use Rattle.std.proofs.Common.{arith, sym, ◌∙◌, eqb-true}
use Rattle.std.proofs.Math.Path.{ap, subst}
use Rattle.std.proofs.Math.Logic.{⊎_elim}
use Rattle.service.specs.declared.Service.{Service}
use Rattle.service.specs.Laws.FitLaws.{characters_fit}
use Rattle.service.specs.Tests.{if}
use Rattle.segments.specs.declared.Class.TheVariants.{Plain}
use Rattle.segments.specs.Classes.{class_of}
use Rattle.segments.specs.Forms.Bytes.{past_breaks}
use Rattle.segments.specs.Laws.FitLaws.{fits_sound}
use Rattle.segments.specs.Laws.ListLaws.{segments_after_lem}
use Rattle.parts.specs.Parts.{lex, value_of}
use Rattle.values.specs.Text.{text}
use Rattle.interchange.specs.Answers.{Opens}
use Rattle.interchange.specs.Messages.{tag_at, messages_of}
use Rattle.interchange.specs.Envelope.{first_at, body_of}
use Rattle.interchange.specs.Forms.Answers.{opening_of}
use Rattle.interchange.specs.Laws.OpenedLaws.{opened}
use Rattle.interchange.specs.Walk.{Visits}
use Rattle.interchange.specs.Laws.WalkLaws.{settled}
use Rattle.interchange.specs.Laws.WalkTheorems.{header, walks_from}

-- no value that begins with a break is UNB
break_tag : (v : Service) (b : ℕ) (s : List ℕ) → class_of v b ≡ Plain → b ≤ 13 → tag_at v (b ∷ s) 0 ≡ text "UNB" → ⊥
unfolding tag_at lex value_of text
break_tag v b s k g e =
    let d : b ∷ value_of (lex v false s) ≡ 85 ∷ 78 ∷ 66 ∷ [] = rw k at e in
    let x : b ≡ 85 = cc in omega arith

at_zero_by : (v : Service) (b : ℕ) (s : List ℕ) → class_of v 13 ≡ Plain → class_of v 10 ≡ Plain → tag_at v (b ∷ s) 0 ≡ text "UNB" → (t u : Bool) → eqb b 13 ≡ t → eqb b 10 ≡ u → if t (past_breaks 1 s) (if u (past_breaks 1 s) 0) ≡ 0
at_zero_by v b s cr lf e true u p q =
    let x : b ≡ 13 = eqb-true b 13 p in
    let g : b ≤ 13 = omega arith in
    absurd (break_tag v b s (ap (class_of v) x ∙ cr) g e)
at_zero_by v b s cr lf e false true p q =
    let x : b ≡ 10 = eqb-true b 10 q in
    let g : b ≤ 13 = omega arith in
    absurd (break_tag v b s (ap (class_of v) x ∙ lf) g e)
at_zero_by v b s cr lf e false false p q = refl

pub at_zero : (v : Service) (s : List ℕ) → class_of v 13 ≡ Plain → class_of v 10 ≡ Plain → tag_at v s 0 ≡ text "UNB" → past_breaks 0 s ≡ 0
unfolding past_breaks
at_zero v [] cr lf e = refl
at_zero v (b ∷ s) cr lf e = at_zero_by v b s cr lf e (eqb b 13) (eqb b 10) refl refl

module _ (s : List ℕ) (v : Service) (first : ℕ) (o : opening_of s ≡ Opens v first) where
  pub first_settled : past_breaks first (drop first s) ≡ first
  unfolding first_at
  first_settled =
      let f = opened s v first o in
      let c = characters_fit s v f.una f.named in
      ⊎_elim
      (λ (e : f.una ≡ 0).
      let z : 0 ≡ first = ap (first_at s) (sym e) ∙ f.begins in
      let k = fits_sound v c.0 in
      subst (λ (i : ℕ). past_breaks i (drop i s) ≡ i) z (at_zero v s k.cr k.lf (ap (tag_at v s) z ∙ (header s v first o).tag)))
      (λ (e : f.una ≡ 9). settled v s 9 first (sym (ap (first_at s) (sym e) ∙ f.begins)))
      c.1

  -- walking from the first segment visits exactly the messages, in order, and ends
  pub walks_first : Visits v s first (messages_of v s (body_of v s first))
  walks_first = walks_from s v first o first (segments_after_lem v s first first (sym first_settled))
