-- One turn of the loop that counts messages and strays, and the segments after the first. Each premise is a fact that a proof has at hand. Assumes nothing.
use Rattle.std.specs.Prelude.{ℕ, suc, ◌+◌, ◌≤◌, ◌<◌, ◌^◌, ◌≡◌, refl, List, [], ◌∷◌, Bool, true, false, length, Option, Some, None, Result, Ok, Err}
use Rattle.std.proofs.Common.{arith, sym, ◌∙◌, ap, ap₂, Fits}
use Rattle.std.specs.Int.{w64}
use Rattle.numbers.specs.declared.Number.TheVariants as numbers
use Rattle.service.specs.declared.Service.{Service}
use Rattle.segments.specs.declared.Segment.{Segment}
use Rattle.segments.specs.declared.Segment.TheVariants as segment
use Rattle.segments.specs.Forms.Segments.{segment_at}
use Rattle.segments.specs.Laws.SegmentsLaws.{lies}
use Rattle.segments.specs.Laws.StartsLaws.{starts_count, starts_few}
use Rattle.segments.specs.declared.Piece.{Piece}
use Rattle.segments.specs.declared.Segments.{Segments}
use Rattle.segments.specs.declared.Text.{Text}
use Rattle.segments.specs.Left.{segments_left, Steps}
use Rattle.segments.specs.SegmentList.{start_of, segments_from}
use Rattle.interchange.specs.Answers.{Refusal}
use Rattle.interchange.specs.declared.Survey.{Survey}
use Rattle.interchange.specs.Answers.{refusal}
use Rattle.interchange.specs.Messages.{kind_of, extent_of, messages_by, messages_of, stays, stray_by, strays_of}
use Rattle.interchange.specs.declared.Kind.{Kind}
use Rattle.interchange.specs.declared.Kind.TheVariants.{Head as head, Trailer as trailer, Last as last, Other as other, Cut as cut}
use Rattle.interchange.specs.Envelope.{after_first, body_of}
use Rattle.interchange.specs.Laws.KindLaws.{none_after}
use Rattle.interchange.specs.Laws.StepLaws.{kept, kind_is}
use Rattle.interchange.specs.Forms.Survey.{past_by, past_at, unz_by, unz_of, surveyed, survey_of}

module _ (v : Service) (s : List ℕ) (i : ℕ) (k : Segment) (c : k ≡ segment_at v i s) where
  past_by_lem : past_by (length s) k ≡ past_at v s i
  unfolding past_at
  past_by_lem = ap (past_by (length s)) c

  pub past_finished : (t n : ℕ) → k ≡ segment.Finished t n → n ≡ past_at v s i
  past_finished t n e = rw e at past_by_lem

within_by : (v : Service) (s : List ℕ) (i : ℕ) (k : Segment) → k ≡ segment_at v i s → past_by (length s) k ≤ length s
within_by v s i (segment.Finished t n) c = (lies v s i (segment.Finished t n) c t n refl).within
within_by v s i segment.Unfinished c = omega arith
within_by v s i segment.Nothing c = omega arith

pub past_within : (v : Service) (s : List ℕ) (i p : ℕ) → p ≡ past_at v s i → p ≤ length s
unfolding past_at
past_within v s i p e = let w = within_by v s i (segment_at v i s) refl in omega arith

-- past the first segment
pub body_left : (v : Service) (s : List ℕ) (at : ℕ) (r : Segments) → segments_left r ≡ segments_from v s at → (o : Option Piece) (q : Segments) → Steps r o q → segments_left q ≡ body_of v s at
body_left v s at r e (Some p) q w = sym (ap after_first (sym e ∙ w.yields))
body_left v s at r e None q w = w.yields.1 ∙ sym (ap after_first (sym e ∙ w.yields.0))

-- ---- the count
pub record Surveying (x : Result Survey Refusal) (t : Text) (m z : ℕ) (b : Bool) (r : Segments) : Type 0 where
  pub told : x ≡ surveyed (unz_of t.service t.bytes.now (segments_left r)) (m + length (messages_of t.service t.bytes.now (segments_left r))) (z + length (strays_of t.service t.bytes.now b (segments_left r)))
  pub messages : m + length (segments_left r) ≤ length t.bytes.now
  pub strays : z + length (segments_left r) ≤ length t.bytes.now
  pub text : r.text ≡ t

pub survey_start : (r : Segments) → Surveying (survey_of r.text.service r.text.bytes.now (segments_left r)) r.text 0 0 false r
unfolding survey_of
survey_start r =
    let a = starts_count r.text.service r.text.bytes.now r.at in
    let c = starts_few r.text.service r.text.bytes.now r.at in
    record { told = ap₂ (surveyed (unz_of r.text.service r.text.bytes.now (segments_left r))) (omega arith) (omega arith); messages = omega arith; strays = omega arith; text = refl }

module _ (x : Result Survey Refusal) (t : Text) (m z : ℕ) (b : Bool) (r q : Segments) (inv : Surveying x t m z b r) where
  pub survey_nothing : Steps r None q → (f : Refusal) → f ≡ refusal numbers.End → Err f ≡ x
  unfolding unz_of
  survey_nothing w f h = ap Err h ∙ sym (inv.told ∙ ap (λ (l : List Piece). surveyed (unz_of t.service t.bytes.now l) (m + length (messages_of t.service t.bytes.now (segments_left r))) (z + length (strays_of t.service t.bytes.now b (segments_left r)))) w.yields.0)

  module _ (p : Piece) (w : Steps r (Some p) q) where
    pub survey_fits : length t.bytes.now < 2 ^ 64 → Fits w64 (m + 1) × Fits w64 (z + 1)
    survey_fits h = let i = inv.messages in let j = inv.strays in let e = ap length w.yields in (record { fits = omega arith }, record { fits = omega arith })

    module _ (k : Kind) (c : k ≡ kind_of q.text.service q.text.bytes.now p (segments_left q)) where
      by_kind : (j : Kind) → k ≡ j
          → x ≡ surveyed (unz_by j (start_of p) (unz_of t.service t.bytes.now (segments_left q))) (m + length (messages_by j (extent_of t.service t.bytes.now (start_of p) (segments_left q)) (messages_of t.service t.bytes.now (segments_left q)))) (z + length (stray_by j b p (strays_of t.service t.bytes.now (stays j b) (segments_left q))))
      unfolding unz_of messages_of strays_of
      by_kind j e =
          inv.told
          ∙ ap (λ (l : List Piece). surveyed (unz_of t.service t.bytes.now l) (m + length (messages_of t.service t.bytes.now l)) (z + length (strays_of t.service t.bytes.now b l))) w.yields
          ∙ ap (λ (i : Kind). surveyed (unz_by i (start_of p) (unz_of t.service t.bytes.now (segments_left q))) (m + length (messages_by i (extent_of t.service t.bytes.now (start_of p) (segments_left q)) (messages_of t.service t.bytes.now (segments_left q)))) (z + length (stray_by i b p (strays_of t.service t.bytes.now (stays i b) (segments_left q))))) (kind_is t r q inv.text p w k c ∙ e)

      -- the counts of the next turn: one more at most
      turn : (i j : ℕ) (d : Bool) → x ≡ surveyed (unz_of t.service t.bytes.now (segments_left q)) (i + length (messages_of t.service t.bytes.now (segments_left q))) (j + length (strays_of t.service t.bytes.now d (segments_left q))) → i ≤ m + 1 → j ≤ z + 1
          → Surveying x t i j d q
      turn i j d e g h = let a = inv.messages in let o = inv.strays in let y = ap length w.yields in record { told = e; messages = omega arith; strays = omega arith; text = kept t r q inv.text p w }

      pub survey_head : k ≡ head → Surveying x t (m + 1) z true q
      survey_head e = turn (m + 1) z true (by_kind head e ∙ ap (λ (n : ℕ). surveyed (unz_of t.service t.bytes.now (segments_left q)) n (z + length (strays_of t.service t.bytes.now true (segments_left q)))) (omega arith)) (omega arith) (omega arith)

      pub survey_trailer : k ≡ trailer → b ≡ true → Surveying x t m z false q
      survey_trailer e h = turn m z false (by_kind trailer e ∙ rw h refl) (omega arith) (omega arith)

      pub survey_other : k ≡ other → b ≡ true → Surveying x t m z b q
      survey_other e h = turn m z b (by_kind other e ∙ rw h refl) (omega arith) (omega arith)

      one_more : (d : Bool) → x ≡ surveyed (unz_of t.service t.bytes.now (segments_left q)) (m + length (messages_of t.service t.bytes.now (segments_left q))) (z + suc (length (strays_of t.service t.bytes.now d (segments_left q)))) → Surveying x t m (z + 1) d q
      one_more d e = turn m (z + 1) d (e ∙ ap (surveyed (unz_of t.service t.bytes.now (segments_left q)) (m + length (messages_of t.service t.bytes.now (segments_left q)))) (omega arith)) (omega arith) (omega arith)

      pub survey_stray_trailer : k ≡ trailer → b ≡ false → Surveying x t m (z + 1) b q
      survey_stray_trailer e h = one_more b (by_kind trailer e ∙ rw h refl)

      pub survey_stray : k ≡ other → b ≡ false → Surveying x t m (z + 1) b q
      survey_stray e h = one_more b (by_kind other e ∙ rw h refl)

      pub survey_cut : k ≡ cut → (f : Refusal) → f ≡ refusal numbers.End → Err f ≡ x
      survey_cut e f h = ap Err h ∙ sym (by_kind cut e)

      pub survey_last : k ≡ last → (n : ℕ) → n ≡ start_of p → ◌≡◌ {A = Result Survey Refusal} (Ok (record { messages = m; strays = z; end = n })) x
      unfolding messages_of strays_of
      survey_last e n h =
          let d = none_after t.service t.bytes.now p (segments_left q) (kind_is t r q inv.text p w k c ∙ e) in
          let i : m + length (messages_of t.service t.bytes.now (segments_left q)) ≡ m = ap (λ (l : List Piece). m + length (messages_of t.service t.bytes.now l)) d ∙ omega arith in
          let j : z + length (strays_of t.service t.bytes.now false (segments_left q)) ≡ z = ap (λ (l : List Piece). z + length (strays_of t.service t.bytes.now false l)) d ∙ omega arith in
          sym (by_kind last e ∙ ap₂ (surveyed (Some (start_of p))) i j ∙ rw h refl)
