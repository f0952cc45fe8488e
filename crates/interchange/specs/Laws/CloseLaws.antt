-- What closing makes of the counts. Each premise is a fact that a proof has at hand. Assumes nothing.
use Rattle.std.specs.Prelude.{ℕ, Option, Some, None, ◌≤◌, ◌<◌, ◌≡◌, refl, List, Bool, true, false, length, drop, Result, Ok, Err}
use Rattle.std.proofs.Common.{arith, ◌∙◌}
use Rattle.std.proofs.Math.Path.{sym, ap}
use Rattle.numbers.specs.declared.Number.{Number}
use Rattle.numbers.specs.declared.Number.TheVariants as numbers
use borrow.Author.Tests.{eq-eqb, ne_eqb}
use Rattle.service.specs.declared.Service.{Service}
use Rattle.service.specs.declared.Characters.{Characters}
use Rattle.service.specs.Tests.{if}
use Rattle.segments.specs.declared.Piece.{Piece}
use Rattle.segments.specs.declared.Segments.{Segments}
use Rattle.segments.specs.declared.Text.{Text}
use Rattle.segments.specs.Left.{segments_left}
use Rattle.segments.specs.SegmentList.{segments_from}
use Rattle.values.specs.Numbers.{value_in}
use Rattle.values.specs.Text.{same_list}
use Rattle.values.specs.Forms.Values.{number_of, is_number}
use Rattle.interchange.specs.declared.Survey.{Survey}
use Rattle.interchange.specs.Answers.{Refusal}
use Rattle.interchange.specs.Answers.{Closing}
use Rattle.interchange.specs.Messages.{messages_of, strays_of}
use Rattle.interchange.specs.Envelope.{ended, first_at, refusal, last_start, body_of, message_count, stray_count, unz_at}
use Rattle.interchange.specs.Forms.Answers.{read_by, header_by, opened_by, closing_fault, closed_by, closing_by, closing_of}
use Rattle.interchange.specs.Forms.Survey.{unz_of, surveyed, survey_of}
use Rattle.interchange.specs.Laws.OpenLaws.{header_holds, open_headless, open_endless, open_whole, open_unread, open_read}
use Rattle.interchange.specs.Laws.EndedLaws.{tidy_pieces, tidy_after, unz_ended, body_ended}

-- ---- numbers 5 to 7
module _ (v : Service) (s : List ℕ) (first end m z : ℕ) (b : Bool) (c : b ≡ is_number (number_of (value_in v end s 1 0)) m) where
  pub closing_count : b ≡ false → Some numbers.Count ≡ closing_fault v s first end m z
  unfolding closing_fault
  closing_count e = simp (sym c ∙ e)

  module _ (e : b ≡ true) (d : Bool) (r : d ≡ same_list (value_in v first s 5 0) (value_in v end s 2 0)) where
    pub closing_reference : d ≡ false → Some numbers.Reference ≡ closing_fault v s first end m z
    unfolding closing_fault
    closing_reference h = simp (sym c ∙ e, sym r, h)

    pub closing_strays : d ≡ true → (z ≡ 0 → ⊥) → Some numbers.Strays ≡ closing_fault v s first end m z
    unfolding closing_fault
    closing_strays h n = simp (sym c ∙ e, sym r, h, ne_eqb z 0 n)

    pub closing_well : d ≡ true → z ≡ 0 → None ≡ closing_fault v s first end m z
    unfolding closing_fault
    closing_well h n = simp (sym c ∙ e, sym r, h, eq-eqb z 0 n)

-- ---- the whole
module _ (v : Service) (s : List ℕ) (first : ℕ) where
  -- the count of an interchange whose UNB is at first, by whether it ends
  abbrev counted : Bool → Result Survey Refusal
  counted b = if b (Ok (record { messages = message_count v s first; strays = stray_count v s first; end = unz_at v s first })) (Err (refusal numbers.End))

  surveyed_by : (b : Bool) (e m z : ℕ) → surveyed (if b (Some e) None) m z ≡ if b (Ok (record { messages = m; strays = z; end = e })) (Err (refusal numbers.End))
  surveyed_by true e m z = refl
  surveyed_by false e m z = refl

module _ (v : Service) (s : List ℕ) (first : ℕ) (k : Result ℕ Refusal) (c : k ≡ header_by v s first) where
  pub close_headless : (r : Refusal) → k ≡ Err r → Err r ≡ closing_by s (opened_by v s first)
  close_headless r e = ap (closing_by s) (open_headless v s first k c r e)

  module _ (f : ℕ) (e : k ≡ Ok f) (y : Result Survey Refusal) (h : y ≡ survey_of v s (body_of v s f)) where
    is_counted : y ≡ counted v s f (ended v s (segments_from v s f))
    unfolding survey_of
    is_counted =
        h
        ∙ ap (λ (o : Option ℕ). surveyed o (message_count v s f) (stray_count v s f)) (unz_ended v s (length s) (body_of v s f) (tidy_after (tidy_pieces v _ f f (drop f s))))
        ∙ surveyed_by v s f (ended v s (body_of v s f)) (unz_at v s f) (message_count v s f) (stray_count v s f)
        ∙ ap (counted v s f) (sym (body_ended v s f (header_holds v s first k c f e)))

    pub close_endless : (r : Refusal) → y ≡ Err r → Err r ≡ closing_by s (opened_by v s first)
    close_endless r w = go (ended v s (segments_from v s f)) refl
      where
        go : (b : Bool) → ended v s (segments_from v s f) ≡ b → Err r ≡ closing_by s (opened_by v s first)
        go true o = absurd (let x : y ≡ Ok (record { messages = message_count v s f; strays = stray_count v s f; end = unz_at v s f }) = is_counted ∙ ap (counted v s f) o in let z : ◌≡◌ {A = ℕ} 0 1 = cc in omega arith)
        go false o =
            let x : y ≡ Err (refusal numbers.End) = is_counted ∙ ap (counted v s f) o in
            let d : r ≡ refusal numbers.End = cc in
            ap (closing_by s) (open_endless v s first k c f e false (sym o) refl r d)

    pub close_whole : (w : Survey) → y ≡ Ok w → (n : Option Number) → n ≡ closing_fault v s f w.end w.messages w.strays
        → ◌≡◌ {A = Closing} (Ok (record { fault = n; messages = w.messages; strays = w.strays })) (closing_by s (opened_by v s first))
    unfolding closed_by
    close_whole w i n j = go (ended v s (segments_from v s f)) refl
      where
        go : (b : Bool) → ended v s (segments_from v s f) ≡ b → ◌≡◌ {A = Closing} (Ok (record { fault = n; messages = w.messages; strays = w.strays })) (closing_by s (opened_by v s first))
        go true o =
            let x : y ≡ Ok (record { messages = message_count v s f; strays = stray_count v s f; end = unz_at v s f }) = is_counted ∙ ap (counted v s f) o in
            let d : w ≡ record { messages = message_count v s f; strays = stray_count v s f; end = unz_at v s f } = cc in
            rw (j, d) (ap (closing_by s) (open_whole v s first k c f e true (sym o) refl))
        go false o = absurd (let x : y ≡ Err (refusal numbers.End) = is_counted ∙ ap (counted v s f) o in let z : ◌≡◌ {A = ℕ} 0 1 = cc in omega arith)

module _ (s : List ℕ) (k : Result Characters Refusal) (c : k ≡ read_by s) where
  pub close_unread : (r : Refusal) → k ≡ Err r → Err r ≡ closing_of s
  unfolding closing_of
  close_unread r e = ap (closing_by s) (open_unread s k c r e)

  pub close_read : (d : Characters) → k ≡ Ok d → (r : Closing) → r ≡ closing_by s (opened_by d.service s (first_at s d.una)) → r ≡ closing_of s
  unfolding closing_of
  close_read d e r w = w ∙ ap (closing_by s) (open_read s k c d e (opened_by d.service s (first_at s d.una)) refl)
