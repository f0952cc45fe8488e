-- The cases hold. Assumes nothing.
use Rattle.std.specs.Prelude.{ℕ, ◌≡◌, refl, List, [], ◌∷◌}
use Rattle.std.proofs.Common.{arith, sym, ◌∙◌, ap}
use Rattle.service.specs.Tests.{last_of}
use Rattle.service.specs.Service.{plain_service, begins_una, characters_of}
use Rattle.segments.specs.Classes.{class_of}
use Rattle.segments.specs.SegmentList.{pieces, segments_after}
use Rattle.parts.specs.Parts.{lex, elements, value_at, value_of}
use Rattle.values.specs.Text.{text, same_list}
use Rattle.interchange.specs.Answers.{Opens}
use Rattle.interchange.specs.Messages.{Extent, closed, unclosed, starts_at, ends_at, tag_at, extent_of, messages_of, cut_before, found_in}
use Rattle.interchange.specs.Envelope.{is_reference, is_header, first_at, body_of}
use Rattle.interchange.specs.Forms.Answers.{opened_by, opening_of}
use Rattle.interchange.specs.Laws.OpenedLaws.{opened}
use Rattle.damage.specs.Damage.{Before, here, later, Mark, whole, replaced, Beside}
use Rattle.damage.specs.Damage as damage
use Rattle.walk.specs.Frame.{message, step_at, step_from}
use Rattle.walk.specs.Laws.FrameLaws.{one_end}
use Rattle.demands.specs.Runs.{Steps}
use Rattle.demands.specs.Runs as runs
use Rattle.demands.specs.OtherMessages.{Unhurt}
use Rattle.demands.specs.Predecessor.{four, four_messages, nearer, farther, Predecessor}

opens : opening_of four ≡ Opens plain_service 0
unfolding text characters_of begins_una opening_of opened_by first_at is_header is_reference last_of tag_at pieces class_of lex value_of elements value_at same_list
opens = refl

near_opens : opening_of (replaced four nearer) ≡ Opens plain_service 0
unfolding text characters_of begins_una opening_of opened_by first_at is_header is_reference last_of tag_at pieces class_of lex value_of elements value_at same_list
near_opens = refl

far_opens : opening_of (replaced four farther) ≡ Opens plain_service 0
unfolding text characters_of begins_una opening_of opened_by first_at is_header is_reference last_of tag_at pieces class_of lex value_of elements value_at same_list
far_opens = refl

was : messages_of plain_service four (body_of plain_service four 0) ≡ four_messages
unfolding text messages_of extent_of tag_at pieces class_of lex value_of same_list
was = refl

near_is : messages_of plain_service (replaced four nearer) (body_of plain_service (replaced four nearer) 0) ≡ closed 21 39 ∷ closed 39 53 ∷ closed 53 67 ∷ []
unfolding text messages_of extent_of tag_at pieces class_of lex value_of same_list
near_is = refl

far_is : messages_of plain_service (replaced four farther) (body_of plain_service (replaced four farther) 0) ≡ unclosed 21 31 ∷ closed 31 45 ∷ closed 45 59 ∷ []
unfolding text messages_of extent_of tag_at pieces class_of lex value_of same_list
far_is = refl

precedes : Before 36 44 (segments_after plain_service four 27)
unfolding text pieces class_of
precedes = later _ _ (here _ _ _)

near_step : step_from (replaced four nearer) 0 ≡ message 21 39
unfolding text characters_of begins_una step_at step_from found_in cut_before messages_of extent_of tag_at pieces class_of lex value_of same_list
near_step = refl

far_step : step_from (replaced four farther) 0 ≡ message 21 31
unfolding text characters_of begins_una step_at step_from found_in cut_before messages_of extent_of tag_at pieces class_of lex value_of same_list
far_step = refl

-- what is found first, where it is told
first_ends : (s : List ℕ) (e : ℕ) → step_from s 0 ≡ message 21 e → {l : List Extent} → Steps s 0 l → (m : Extent) (ms : List Extent) → l ≡ m ∷ ms → e ≡ ends_at m
first_ends s e q (runs.done at o) m ms r = absurd (let z : ◌≡◌ {A = ℕ} 0 1 = cc in omega arith)
first_ends s e q (runs.next at x xs o t) m ms r =
    let a : x ≡ m = cc in
    one_end 21 e (starts_at x) (ends_at x) (sym q ∙ o) ∙ ap ends_at a

-- a whole first message is found first, and ends where it did
first_found : (s s' : List ℕ) (e : ℕ) → step_from s' 0 ≡ message 21 e → {k : List Mark} {l l' : List Extent} → Steps s' 0 l' → Beside (Unhurt s s') 0 0 k l l'
    → (h : List Mark) → k ≡ whole ∷ h → (ms : List Extent) → l ≡ unclosed 21 27 ∷ ms → e ≡ 27
first_found s s' e q w (damage.none _ _) h f ms g = absurd (let z : ◌≡◌ {A = ℕ} 0 1 = cc in omega arith)
first_found s s' e q w (damage.spared _ _ m m' k l l' y b) h f ms g =
    let a : m ≡ unclosed 21 27 = cc in
    let c : ends_at m ≡ 27 = ap ends_at a in
    let d = y.stays.end in
    let i = first_ends s' e q w m' l' refl in
    omega arith
first_found s s' e q w (damage.struck _ _ c m k l new l' b) h f ms g = absurd (let z : ◌≡◌ {A = ℕ} 0 1 = cc in omega arith)
first_found s s' e q w (damage.passed _ _ m k l new l' b) h f ms g = absurd (let z : ◌≡◌ {A = ℕ} 0 1 = cc in omega arith)

pub predecessor : Predecessor
predecessor = record {
  opens = opened four plain_service 0 opens;
  was = was;
  precedes = precedes;
  near = record { low = omega arith; order = omega arith; high = omega arith };
  far = record { low = omega arith; order = omega arith; high = omega arith };
  near_opens = opened (replaced four nearer) plain_service 0 near_opens;
  near_is = near_is;
  near_harmed = λ u. let z = first_found four (replaced four nearer) 39 near_step u.steps u.each _ refl _ was in omega arith;
  far_opens = opened (replaced four farther) plain_service 0 far_opens;
  far_is = far_is;
  far_harmed = λ u. let z = first_found four (replaced four farther) 31 far_step u.steps u.each _ refl _ was in omega arith;
}
