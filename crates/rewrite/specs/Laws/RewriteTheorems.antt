-- Rewriting keeps each value, and rewriting twice changes nothing more. "Equal values, trailing empties aside, exactly when equal rewritten bytes."
-- Assumes nothing.
use Prim.Native.Nat.{ℕ, ◌≤◌}
use Rattle.std.specs.Prelude.{◌≡◌, refl, Bool, true, false, length, leb, Ok, Err}
use Rattle.std.proofs.Math.Path.{sym, ap, ap₂}
use Rattle.std.proofs.Common.{◌∙◌, arith, leb-true}
use Rattle.numbers.specs.declared.Number.TheVariants as numbers
use mathlib.Core.List.{List, map}
use Rattle.service.specs.Laws.ServiceLaws.{and_left, and_right}
use Rattle.service.specs.declared.Service.{Service}
use Rattle.service.specs.Service.{plain_service}
use Rattle.service.specs.Tests.{if}
use Rattle.segments.specs.declared.Piece.{Piece}
use Rattle.segments.specs.SegmentList.{segments_from}
use Rattle.parts.specs.Parts.{value_at}
use Rattle.parts.specs.Trimmed.{Values, trimmed, values_at, values_from}
use Rattle.parts.proofs.Laws.TrimLaws.{same_at, same_trimmed, values_trimmed}
use Rattle.values.specs.Exactly.{Exactly}
use Rattle.interchange.specs.Answers.{Opening}
use Rattle.interchange.specs.Answers.{Opens}
use Rattle.interchange.specs.Envelope.{refusal, after_first, last_start, body_of, message_count, stray_count}
use Rattle.interchange.specs.Forms.Answers.{opening_of, closed_by, closing_by, closing_of}
use Rattle.interchange.specs.Alike.{Alike, none, both}
use Rattle.interchange.specs.Laws.AlikeLaws.{same_count, same_strays, same_last, same_end, same_number}
use Rattle.rewrite.specs.Answers.{Rewriting}
use Rattle.rewrite.specs.Answers.{Written}
use Rattle.rewrite.specs.Answers as rewriting
use Rattle.rewrite.specs.Plain.{values_by, values_of, plain, rewritten, fits, rewriting_by, rewriting_of, room_by, room_after}
use Rattle.rewrite.specs.Laws.ReadLaws.{read_back}
use Rattle.rewrite.specs.Laws.OpenLaws.{same_values, alike_rewritten, first_values, reopens}

-- ---- equal values exactly when equal bytes
-- two segments have the same values, trailing empties aside, exactly if they have the same value at every place
pub equal_values : (x y : Values) → Exactly (trimmed x ≡ trimmed y) ((e c : ℕ) → value_at x e c ≡ value_at y e c)
equal_values x y = (same_at x y, same_trimmed x y)

trimmed_by : (s : List ℕ) (k : Opening) → map trimmed (values_by s k) ≡ values_by s k
trimmed_by s (Ok m) = values_trimmed m.service s (segments_from m.service s m.first)
trimmed_by s (Err f) = refl

values_read : (s : List ℕ) → values_from plain_service (rewritten s) 0 ≡ values_of s
unfolding rewritten values_of
values_read s = read_back (values_of s) ∙ trimmed_by s (opening_of s)

pub one_to_one : (s s' : List ℕ) → Exactly (values_of s ≡ values_of s') (rewritten s ≡ rewritten s')
unfolding rewritten
one_to_one s s' = (λ e. ap plain e, λ e. sym (values_read s) ∙ ap (λ (r : List ℕ). values_from plain_service r 0) e ∙ values_read s')

-- ---- an interchange that opens, and whose plain bytes are no more than an interchange may have
alike_rest : (v : Service) (s : List ℕ) (v' : Service) (s' : List ℕ) {l l' : List Piece} → Alike v s v' s' l l' → Alike v s v' s' (after_first l) (after_first l')
alike_rest v s v' s' none = none
alike_rest v s v' s' (both a t a' t' l l' q w) = w

module _ (s : List ℕ) (v : Service) (first : ℕ) (o : opening_of s ≡ Opens v first) (h : length (rewritten s) ≤ 1048576) where
  -- it opens again, with the default characters
  pub opens_again : opening_of (rewritten s) ≡ Opens plain_service 0
  opens_again = reopens s v first o h

  -- each value is kept
  pub values_kept : values_of (rewritten s) ≡ values_of s
  unfolding values_of
  values_kept = ap (values_by (rewritten s)) opens_again ∙ same_values s v first o ∙ sym (ap (values_by s) o)

  -- rewriting twice changes nothing more
  pub twice : rewritten (rewritten s) ≡ rewritten s
  twice = (one_to_one (rewritten s) s).0 values_kept

  -- the UNB has the same values, and so have the segments after it, one by one
  pub alike_first : values_at v s first ≡ values_at plain_service (rewritten s) 0
  alike_first =
      let p = first_values s v first o in
      let q = first_values (rewritten s) plain_service 0 opens_again in
      let r = same_values s v first o in
      cc

  pub alike_body : Alike v s plain_service (rewritten s) (body_of v s first) (body_of plain_service (rewritten s) 0)
  alike_body = alike_rest v s plain_service (rewritten s) (alike_rewritten s v first o)

  same_messages : message_count v s first ≡ message_count plain_service (rewritten s) 0
  same_messages = same_count v s plain_service (rewritten s) alike_body

  same_astray : stray_count v s first ≡ stray_count plain_service (rewritten s) 0
  same_astray = same_strays v s plain_service (rewritten s) alike_body false

  same_closed : closed_by v s first ≡ closed_by plain_service (rewritten s) 0
  unfolding closed_by
  same_closed =
      let r = rewritten s in
      let last : ℕ = last_start (length s) (body_of v s first) in
      let last' : ℕ = last_start (length r) (body_of plain_service r 0) in
      let e = same_last v s plain_service r alike_body (length s) (length r) (same_end v s plain_service r) in
      rw (same_number v s plain_service r first 0 last last' (message_count v s first) (stray_count v s first) alike_first e)
      (rw (same_messages, same_astray) refl)

  -- closing gives the same number, messages and strays
  pub closing_kept : closing_of (rewritten s) ≡ closing_of s
  unfolding closing_of
  closing_kept = ap (closing_by (rewritten s)) opens_again ∙ sym same_closed ∙ sym (ap (closing_by s) o)

-- ---- what an answer tells
-- so many bytes were written: the interchange opens, and they are its plain bytes
pub record WrittenSo (s : List ℕ) (room n : ℕ) : Type 0 where
  pub characters : Service
  pub first : ℕ
  pub opens : opening_of s ≡ Opens characters first
  pub long : n ≡ length (rewritten s)
  pub short : length (rewritten s) ≤ 1048576
  pub within : length (rewritten s) ≤ room

so_by : (s : List ℕ) (room n : ℕ) (v : Service) (first : ℕ) → opening_of s ≡ Opens v first → (t : Bool) → fits (length (rewritten s)) room ≡ t
    → if t (Written (length (rewritten s))) (rewriting.Refused (refusal numbers.Room)) ≡ Written n → WrittenSo s room n
unfolding fits
so_by s room n v first o true q e =
    let m : length (rewritten s) ≡ n = cc in
    record {
      characters = v;
      first = first;
      opens = o;
      long = sym m;
      short = leb-true (length (rewritten s)) 1048576 (and_left (leb (length (rewritten s)) 1048576) (leb (length (rewritten s)) room) q);
      within = leb-true (length (rewritten s)) room (and_right (leb (length (rewritten s)) 1048576) (leb (length (rewritten s)) room) q);
    }
so_by s room n v first o false q e = absurd (let z : ◌≡◌ {A = ℕ} 0 1 = cc in omega arith)

so_opening : (s : List ℕ) (room n : ℕ) (k : Opening) → opening_of s ≡ k → rewriting_by k (length (rewritten s)) room ≡ Written n → WrittenSo s room n
so_opening s room n (Ok m) o e = so_by s room n m.service m.first o (fits (length (rewritten s)) room) refl e
so_opening s room n (Err f) o e = absurd (let z : ◌≡◌ {A = ℕ} 0 1 = cc in omega arith)

pub written_so : (s : List ℕ) (room n : ℕ) → rewriting_of s room ≡ Written n → WrittenSo s room n
unfolding rewriting_of
written_so s room n e = so_opening s room n (opening_of s) refl e

-- and so the plain bytes, rewritten into a room as long, give the same answer and the same bytes
module _ (s : List ℕ) (n : ℕ) (old : List ℕ) (e : rewriting_of s (length old) ≡ Written n) where
  answer_again : rewriting_of (rewritten s) (length old) ≡ rewriting_of s (length old)
  unfolding rewriting_of
  answer_again =
      let f = written_so s (length old) n e in
      ap (λ (k : Opening). rewriting_by k (length (rewritten (rewritten s))) (length old)) (opens_again s f.characters f.first f.opens f.short)
      ∙ ap (λ (r : List ℕ). rewriting_by (Opens plain_service 0) (length r) (length old)) (twice s f.characters f.first f.opens f.short)
      ∙ sym (ap (λ (k : Opening). rewriting_by k (length (rewritten s)) (length old)) f.opens)

  pub rewrites_again : (rewriting_of (rewritten s) (length old) ≡ Written n) × (room_after (rewritten s) old ≡ room_after s old)
  unfolding room_after
  rewrites_again =
      let f = written_so s (length old) n e in
      (answer_again ∙ e, ap₂ (λ (k : Rewriting) (r : List ℕ). room_by k r old) answer_again (twice s f.characters f.first f.opens f.short))
