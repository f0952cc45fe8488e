-- The answer of rewriting and the room after it, by the way it went. Assumes nothing.
use Rattle.std.specs.Prelude.{ℕ, ◌≤◌, ◌≡◌, refl, Bool, true, false, length, leb, Ok, Err}
use Rattle.std.proofs.Common.{arith, ◌∙◌, leb-true}
use Rattle.std.proofs.Math.Path.{sym, ap}
use Rattle.numbers.specs.declared.Number.TheVariants as numbers
use mathlib.Core.List.{List}
use Rattle.service.specs.Laws.ServiceLaws.{and_left, and_right}
use Rattle.service.specs.Tests.{if}
use Rattle.parts.specs.Trimmed.{values_from}
use Rattle.interchange.specs.Answers.{Refusal}
use Rattle.interchange.specs.declared.Opened.{Opened}
use Rattle.interchange.specs.Laws.WithinLaws.{opened_short}
use Rattle.interchange.specs.Answers.{Opening}
use Rattle.interchange.specs.Answers as opening
use Rattle.interchange.specs.Envelope.{refusal}
use Rattle.interchange.specs.Opened.{OpenedAs}
use Rattle.interchange.specs.Forms.Answers.{opening_of}
use Rattle.interchange.specs.Laws.OpenedLaws.{opening_is}
use Rattle.lent.specs.Over.{over}
use Rattle.rewrite.specs.Answers.{Rewriting}
use Rattle.rewrite.specs.Answers.{Written, Refused}
use Rattle.rewrite.specs.Plain.{values_of, plain, rewritten, fits, fitting, rewriting_by, rewriting_of, room_by, room_after}
use Rattle.lent.specs.Forms.Puts.{Puts}
use Rattle.lent.specs.Laws.PutsLaws.{puts_over, puts_length}

fits_within : (n room : ℕ) → true ≡ fits n room → n ≤ room
unfolding fits
fits_within n room e = leb-true n room (and_right (leb n 1048576) (leb n room) (sym e))

-- ---- opening refused
module _ (s : List ℕ) (o : Opening) (q : OpenedAs s o) (f : Refusal) (e : o ≡ opening.Refused f) where
  pub refused_answer : (room : ℕ) → Refused f ≡ rewriting_of s room
  unfolding rewriting_of
  refused_answer room = rw (← opening_is s o q, e)

  pub refused_room : (old : List ℕ) → old ≡ room_after s old
  unfolding room_after rewriting_of
  refused_room old = rw (← opening_is s o q, e)

-- ---- opened
module _ (s : List ℕ) (o : Opening) (q : OpenedAs s o) (m : Opened) (e : o ≡ Ok m) where
  pub opened_within : length s ≤ 1048576
  opened_within = opened_short s o q m.service m.first e

  pub rewritten_is : rewritten s ≡ plain (values_from m.service s m.first)
  unfolding rewritten values_of
  rewritten_is = rw (← opening_is s o q, e)

  answer_is : (room : ℕ) → rewriting_of s room ≡ fitting (length (plain (values_from m.service s m.first))) room
  unfolding rewriting_of
  answer_is room = ap (λ (k : Opening). rewriting_by k (length (rewritten s)) room) (sym (opening_is s o q) ∙ e) ∙ ap (λ (l : List ℕ). fitting (length l) room) rewritten_is

  module _ (n : ℕ) (c : n ≡ length (plain (values_from m.service s m.first))) (old : List ℕ) (t : Bool) (y : t ≡ fits n (length old)) where
    pub long_answer : t ≡ false → (f : Refusal) → f ≡ refusal numbers.Room → Refused f ≡ rewriting_of s (length old)
    long_answer x f r =
        sym (answer_is (length old) ∙ ap (λ (i : ℕ). fitting i (length old)) (sym c) ∙ ap (λ (b : Bool). if b (Written n) (Refused (refusal numbers.Room))) (sym y ∙ x) ∙ ap Refused (sym r))

    pub long_room : t ≡ false → old ≡ room_after s old
    unfolding room_after
    long_room x =
        sym (ap (λ (k : Rewriting). room_by k (rewritten s) old) (answer_is (length old) ∙ ap (λ (i : ℕ). fitting i (length old)) (sym c) ∙ ap (λ (b : Bool). if b (Written n) (Refused (refusal numbers.Room))) (sym y ∙ x)))

    module _ (x : t ≡ true) (new : List ℕ) (w : ℕ) (p : Puts 0 (plain (values_from m.service s m.first)) old new w) where
      room_short : length (plain (values_from m.service s m.first)) ≤ length old
      room_short = let h = fits_within n (length old) (sym x ∙ y) in omega arith

      written_is : w ≡ n
      written_is = puts_length w (plain (values_from m.service s m.first)) old new p room_short ∙ sym c

      answer_so : rewriting_of s (length old) ≡ Written n
      answer_so = answer_is (length old) ∙ ap (λ (i : ℕ). fitting i (length old)) (sym c) ∙ ap (λ (b : Bool). if b (Written n) (Refused (refusal numbers.Room))) (sym y ∙ x)

      pub written_answer : Written w ≡ rewriting_of s (length old)
      written_answer = ap Written written_is ∙ sym answer_so

      pub written_room : new ≡ room_after s old
      unfolding room_after
      written_room =
          puts_over w (plain (values_from m.service s m.first)) old new p room_short
          ∙ ap (λ (l : List ℕ). over l old) (sym rewritten_is)
          ∙ sym (ap (λ (k : Rewriting). room_by k (rewritten s) old) answer_so)

-- ---- what is written is at most 1,048,576 bytes
small_by : (n room k : ℕ) (b : Bool) → b ≡ fits n room → if b (Written n) (Refused (refusal numbers.Room)) ≡ Written k → k ≤ 1048576
unfolding fits
small_by n room k true f e =
    let p : n ≡ k = cc in
    let h = leb-true n 1048576 (and_left (leb n 1048576) (leb n room) (sym f)) in omega arith
small_by n room k false f e = absurd (let z : ◌≡◌ {A = ℕ} 0 1 = cc in omega arith)

small_in : (o : Opening) (n room k : ℕ) → rewriting_by o n room ≡ Written k → k ≤ 1048576
small_in (Ok m) n room k e = small_by n room k (fits n room) refl e
small_in (Err f) n room k e = absurd (let z : ◌≡◌ {A = ℕ} 0 1 = cc in omega arith)

pub rewriting_small : (s : List ℕ) (room n : ℕ) → rewriting_of s room ≡ Written n → n ≤ 1048576
unfolding rewriting_of
rewriting_small s room n e = small_in (opening_of s) (length (rewritten s)) room n e
