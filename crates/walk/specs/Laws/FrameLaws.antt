-- The walk's tests, one by one. Assumes nothing.
use Rattle.std.specs.Prelude.{ℕ, ◌≤◌, ◌<◌, ◌≡◌, refl, List, Bool, true, false, length, ltb, Option, None, Some, Result, Ok, Err}
use Rattle.std.proofs.Math.Path.{sym, ap}
use Rattle.std.proofs.Common.{arith, ◌∙◌, lt-ltb, le-ltb}
use Rattle.numbers.specs.declared.Number.TheVariants as numbers
use Rattle.service.specs.declared.Service.{Service}
use Rattle.service.specs.declared.Characters.{Characters}
use Rattle.service.specs.Service.{Fit}
use Rattle.service.specs.Service.{characters_of}
use Rattle.service.specs.Tests.{if}
use Rattle.interchange.specs.Answers.{Refusal}
use Rattle.interchange.specs.Answers.{Found, refusal}
use Rattle.interchange.specs.Messages.{found_from}
use Rattle.interchange.specs.Forms.Answers.{read_with, read_by}
use Rattle.walk.specs.Frame.{Step, message, step_at, step_with, step_from}

module _ (v : Service) (s : List ℕ) (at : ℕ) where
  pub step_past : length s < at → (f : Refusal) → f ≡ refusal numbers.Position → Err f ≡ step_at v s at
  unfolding step_at
  step_past h f e = ap Err e ∙ sym (rw (lt-ltb _ _ h))

  pub step_found : at ≤ length s → (k : Found) → k ≡ found_from v s at → k ≡ step_at v s at
  unfolding step_at
  step_found h k c = c ∙ sym (rw (le-ltb _ _ h))

module _ (s : List ℕ) where
  -- ---- what the characters say of a step
  pub record Read (v : Service) : Type 0 where
    pub una : ℕ
    pub named : characters_of s ≡ Fit v una
    pub steps : (at : ℕ) → step_at v s at ≡ step_from s at

  read_if : (k : Option Characters) → characters_of s ≡ k → (t : Bool) → ltb 1048576 (length s) ≡ t → (d : Characters) → ◌≡◌ {A = Result Characters Refusal} (if t (Err (refusal numbers.TooLong)) (read_with k)) (Ok d) → Read d.service
  unfolding step_from
  read_if k c true l d e = absurd (let z : ◌≡◌ {A = ℕ} 0 1 = cc in omega arith)
  read_if (Some c) n false l d e = let i : c ≡ d = cc in record { una = c.una; named = n ∙ ap (λ (w : Characters). Fit w.service c.una) i; steps = λ at. rw (l, n, i) }
  read_if None c false l d e = absurd (let z : ◌≡◌ {A = ℕ} 0 1 = cc in omega arith)

  unread_if : (k : Option Characters) → characters_of s ≡ k → (t : Bool) → ltb 1048576 (length s) ≡ t → (f : Refusal) → ◌≡◌ {A = Result Characters Refusal} (if t (Err (refusal numbers.TooLong)) (read_with k)) (Err f) → (at : ℕ) → ◌≡◌ {A = Step} (Err f) (step_from s at)
  unfolding step_from
  unread_if k c true l f e at = let i : refusal numbers.TooLong ≡ f = cc in rw (l, i)
  unread_if (Some d) c false l f e at = absurd (let z : ◌≡◌ {A = ℕ} 0 1 = cc in omega arith)
  unread_if None c false l f e at = let i : refusal numbers.Characters ≡ f = cc in rw (l, c, i)

  module _ (k : Result Characters Refusal) (c : k ≡ read_by s) where
    pub read : (d : Characters) → k ≡ Ok d → Read d.service
    unfolding read_by
    read d e = read_if (characters_of s) refl (ltb 1048576 (length s)) refl d (sym c ∙ e)

    pub unread : (f : Refusal) → k ≡ Err f → (at : ℕ) → ◌≡◌ {A = Step} (Err f) (step_from s at)
    unfolding read_by
    unread f e at = unread_if (characters_of s) refl (ltb 1048576 (length s)) refl f (sym c ∙ e) at

-- ---- where a message lies, of an answer
abbrev from_of : Step → ℕ
from_of (Ok (Some m)) = m.start
from_of (Ok None) = 0
from_of (Err f) = 0

abbrev to_of : Step → ℕ
to_of (Ok (Some m)) = m.end
to_of (Ok None) = 0
to_of (Err f) = 0

pub one_start : (a e b c : ℕ) → message a e ≡ message b c → a ≡ b
one_start a e b c q = ap from_of q

pub one_end : (a e b c : ℕ) → message a e ≡ message b c → e ≡ c
one_end a e b c q = ap to_of q
