-- Whether a row is one of some, or of some others. Assumes nothing.
use Rattle.std.specs.Prelude.{ℕ, ◌≡◌, refl, List, [], ◌∷◌, Bool, true, false, ◌||◌, eqb}
use Rattle.std.proofs.Common.{inl, inr, eq-eqb, ne_eqb}
use types.Run.{OneOf}
use Rattle.service.specs.Service.{among}

or_true : (b : Bool) → true ≡ b || true
or_true true = refl
or_true false = refl

one_of : (ks : List ℕ) (r : ℕ) → OneOf ks r → true ≡ among r ks
unfolding among
one_of [] r e = absurd e
one_of (k ∷ []) r e = rw (eq-eqb r k e)
one_of (k ∷ (l ∷ ks)) r (inl e) = rw (eq-eqb r k e)
one_of (k ∷ (l ∷ ks)) r (inr h) = rw (← one_of (l ∷ ks) r h) (or_true (eqb r k))

none_of : (ks : List ℕ) (r : ℕ) → (OneOf ks r → ⊥) → false ≡ among r ks
unfolding among
none_of [] r h = refl
none_of (k ∷ []) r h = rw (ne_eqb r k h)
none_of (k ∷ (l ∷ ks)) r h = rw (ne_eqb r k (λ e. h (inl e))) (none_of (l ∷ ks) r (λ e. h (inr e)))

module _ (ks ls : List ℕ) (r : ℕ) where
  pub on_first_lem : OneOf ks r → true ≡ among r ks || among r ls
  on_first_lem h = rw (← one_of ks r h)

  pub on_second : OneOf ls r → true ≡ among r ks || among r ls
  on_second h = rw (← one_of ls r h) (or_true (among r ks))

  pub on_neither : (OneOf ks r → ⊥) → (OneOf ls r → ⊥) → false ≡ among r ks || among r ls
  on_neither h k = rw (← none_of ks r h) (none_of ls r k)
