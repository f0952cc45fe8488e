-- What fit service characters are to a reader of segments. Assumes nothing.
use Rattle.std.specs.Prelude.{ℕ, ◌<◌, ◌≡◌, refl, ◌⊎◌, List, [], ◌∷◌, ◌++◌, Bool, true, false}
use Rattle.std.proofs.Common.{arith, sym, inl, ⊎_elim, ne_eqb}
use Rattle.service.specs.declared.Service.{Service}
use Rattle.service.specs.Service.{serves, Fits}
use Rattle.service.specs.Laws.FitLaws.{serves_range}
use Rattle.segments.specs.declared.Class.TheVariants.{Plain, Term}
use Rattle.segments.specs.Classes.{class_of, is_break}
use Rattle.segments.specs.Laws.BytesLaws.{class_term, class_plain, class_plain'}
use Rattle.segments.specs.SegmentList.{Mode, gap}
use Rattle.segments.specs.Sync.{run, rel_after, Sound}
use Rattle.segments.specs.Laws.ResyncLaws.{settles}

module _ (v : Service) (f : Fits v) where
  apart : (b x : ℕ) → (b < 33) ⊎ (126 < b) → serves x ≡ true → b ≡ x → ⊥
  apart b x o e q = ⊎_elim (λ (h : b < 33). let w = serves_range x e in omega arith) (λ (h : 126 < b). let w = serves_range x e in omega arith) o

  -- a byte that no service character can be is plain
  pub plain_by : (b : ℕ) → ((x : ℕ) → serves x ≡ true → b ≡ x → ⊥) → class_of v b ≡ Plain
  plain_by b h = go v.releases refl
    where
      go : (r : Bool) → v.releases ≡ r → class_of v b ≡ Plain
      go true e = sym (class_plain v b (h v.terminator f.terminator) (h v.element f.element) (h v.component f.component) e (h v.release (f.release e)))
      go false e = sym (class_plain' v b (h v.terminator f.terminator) (h v.element f.element) (h v.component f.component) e)

  -- as one outside 0x21 to 0x7E
  pub plain_outside : (b : ℕ) → (b < 33) ⊎ (126 < b) → class_of v b ≡ Plain
  plain_outside b o = plain_by b (λ (x : ℕ) e. apart b x o e)

  pub fits_sound : Sound v
  fits_sound =
      let h : 13 < 33 = omega arith in
      let g : 10 < 33 = omega arith in
      record { cr = plain_outside 13 (inl h); lf = plain_outside 10 (inl g) }

  pub term_class : class_of v v.terminator ≡ Term
  term_class = sym (class_term v v.terminator refl)

  pub term_no_break : is_break v.terminator ≡ false
  term_no_break =
      let w = serves_range v.terminator f.terminator in
      let n : v.terminator ≡ 13 → ⊥ = λ (q : v.terminator ≡ 13). omega arith in
      let m : v.terminator ≡ 10 → ⊥ = λ (q : v.terminator ≡ 10). omega arith in
      simp (ne_eqb v.terminator 13 n, ne_eqb v.terminator 10 m)

  -- whatever stood before, after a terminator, bytes that leave nothing released, and a terminator, nothing is open
  pub fit_settles : (m : Mode) (p u : List ℕ) → rel_after v false u ≡ false → run v m (p ++ (v.terminator ∷ u) ++ v.terminator ∷ []) ≡ gap
  fit_settles = settles v fits_sound v.terminator term_class term_no_break
