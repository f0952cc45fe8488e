-- What holds of every number and segment that rules may tell holds of what is told. Assumes nothing.
use Rattle.std.specs.Prelude.{ℕ}
use Rattle.std.proofs.Math.Path.{refl}
use mathlib.Core.List.{List, [], ◌∷◌, ◌++◌}
use Rattle.message.specs.Faults.{Told, tell, tell_all}
use Rattle.report.specs.Reported.{In, here, there}
use Rattle.report.specs.Laws.LeastLaws.{nowhere}

abbrev pub Every : (ℕ → Type 0) → List ℕ → Type 0
Every P [] = Unit {0}
Every P (x ∷ l) = P x × Every P l

pub every : (P : ℕ → Type 0) → ((s : ℕ) → P s) → (l : List ℕ) → Every P l
every P h [] = tt
every P h (x ∷ l) = (h x, every P h l)

pub every_map : (P Q : ℕ → Type 0) → ((x : ℕ) → P x → Q x) → (l : List ℕ) → Every P l → Every Q l
every_map P Q f [] h = tt
every_map P Q f (x ∷ l) h = (f x h.0, every_map P Q f l h.1)

abbrev pub All : (ℕ → ℕ → Type 0) → List (ℕ × List ℕ) → Type 0
All P [] = Unit {0}
All P (r ∷ rs) = Every (P r.0) r.1 × All P rs

module _ (P : ℕ → ℕ → Type 0) where
  tell_all_lem : (k : ℕ) (ps : List ℕ) (l : List Told) (a : Told) → Every (P k) ps → (In a l → P a.number a.segment) → In a (tell k ps ++ l) → P a.number a.segment
  unfolding tell
  tell_all_lem k [] l a h g i = g i
  tell_all_lem k (p ∷ ps) l a h g here = h.0
  tell_all_lem k (p ∷ ps) l a h g (there i) = tell_all_lem k ps l a h.1 g i

  pub all_told : (rs : List (ℕ × List ℕ)) (a : Told) → All P rs → In a (tell_all rs) → P a.number a.segment
  unfolding tell_all
  all_told [] a h i = absurd (nowhere a [] refl i)
  all_told (r ∷ rs) a h i = tell_all_lem r.0 r.1 (tell_all rs) a h.0 (all_told rs a h.1) i
