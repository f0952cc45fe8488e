-- The rules as loops go: a state, and a step for each segment.
use Rattle.std.specs.Prelude.{List, [], ◌∷◌, Bool, ℕ, Option, None, Some}
use Rattle.service.specs.Tests.{if}
use Rattle.faults.specs.Firsts.{lesser, place_unless}
use Rattle.message.specs.Segs.{Seg}

unfoldable pub run : {S : Type 0} → (S → Seg → S) → S → List Seg → S
run f st [] = st
run f st (s ∷ ss) = run f (f st s) ss

-- the first of some places
unfoldable pub first_of : List ℕ → Option ℕ
first_of [] = None
first_of (p ∷ ps) = lesser (Some p) (first_of ps)

-- a place, if there is one and a test does not hold
abbrev pub place_if : Option ℕ → Bool → Option ℕ
place_if None t = None
place_if (Some n) t = place_unless t n

-- a test of each segment of a kind
unfoldable pub test_step : (Seg → Bool) → (Seg → Bool) → Option ℕ → Seg → Option ℕ
test_step t ok f s = if (t s) (lesser f (place_unless (ok s) s.nth)) f

-- a level: what is gathered from a segment that opens a stretch to one that ends it, what a segment inside tells at once, and what the stretch comes to
pub record Level (A : Type 0) : Type 0 where
  pub opens : Seg → Bool
  pub ends : Seg → Bool
  pub start : Seg → A
  pub idle : A
  pub inner : A → Seg → A
  pub tells : A → Seg → Option ℕ
  pub comes : A → Option ℕ

unfoldable pub level_step : {A : Type 0} → Level A → (A × Option ℕ) → Seg → (A × Option ℕ)
level_step L st s =
    if (L.ends s)
    (if (L.opens s) (L.start s) L.idle, lesser st.1 (L.comes st.0))
    (L.inner st.0 s, lesser st.1 (L.tells st.0 s))

unfoldable pub close : {A : Type 0} → Level A → (A × Option ℕ) → Option ℕ
close L st = lesser st.1 (L.comes st.0)
