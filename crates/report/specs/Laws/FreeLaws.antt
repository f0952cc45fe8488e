-- A message to which nothing applies keeps each rule that speaks of it as a whole. Assumes nothing.
use Rattle.std.specs.Prelude.{ℕ, ◌≡◌, Bool, true, false, length, leb}
use Rattle.std.proofs.Common.{arith, sym, subst}
use Rattle.std.proofs.Math.Path.{refl}
use mathlib.Core.List.{List, [], ◌∷◌, ◌++◌}
use Rattle.service.specs.declared.Service.{Service}
use Rattle.message.specs.Faults.{Told, told, tell, tell_all}
use Rattle.report.specs.Reported.{Bare, bare_of, told_unless, rule10, headed, Room, fits, early, In, here, there, Applies, soon}
use Rattle.report.specs.Laws.ToldLaws.{Every, every, All, all_told}

behind : (k l : List Told) (a : Told) → In a l → In a (k ++ l)
behind [] l a i = i
behind (b ∷ k) l a i = there (behind k l a i)

-- what a rule tells is told
pub told_in : (front back : List (ℕ × List ℕ)) (n s : ℕ) → In (told n s) (tell_all (front ++ (n, s ∷ []) ∷ back))
unfolding tell tell_all
told_in [] back n s = here
told_in (r ∷ rs) back n s = behind (tell r.0 r.1) (tell_all (rs ++ (n, s ∷ []) ∷ back)) (told n s) (told_in rs back n s)

-- 1 to 12, and 13
abbrev pub up_to_twelve : Bare → List (ℕ × List ℕ)
up_to_twelve b = (1, told_unless b.short 0) ∷ (2, told_unless b.fit 0) ∷ (10, rule10 1 b.segments) ∷ (11, told_unless b.closed 1) ∷ (12, told_unless (headed b.segments) 1) ∷ []

abbrev pub thirteen : Bare → ℕ × List ℕ
thirteen b = (13, told_unless (leb (length b.segments) 9999) 10000)

-- ---- where 14 is told the lists are too short
-- rules whose number is another
abbrev Other : List (ℕ × List ℕ) → Type 0
Other [] = Unit {0}
Other (r ∷ rs) = (r.0 ≡ 14 → ⊥) × Other rs

unless_short : (b : Bool) → Every (λ s. ◌≡◌ {A = ℕ} 14 14 → b ≡ false) (told_unless b 0)
unless_short true = tt
unless_short false = (λ e. refl, tt)

short_by : (b : Bool) (rs : List (ℕ × List ℕ)) → Other rs → All (λ n s. n ≡ 14 → b ≡ false) (rs ++ (14, told_unless b 0) ∷ [])
short_by b [] h = (unless_short b, tt)
short_by b (r ∷ rs) h = (every (λ s. r.0 ≡ 14 → b ≡ false) (λ s e. absurd (h.0 e)) r.1, short_by b rs h.1)

pub short_told : (v : Service) (m : List ℕ) (x : Room) (s : ℕ) → In (told 14 s) (tell_all (early (bare_of v m) x)) → fits (bare_of v m).segments x ≡ false
unfolding early
short_told v m x s i =
    let b : Bare = bare_of v m in
    let w = short_by (fits b.segments x) (up_to_twelve b ++ thirteen b ∷ []) (λ e. omega arith, (λ e. omega arith, (λ e. omega arith, (λ e. omega arith, (λ e. omega arith, (λ e. omega arith, tt)))))) in
    all_told (λ n s. n ≡ 14 → fits (bare_of v m).segments x ≡ false) (early (bare_of v m) x) (told 14 s) w i refl

-- ---- what holds where nothing applies
module _ (v : Service) (m : List ℕ) (x : Room) (free : (n s : ℕ) → Applies v m x n s → ⊥) where
  holds : (front back : List (ℕ × List ℕ)) (n s : ℕ) (b : Bool) → early (bare_of v m) x ≡ front ++ (n, told_unless b s) ∷ back → b ≡ true
  holds front back n s true e = refl
  holds front back n s false e = absurd (free n s (soon (subst (λ (l : List (ℕ × List ℕ)). In (told n s) (tell_all l)) (sym e) (told_in front back n s))))

  abbrev b : Bare
  b = bare_of v m

  abbrev fourteen : ℕ × List ℕ
  fourteen = (14, told_unless (fits b.segments x) 0)

  pub free_short : leb (length m) 1048576 ≡ true
  unfolding early
  free_short = holds [] ((2, told_unless b.fit 0) ∷ (10, rule10 1 b.segments) ∷ (11, told_unless b.closed 1) ∷ (12, told_unless (headed b.segments) 1) ∷ thirteen b ∷ fourteen ∷ []) 1 0 b.short refl

  pub free_few : leb (length b.segments) 9999 ≡ true
  unfolding early
  free_few = holds (up_to_twelve b) (fourteen ∷ []) 13 10000 (leb (length b.segments) 9999) refl

  pub free_fits : fits b.segments x ≡ true
  unfolding early
  free_fits = holds (up_to_twelve b ++ thirteen b ∷ []) [] 14 0 (fits b.segments x) refl
