-- The least of all that rules tell is the first rule that has a place, where the rules stand in the order of their ranks. Assumes nothing.
use Rattle.std.specs.Prelude.{ℕ, ◌<◌, ◌≤◌, ◌≡◌, List, [], ◌∷◌, ◌++◌, Bool, true, false, ltb, leb, Option, None, Some}
use Rattle.std.proofs.Common.{arith, ap, ◌∙◌, lt-ltb, le-ltb, le-leb}
use Rattle.std.proofs.Math.Decide.{dec_lt}
use Rattle.std.proofs.Math.Path.{refl}
use Rattle.std.proofs.lemmas.Bool.{lt-leb}
use Rattle.service.specs.Tests.{if}
use Rattle.faults.specs.Firsts.{lesser, lesser_by, number_first}
use Rattle.message.specs.Faults.{rank, Told, told, tell, tell_all, lower, least, least_of}
use Rattle.message.specs.Forms.Run.{first_of}

-- every number told ranks above n
abbrev Above : ℕ → List Told → Type 0
Above n [] = Unit {0}
Above n (a ∷ l) = (n < rank a.number) × Above n l

-- the lesser of two places
abbrev lower_place : Bool → ℕ → ℕ → ℕ
lower_place true p q = p
lower_place false p q = q

lower_two : (n p q : ℕ) → lower (told n p) (told n q) ≡ told n (lower_place (leb p q) p q)
lower_two n p q = rw (le-ltb (rank n) (rank n) (omega arith)) (go (dec_lt q p))
  where
    go : Dec (q < p) → ◌≡◌ {A = Told} (if (ltb q p) (told n q) (told n p)) (told n (lower_place (leb p q) p q))
    go (yes h) = rw (lt-ltb q p h, lt-leb p q h)
    go (no h) = let k : p ≤ q = omega arith in rw (le-ltb q p k, le-leb p q k)

if_both : (n : ℕ) (t : Bool) (a b : Told) → n < rank a.number → n < rank b.number → n < rank (if t a b).number
if_both n true a b p q = p
if_both n false a b p q = q

lower_above : (n : ℕ) (a b : Told) → n < rank a.number → n < rank b.number → n < rank (lower a b).number
lower_above n a b p q =
    if_both n (ltb (rank a.number) (rank b.number)) a (if (ltb (rank b.number) (rank a.number)) b (if (ltb b.segment a.segment) b a)) p
    (if_both n (ltb (rank b.number) (rank a.number)) b (if (ltb b.segment a.segment) b a) q (if_both n (ltb b.segment a.segment) b a q p))

least_above : (n : ℕ) (b : Told) (bs : List Told) → Above n (b ∷ bs) → n < rank (least b bs).number
unfolding least
least_above n b [] h = h.0
least_above n b (c ∷ bs) h = lower_above n b (least c bs) h.0 (least_above n c bs h.1)

least_over : (n p : ℕ) (l : List Told) → Above (rank n) l → least (told n p) l ≡ told n p
unfolding least
least_over n p [] h = refl
least_over n p (b ∷ bs) h = rw (lt-ltb (rank n) (rank (least b bs).number) (least_above (rank n) b bs h))

least_place : ℕ → List ℕ → ℕ
least_place p [] = p
least_place p (q ∷ qs) = lower_place (leb p (least_place q qs)) p (least_place q qs)

lesser_place : (b : Bool) (p q : ℕ) → lesser_by b p q ≡ Some (lower_place b p q)
lesser_place true p q = refl
lesser_place false p q = refl

first_place_lem : (p : ℕ) (ps : List ℕ) → first_of (p ∷ ps) ≡ Some (least_place p ps)
unfolding first_of lesser least_place
first_place_lem p [] = refl
first_place_lem p (q ∷ qs) = rw (first_place_lem q qs) (lesser_place (leb p (least_place q qs)) p (least_place q qs))

least_told : (n p : ℕ) (ps : List ℕ) (l : List Told) → Above (rank n) l → least (told n p) (tell n ps ++ l) ≡ told n (least_place p ps)
unfolding least tell least_place
least_told n p [] l h = least_over n p l h
least_told n p (q ∷ qs) l h = ap (lower (told n p)) (least_told n q qs l h) ∙ lower_two n p (least_place q qs)

above_tell : (n m : ℕ) (ps : List ℕ) (l : List Told) → n < rank m → Above n l → Above n (tell m ps ++ l)
unfolding tell
above_tell n m [] l h k = k
above_tell n m (p ∷ ps) l h k = (h, above_tell n m ps l h k)

tell_first : (n : ℕ) (ps : List ℕ) (l : List Told) → Above (rank n) l → least_of (tell n ps ++ l) ≡ number_first n (first_of ps) (least_of l)
unfolding least_of tell
tell_first n [] l h = unfold first_of in refl
tell_first n (p ∷ ps) l h = rw (least_told n p ps l h, first_place_lem)

-- ---- rules in the order of their ranks
abbrev pub Rising : ℕ → List (ℕ × List ℕ) → Type 0
Rising n [] = Unit {0}
Rising n (r ∷ rs) = (n < rank r.0) × Rising (rank r.0) rs

-- the first rule with a place, before what is left
abbrev pub by_rules : List (ℕ × List ℕ) → Option Told → Option Told
by_rules [] v = v
by_rules (r ∷ rs) v = number_first r.0 (first_of r.1) (by_rules rs v)

above_all : (n k : ℕ) (rs : List (ℕ × List ℕ)) → n ≤ k → Rising k rs → Above n (tell_all rs)
unfolding tell_all
above_all n k [] h g = tt
above_all n k (r ∷ rs) h g =
    let e : n < rank r.0 = omega arith in
    above_tell n r.0 r.1 (tell_all rs) e (above_all n (rank r.0) rs (omega arith) g.1)

pub by_rules_lem : (k : ℕ) (rs : List (ℕ × List ℕ)) → Rising k rs → least_of (tell_all rs) ≡ by_rules rs None
unfolding tell_all
by_rules_lem k [] g = unfold least_of in refl
by_rules_lem k (r ∷ rs) g =
    tell_first r.0 r.1 (tell_all rs) (above_all (rank r.0) (rank r.0) rs (omega arith) g.1)
    ∙ ap (number_first r.0 (first_of r.1)) (by_rules_lem (rank r.0) rs g.1)
