-- The service characters that are answered are fit. Assumes nothing.
use Rattle.std.specs.Prelude.{ℕ, ◌≤◌, ◌≡◌, refl, ◌⊎◌, List, [], ◌∷◌, Bool, true, false, not, ◌&&◌, ◌||◌, length, T, eqb, leb}
use Rattle.std.proofs.Common.{arith, sym, subst, inl, inr, leb-true}
use Rattle.service.specs.declared.Service.{Service}
use Rattle.service.specs.Service.{Fit, Unfit, plain_service, is_alphanumeric, serves, is_none, is_mark, among, distinct, present_by, fit, service_of, serving_by, Fits, fitting, named_by, begins_una, characters_of}
use Rattle.service.specs.Laws.ServiceLaws.{same_fit, and_left, and_right}
use Rattle.service.specs.Tests.{if}

-- ---- without the mark the others still differ
skip : (x y z u w a d : Bool) → (not (x || (y || z)) && (not (u || w) && (not a && d))) ≡ true → (not (x || z) && (not w && d)) ≡ true
skip true y z u w a d e = absurd (subst T (sym e) tt)
skip false true z u w a d e = absurd (subst T (sym e) tt)
skip false false true u w a d e = absurd (subst T (sym e) tt)
skip false false false true w a d e = absurd (subst T (sym e) tt)
skip false false false false true a d e = absurd (subst T (sym e) tt)
skip false false false false false true d e = absurd (subst T (sym e) tt)
skip false false false false false false d e = e

no_mark : (c e m : ℕ) (l : List ℕ) → distinct (c ∷ e ∷ m ∷ l) ≡ true → distinct (c ∷ e ∷ l) ≡ true
unfolding distinct among
no_mark c e m l h = skip (eqb c e) (eqb c m) (among c l) (eqb e m) (among e l) (among m l) (distinct l) h

-- the release by itself, and those present, by whether there is a release
release_by_lem : (r : ℕ) (n : Bool) → is_none r ≡ n → (n || serves r) ≡ true → not n ≡ true → serves r ≡ true
release_by_lem r true q h e = absurd (subst T (sym e) tt)
release_by_lem r false q h e = h

differ_by : (c e m r t : ℕ) (n : Bool) → is_none r ≡ n → distinct (present_by n c e m r t) ≡ true → distinct (serving_by (not n) (service_of c e r t)) ≡ true
differ_by c e m r t true q h = no_mark c e m (t ∷ []) h
differ_by c e m r t false q h = no_mark c e m (r ∷ t ∷ []) h

pub fit_bytes : (c e m r p t : ℕ) → fit c e m r p t ≡ true → Fits (service_of c e r t)
unfolding fit
fit_bytes c e m r p t h =
    let h1 = and_right (eqb p 32) _ h in
    let h2 = and_left (is_mark m && (serves c && (serves e && (serves t && (is_none r || serves r))))) (distinct (present_by (is_none r) c e m r t)) h1 in
    let h3 = and_right (is_mark m) (serves c && (serves e && (serves t && (is_none r || serves r)))) h2 in
    let h4 = and_right (serves c) (serves e && (serves t && (is_none r || serves r))) h3 in
    let h5 = and_right (serves e) (serves t && (is_none r || serves r)) h4 in
    record {
      component = and_left (serves c) (serves e && (serves t && (is_none r || serves r))) h3;
      element = and_left (serves e) (serves t && (is_none r || serves r)) h4;
      terminator = and_left (serves t) (is_none r || serves r) h5;
      release = release_by_lem r (is_none r) refl (and_right (serves t) (is_none r || serves r) h5);
      differ = differ_by c e m r t (is_none r) refl (and_right (is_mark m && (serves c && (serves e && (serves t && (is_none r || serves r))))) (distinct (present_by (is_none r) c e m r t)) h1);
    }

-- ---- the test is the record
release_some : (v : Service) (b : Bool) → (not b || serves v.release) ≡ true → b ≡ true → serves v.release ≡ true
release_some v true h e = h
release_some v false h e = absurd (subst T (sym e) tt)

pub fits_if : (v : Service) → fitting v ≡ true → Fits v
unfolding fitting
fits_if v h =
    let each = serves v.component && (serves v.element && (serves v.terminator && (not v.releases || serves v.release))) in
    let h1 = and_left each (distinct (serving_by v.releases v)) h in
    let h2 = and_right (serves v.component) (serves v.element && (serves v.terminator && (not v.releases || serves v.release))) h1 in
    let h3 = and_right (serves v.element) (serves v.terminator && (not v.releases || serves v.release)) h2 in
    record {
      component = and_left (serves v.component) (serves v.element && (serves v.terminator && (not v.releases || serves v.release))) h1;
      element = and_left (serves v.element) (serves v.terminator && (not v.releases || serves v.release)) h2;
      terminator = and_left (serves v.terminator) (not v.releases || serves v.release) h3;
      release = release_some v v.releases (and_right (serves v.terminator) (not v.releases || serves v.release) h3);
      differ = and_right each (distinct (serving_by v.releases v)) h;
    }

release_or : (v : Service) (b : Bool) → (b ≡ true → serves v.release ≡ true) → (not b || serves v.release) ≡ true
release_or v true h = h refl
release_or v false h = refl

pub fits_fitting : (v : Service) → Fits v → fitting v ≡ true
unfolding fitting
fits_fitting v f = rw (f.component, f.element, f.terminator, release_or v v.releases f.release, f.differ)

pub plain_fits : Fits plain_service
unfolding serves is_alphanumeric distinct among
plain_fits = record { component = refl; element = refl; terminator = refl; release = λ e. refl; differ = refl }

named_by_lem : (c e m r p t : ℕ) (k : Bool) → fit c e m r p t ≡ k → (v : Service) (n : ℕ) → if k (Fit (service_of c e r t) 9) Unfit ≡ Fit v n → Fits v × (n ≡ 9)
named_by_lem c e m r p t true h v n q =
    let w = same_fit (service_of c e r t) v 9 n q in
    (subst Fits w.0 (fit_bytes c e m r p t h), sym w.1)
named_by_lem c e m r p t false h v n q = absurd (let z : ◌≡◌ {A = ℕ} 0 1 = cc in omega arith)

by_una : (k j : Bool) (c e m r p t : ℕ) (v : Service) (n : ℕ) → if k (if j (named_by c e m r p t) Unfit) (Fit plain_service 0) ≡ Fit v n → Fits v × ((n ≡ 0) ⊎ (n ≡ 9))
unfolding named_by
by_una true true c e m r p t v n q = let w = named_by_lem c e m r p t (fit c e m r p t) refl v n q in (w.0, inr w.1)
by_una true false c e m r p t v n q = absurd (let z : ◌≡◌ {A = ℕ} 0 1 = cc in omega arith)
by_una false j c e m r p t v n q =
    let w = same_fit plain_service v 0 n q in
    (subst Fits w.0 plain_fits, inl (sym w.1))

-- the characters of an interchange, where it has any, are fit; they are named by nine bytes or by none
pub characters_fit : (s : List ℕ) (v : Service) (n : ℕ) → characters_of s ≡ Fit v n → Fits v × ((n ≡ 0) ⊎ (n ≡ 9))
unfolding characters_of
characters_fit s v n q = by_una (begins_una s) (leb 9 (length s)) _ _ _ _ _ _ v n q

-- a byte that may serve lies in 0x21 to 0x7E
pub serves_range : (b : ℕ) → serves b ≡ true → (33 ≤ b) × (b ≤ 126)
unfolding serves
serves_range b e =
    let g = and_left (leb 33 b && leb b 126) (not (is_alphanumeric b)) e in
    (leb-true 33 b (and_left (leb 33 b) (leb b 126) g), leb-true b 126 (and_right (leb 33 b) (leb b 126) g))
