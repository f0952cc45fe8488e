-- The nine bytes of UNA, where they name the service characters. Assumes nothing.
use Rattle.std.specs.Prelude.{ℕ, ◌≤◌, ◌<◌, ◌≡◌, refl, List, [], ◌∷◌, ◌++◌, Bool, true, false, not, ◌&&◌, ◌||◌, get_or, drop, T, eqb, leb}
use native.Mathlib.Omega.{arith}
use Rattle.std.proofs.Common.{sym, ◌∙◌, ap, subst, ⊎_elim}
use Rattle.std.proofs.Math.ListN.{length, length-append, get_or-append}
use borrow.Author.Tests.{le-leb, leb-true, eqb-true, eqb-false}
use Rattle.service.specs.declared.Service.{Service}
use Rattle.service.specs.Service.{Fit, Unfit, plain_service, within, is_alphanumeric, serves, is_none, is_mark, among, distinct, present_by, fit, service_of, named_by, begins_una, characters_of}
use Rattle.service.specs.Laws.ServiceLaws.{same_fit, and_left, and_right, neither_left, neither_right, characters_plain}
use Rattle.service.specs.Laws.FitLaws.{characters_fit}
use Rattle.service.specs.Tests.{if}

-- the bytes c, e, m, r, p, t after the letters name v
pub record Names (c e m r p t : ℕ) (v : Service) : Type 0 where
  pub component : c ≡ v.component
  pub element : e ≡ v.element
  pub release : r ≡ v.release
  pub terminator : t ≡ v.terminator
  pub space : p ≡ 32
  pub none : v.releases ≡ false → r ≡ 32
  pub apart : v.releases ≡ true → m ≡ v.release → ⊥
  pub other : m ≡ v.terminator → ⊥

-- the mark is neither the terminator nor the release, where there is one
mark_by : (c e m r t : ℕ) (n : Bool) → distinct (present_by n c e m r t) ≡ true → (eqb m t ≡ false) × (not n ≡ true → eqb m r ≡ false)
unfolding distinct among
mark_by c e m r t true d =
    let d1 = and_right (not (among c (e ∷ m ∷ t ∷ []))) _ d in
    let d2 = and_right (not (among e (m ∷ t ∷ []))) _ d1 in
    let d3 = and_left (not (among m (t ∷ []))) _ d2 in
    (neither_left (eqb m t) false d3, λ q. absurd (subst T (sym q) tt))
mark_by c e m r t false d =
    let d1 = and_right (not (among c (e ∷ m ∷ r ∷ t ∷ []))) _ d in
    let d2 = and_right (not (among e (m ∷ r ∷ t ∷ []))) _ d1 in
    let d3 = and_left (not (among m (r ∷ t ∷ []))) _ d2 in
    (neither_left (eqb m t) false (neither_right (eqb m r) (eqb m t || false) d3), λ q. neither_left (eqb m r) (eqb m t || false) d3)

none_by : (r : ℕ) (n : Bool) → eqb r 32 ≡ n → not n ≡ false → r ≡ 32
none_by r true q e = eqb-true r 32 q
none_by r false q e = absurd (subst T e tt)

pub names_fit : (c e m r p t : ℕ) → fit c e m r p t ≡ true → Names c e m r p t (service_of c e r t)
unfolding fit is_none
names_fit c e m r p t h =
    let h1 = and_right (eqb p 32) _ h in
    let h2 = and_right (is_mark m && (serves c && (serves e && (serves t && (is_none r || serves r))))) (distinct (present_by (is_none r) c e m r t)) h1 in
    let d = mark_by c e m r t (is_none r) h2 in
    record {
      component = refl;
      element = refl;
      release = refl;
      terminator = refl;
      space = eqb-true p 32 (and_left (eqb p 32) _ h);
      none = none_by r (eqb r 32) refl;
      apart = λ q. eqb-false m r (d.1 q);
      other = eqb-false m t d.0;
    }

-- the nine bytes of s, the first three of which are U N A, name v
pub record Named (s : List ℕ) (v : Service) : Type 0 where
  pub first : get_or s 0 0 ≡ 85
  pub second : get_or s 1 0 ≡ 78
  pub third : get_or s 2 0 ≡ 65
  pub long : 9 ≤ length s
  pub names : Names (get_or s 3 0) (get_or s 4 0) (get_or s 5 0) (get_or s 6 0) (get_or s 7 0) (get_or s 8 0) v

names_by : (c e m r p t : ℕ) (k : Bool) → fit c e m r p t ≡ k → (v : Service) → if k (Fit (service_of c e r t) 9) Unfit ≡ Fit v 9 → Names c e m r p t v
names_by c e m r p t true h v q = subst (Names c e m r p t) (same_fit (service_of c e r t) v 9 9 q).0 (names_fit c e m r p t h)
names_by c e m r p t false h v q = absurd (let z : ◌≡◌ {A = ℕ} 0 1 = cc in omega arith)

named_by_lem : (s : List ℕ) (v : Service) (k j : Bool) → begins_una s ≡ k → leb 9 (length s) ≡ j
    → if k (if j (named_by (get_or s 3 0) (get_or s 4 0) (get_or s 5 0) (get_or s 6 0) (get_or s 7 0) (get_or s 8 0)) Unfit) (Fit plain_service 0) ≡ Fit v 9 → Named s v
unfolding named_by begins_una
named_by_lem s v true true b l q =
    let x = and_right (eqb (get_or s 0 0) 85) _ b in
    record {
      first = eqb-true (get_or s 0 0) 85 (and_left (eqb (get_or s 0 0) 85) _ b);
      second = eqb-true (get_or s 1 0) 78 (and_left (eqb (get_or s 1 0) 78) _ x);
      third = eqb-true (get_or s 2 0) 65 (and_right (eqb (get_or s 1 0) 78) _ x);
      long = leb-true 9 (length s) l;
      names = names_by (get_or s 3 0) (get_or s 4 0) (get_or s 5 0) (get_or s 6 0) (get_or s 7 0) (get_or s 8 0) (fit (get_or s 3 0) (get_or s 4 0) (get_or s 5 0) (get_or s 6 0) (get_or s 7 0) (get_or s 8 0)) refl v q;
    }
named_by_lem s v true false b l q = absurd (let z : ◌≡◌ {A = ℕ} 0 1 = cc in omega arith)
named_by_lem s v false j b l q = let x = (same_fit plain_service v 0 9 q).1 in absurd (omega arith)

pub named : (s : List ℕ) (v : Service) → characters_of s ≡ Fit v 9 → Named s v
unfolding characters_of
named s v q = named_by_lem s v (begins_una s) (leb 9 (length s)) refl refl q

-- nine bytes of a text, one by one
pub nine : (s : List ℕ) → 9 ≤ length s
    → s ≡ get_or s 0 0 ∷ get_or s 1 0 ∷ get_or s 2 0 ∷ get_or s 3 0 ∷ get_or s 4 0 ∷ get_or s 5 0 ∷ get_or s 6 0 ∷ get_or s 7 0 ∷ get_or s 8 0 ∷ drop 9 s
nine [] h = absurd (omega arith)
nine (a ∷ []) h = absurd (omega arith)
nine (a ∷ b ∷ []) h = absurd (omega arith)
nine (a ∷ b ∷ c ∷ []) h = absurd (omega arith)
nine (a ∷ b ∷ c ∷ d ∷ []) h = absurd (omega arith)
nine (a ∷ b ∷ c ∷ d ∷ e ∷ []) h = absurd (omega arith)
nine (a ∷ b ∷ c ∷ d ∷ e ∷ f ∷ []) h = absurd (omega arith)
nine (a ∷ b ∷ c ∷ d ∷ e ∷ f ∷ g ∷ []) h = absurd (omega arith)
nine (a ∷ b ∷ c ∷ d ∷ e ∷ f ∷ g ∷ i ∷ []) h = absurd (omega arith)
nine (a ∷ b ∷ c ∷ d ∷ e ∷ f ∷ g ∷ i ∷ j ∷ s) h = refl

-- a byte that may serve is no letter or digit
serves_by : (x y : Bool) → (x && not y) ≡ true → y ≡ true → ⊥
serves_by true true e q = subst T (sym e) tt
serves_by true false e q = subst T (sym q) tt
serves_by false y e q = subst T (sym e) tt

pub serves_no_letter : (b x : ℕ) → is_alphanumeric b ≡ true → serves x ≡ true → b ≡ x → ⊥
unfolding serves
serves_no_letter b x a e q = serves_by (within 33 126 x) (is_alphanumeric x) e (ap is_alphanumeric (sym q) ∙ a)

-- ---- the characters are said by the first bytes
unnamed_by : (c e m r p t : ℕ) (k : Bool) (v : Service) → if k (Fit (service_of c e r t) 9) Unfit ≡ Fit v 0 → ⊥
unnamed_by c e m r p t true v q = let x = (same_fit (service_of c e r t) v 9 0 q).1 in omega arith
unnamed_by c e m r p t false v q = let z : ◌≡◌ {A = ℕ} 0 1 = cc in omega arith

without_by : (k j : Bool) (c e m r p t : ℕ) (v : Service) → if k (if j (named_by c e m r p t) Unfit) (Fit plain_service 0) ≡ Fit v 0 → k ≡ false
unfolding named_by
without_by true true c e m r p t v q = absurd (unnamed_by c e m r p t (fit c e m r p t) v q)
without_by true false c e m r p t v q = absurd (let z : ◌≡◌ {A = ℕ} 0 1 = cc in omega arith)
without_by false j c e m r p t v q = refl

without : (s : List ℕ) (v : Service) → characters_of s ≡ Fit v 0 → begins_una s ≡ false
unfolding characters_of
without s v q = without_by (begins_una s) (leb 9 (length s)) _ _ _ _ _ _ v q

module _ (x y : List ℕ) where
  at : (k : ℕ) → k < length x → get_or (x ++ y) k 0 ≡ get_or x k 0
  at k h = get_or-append x y 0 k h

  una_more : 3 ≤ length x → begins_una (x ++ y) ≡ begins_una x
  unfolding begins_una
  una_more h =
      let h0 : 0 < length x = omega arith in
      let h1 : 1 < length x = omega arith in
      let h2 : 2 < length x = omega arith in
      simp (at 0 h0, at 1 h1, at 2 h2)

  characters_more : 9 ≤ length x → characters_of (x ++ y) ≡ characters_of x
  unfolding characters_of
  characters_more h =
      let g : 3 ≤ length x = omega arith in
      let h3 : 3 < length x = omega arith in
      let h4 : 4 < length x = omega arith in
      let h5 : 5 < length x = omega arith in
      let h6 : 6 < length x = omega arith in
      let h7 : 7 < length x = omega arith in
      let h8 : 8 < length x = omega arith in
      let l = length-append x y in
      let i : 9 ≤ length (x ++ y) = omega arith in
      simp (una_more g, at 3 h3, at 4 h4, at 5 h5, at 6 h6, at 7 h7, at 8 h8, le-leb 9 (length (x ++ y)) i, le-leb 9 (length x) h)

-- two texts that begin with the same bytes, UNA and its six bytes among them if there are any, name the same characters
pub characters_alike : (x y y' : List ℕ) (v : Service) (n : ℕ) → characters_of (x ++ y) ≡ Fit v n → 3 ≤ length x → n ≤ length x → characters_of (x ++ y') ≡ Fit v n
characters_alike x y y' v n q h g =
    ⊎_elim
    (λ (e : n ≡ 0).
    let b : begins_una (x ++ y) ≡ false = without (x ++ y) v (q ∙ ap (Fit v) e) in
    let b' : begins_una (x ++ y') ≡ false = una_more x y' h ∙ sym (una_more x y h) ∙ b in
    sym (characters_plain (x ++ y') (begins_una (x ++ y')) refl b') ∙ characters_plain (x ++ y) (begins_una (x ++ y)) refl b ∙ q)
    (λ (e : n ≡ 9). let i : 9 ≤ length x = omega arith in characters_more x y' i ∙ sym (characters_more x y i) ∙ q)
    (characters_fit (x ++ y) v n q).1
