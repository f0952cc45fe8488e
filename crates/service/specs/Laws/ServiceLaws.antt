-- What the tests of the code say of the definitions of `Service`. Assumes nothing.
use Rattle.std.specs.Prelude.{ℕ, ◌≤◌, ◌≡◌, List, [], ◌∷◌, Bool, ◌&&◌, ◌||◌, T, eqb, leb}
use native.Mathlib.Omega.{arith}
use Rattle.std.proofs.Math.Path.{refl, sym, ap}
use Rattle.std.proofs.Common.{◌∙◌, subst}
use Rattle.std.proofs.Math.Bool.{true, false, not}
use borrow.Author.Tests.{eq-eqb, ne_eqb, leb-true, eqb-true, eqb-false}
use Rattle.service.specs.declared.Service.{Service}
use Rattle.service.specs.declared.Characters.{Characters}
use Rattle.service.specs.Service.{Fit, Unfit, plain_service, is_alphanumeric, serves, is_none, is_mark, among, distinct, present_by, fit, named_by, begins_una, characters_of}

-- ---- tests joined
pub and_left : (x y : Bool) → (x && y) ≡ true → x ≡ true
and_left true y e = refl
and_left false y e = e

pub and_right : (x y : Bool) → (x && y) ≡ true → y ≡ true
and_right true y e = e
and_right false y e = absurd (subst T (sym e) tt)

pub neither_left : (x y : Bool) → not (x || y) ≡ true → x ≡ false
neither_left true y e = absurd (subst T (sym e) tt)
neither_left false y e = refl

pub neither_right : (x y : Bool) → not (x || y) ≡ true → not y ≡ true
neither_right true y e = absurd (subst T (sym e) tt)
neither_right false y e = e

eqb_swap : (a b : ℕ) (t : Bool) → eqb a b ≡ t → eqb b a ≡ t
eqb_swap a b true e = eq-eqb b a (sym (eqb-true a b e))
eqb_swap a b false e = ne_eqb b a (λ (q : b ≡ a). eqb-false a b e (sym q))

-- ---- the six bytes
serves_no_space : (b : ℕ) → serves b ≡ true → eqb b 32 ≡ false
unfolding serves
serves_no_space b e =
    let h : 33 ≤ b = leb-true 33 b (and_left (leb 33 b) (leb b 126) (and_left (leb 33 b && leb b 126) (not (is_alphanumeric b)) e)) in
    ne_eqb b 32 (λ (q : b ≡ 32). omega arith)

mark_no_space_by : (b : ℕ) (t u : Bool) → eqb b 44 ≡ t → eqb b 46 ≡ u → (t || u) ≡ true → eqb b 32 ≡ false
mark_no_space_by b true u p q e = let h : b ≡ 44 = eqb-true b 44 p in ne_eqb b 32 (λ (w : b ≡ 32). omega arith)
mark_no_space_by b false true p q e = let h : b ≡ 46 = eqb-true b 46 q in ne_eqb b 32 (λ (w : b ≡ 32). omega arith)
mark_no_space_by b false false p q e = absurd (subst T (sym e) tt)

mark_no_space : (b : ℕ) → is_mark b ≡ true → eqb b 32 ≡ false
unfolding is_mark
mark_no_space b e = mark_no_space_by b (eqb b 44) (eqb b 46) refl refl e

present_by_lem : (c e m r t : ℕ) (n : Bool) → eqb r 32 ≡ n → serves c ≡ true → serves e ≡ true → serves t ≡ true → is_mark m ≡ true → distinct (present_by n c e m r t) ≡ distinct (c ∷ e ∷ m ∷ r ∷ t ∷ [])
unfolding distinct among
present_by_lem c e m r t true q sc se st sm =
    let w : r ≡ 32 = eqb-true r 32 q in
    rw w
    (simp (serves_no_space c sc, serves_no_space e se, mark_no_space m sm, eqb_swap t 32 false (serves_no_space t st)))
present_by_lem c e m r t false q sc se st sm = refl

module _ (c e m r p t : ℕ) where
  pub named_no_space : (p ≡ 32 → ⊥) → Unfit ≡ named_by c e m r p t
  unfolding named_by fit
  named_no_space n = simp (ne_eqb p 32 n)

  module _ (h : p ≡ 32) (k : Bool) (x : k ≡ is_mark m) where
    pub named_no_mark : k ≡ false → Unfit ≡ named_by c e m r p t
    unfolding named_by fit
    named_no_mark f = simp (eq-eqb p 32 h, sym x ∙ f)

    module _ (y : k ≡ true) (j : Bool) (q : j ≡ (serves c && (serves e && (serves t && (not (not (eqb r 32)) || serves r))))) where
      each_is : (serves c && (serves e && (serves t && (is_none r || serves r)))) ≡ j
      unfolding is_none
      each_is = ap (λ (u : Bool). serves c && (serves e && (serves t && (u || serves r)))) (twice (eqb r 32)) ∙ sym q
        where
          twice : (u : Bool) → u ≡ not (not u)
          twice true = refl
          twice false = refl

      pub named_unfit : j ≡ false → Unfit ≡ named_by c e m r p t
      unfolding named_by fit
      named_unfit f = simp (eq-eqb p 32 h, sym x ∙ y, each_is, f)

      module _ (z : j ≡ true) (d : Bool) (w : d ≡ distinct (c ∷ e ∷ m ∷ r ∷ t ∷ [])) where
        differ_is : distinct (present_by (is_none r) c e m r t) ≡ d
        unfolding is_none
        differ_is =
            let g : (serves c && (serves e && (serves t && (not (not (eqb r 32)) || serves r)))) ≡ true = sym q ∙ z in
            let g1 = and_right (serves c) (serves e && (serves t && (not (not (eqb r 32)) || serves r))) g in
            let g2 = and_right (serves e) (serves t && (not (not (eqb r 32)) || serves r)) g1 in
            present_by_lem c e m r t (eqb r 32) refl
            (and_left (serves c) (serves e && (serves t && (not (not (eqb r 32)) || serves r))) g)
            (and_left (serves e) (serves t && (not (not (eqb r 32)) || serves r)) g1)
            (and_left (serves t) (not (not (eqb r 32)) || serves r) g2)
            (sym x ∙ y)
            ∙ sym w

        pub named_same : d ≡ false → Unfit ≡ named_by c e m r p t
        unfolding named_by fit
        named_same f = simp (eq-eqb p 32 h, sym x ∙ y, each_is, z, differ_is, f)

        pub named_fit : d ≡ true → Fit (record { component = c; element = e; release = r; releases = not (eqb r 32); terminator = t }) 9 ≡ named_by c e m r p t
        unfolding named_by fit is_none
        named_fit f = simp (eq-eqb p 32 h, sym x ∙ y, each_is, z, differ_is, f)

-- characters that are the same, and their UNA
pub same_fit : (v w : Service) (n k : ℕ) → Fit v n ≡ Fit w k → (v ≡ w) × (n ≡ k)
same_fit v w n k q =
    let c : ◌≡◌ {A = Characters} (record { service = v; una = n }) (record { service = w; una = k }) = cc in
    (ap (λ (x : Characters). x.service) c, ap (λ (x : Characters). x.una) c)

-- ---- UNA
module _ (s : List ℕ) (k : Bool) (c : k ≡ begins_una s) where
  pub characters_plain : k ≡ false → Fit plain_service 0 ≡ characters_of s
  unfolding characters_of
  characters_plain e = simp (sym c ∙ e)
