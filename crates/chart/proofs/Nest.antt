-- The table's nesting and order: it is the tree, and placing goes from rows to the rows inside them and ends. Assumes nothing.
use mathlib.Core.Path.{◌≡◌, refl, sym, ap, subst, ◌∙◌}
use mathlib.Core.Bool.{Bool, true, false, not, ◌&&◌ as and}
use mathlib.Core.List.{[], ◌∷◌}
use Prim.Native.Nat.{ℕ, zero, suc, ◌+◌, ◌<◌, ◌≤◌}
use native.Mathlib.Omega.{arith}
use lib.ListN.{length}
use lib.Dec.{T, ltb, leb, eqb, ltb→lt, leb→le, eqb→eq}
use borrow.Author.Tests.{eq-eqb, ne_eqb, eqb-true, eqb-false}
use Rattle.service.specs.Tests.{if, alike}
use Rattle.chart.specs.Chart.{Rows, none, row}
use Rattle.chart.proofs.Theory.{and_left, and_right, or_cases, nots, T_true, true_T}
use Rattle.chart.specs.Forms.Machine.{owed}
use Rattle.table.specs.Entries.{parent_in, required}
use Rattle.chart.specs.Table.{Table, chart_of}
use Rattle.chart.specs.Forms.Sound.{Sound, alone, all_to, nests, childless, heads}
use Rattle.chart.specs.Forms.Columns.{tag_of, parent_of, status_of, repeats_of, end_of, req_of, most_of, first_of, row_at, Is, is_none, is_row, RowIs}

and_true : (b : Bool) → and b true ≡ b
and_true true = refl
and_true false = refl

pub and_false : (b : Bool) → and b false ≡ false
and_false true = refl
and_false false = refl

pick_false : {b : Bool} (x y : ℕ) → b ≡ false → if b x y ≡ y
pick_false {b} x y e = rw e

pub owed_zero : (b : Bool) (n : ℕ) → n ≡ 0 → owed b n ≡ b
unfolding owed
owed_zero b n e = ap (λ (x : Bool). and b x) (eq-eqb n 0 e) ∙ and_true b

pub owed_some : (b : Bool) (n : ℕ) → (n ≡ 0 → ⊥) → owed b n ≡ false
unfolding owed
owed_some b n e = ap (λ (x : Bool). and b x) (ne_eqb n 0 e) ∙ and_false b

pub alike_eq : (a b : Bool) → T (alike a b) → a ≡ b
alike_eq true true h = refl
alike_eq true false h = absurd h
alike_eq false true h = absurd h
alike_eq false false h = refl

both : (a b : Bool) → T (and a b) → T a × T b
both a b h = (and_left a b h, and_right a b h)

is_of_lem : (t : Table) (lo hi : ℕ) (rows : Rows) → T (nests t lo hi rows) → Is t lo hi rows
unfolding nests
is_of_lem t lo hi none h = subst (λ (x : ℕ). Is t lo x none) (eqb→eq lo hi h) is_none
is_of_lem t lo hi (row num tag req most kids rest) h =
    let a = both (ltb lo (length t)) _ h in
    let b = both (leb lo (first_of t lo)) _ a.1 in
    let c = both (ltb (first_of t lo) (end_of t lo)) _ b.1 in
    let d = both (leb (end_of t lo) hi) _ c.1 in
    let n = both (eqb num (first_of t lo)) _ d.1 in
    let e = both (eqb tag (tag_of t lo)) _ n.1 in
    let f = both (alike req (req_of t lo)) _ e.1 in
    let g = both (eqb most (most_of t lo)) _ f.1 in
    let k = both (nests t (first_of t lo + 1) (end_of t lo) kids) _ g.1 in
    is_row (ltb→lt lo (length t) a.0) (leb→le lo (first_of t lo) b.0) (ltb→lt (first_of t lo) (end_of t lo) c.0) (leb→le (end_of t lo) hi d.0)
    (eqb→eq num (first_of t lo) n.0) (eqb→eq tag (tag_of t lo) e.0) (alike_eq req (req_of t lo) f.0) (eqb→eq most (most_of t lo) g.0)
    (is_of_lem t (first_of t lo + 1) (end_of t lo) kids k.0) (is_of_lem t (end_of t lo) hi rest k.1)

pub chart_is : (t : Table) → Sound t → Is t 0 (length t) (chart_of t)
chart_is t s = is_of_lem t 0 (length t) (chart_of t) s.nested

-- THE TABLE: a row of rows that are not done
pub record Head (t : Table) (r hi : ℕ) (rows : Rows) : Type 0 where
  pub it : RowIs t r
  pub rest : Rows
  pub is : rows ≡ row_at t r it.kids rest
  pub within : end_of t r ≤ hi
  pub beside : Is t (end_of t r) hi rest

pub head : {t : Table} {r hi : ℕ} {rows : Rows} → Is t r hi rows → r < hi → Head t r hi rows
head is_none lt = absurd (omega arith)
head (is_row {kids = kids} {rest = rest} s u d w z p q m k b) lt =
    record { it = record { small = s; up = u; down = d; kids = kids; below = k }; rest = rest; is = rw (z, p, q, m); within = w; beside = b }

pub ended : {t : Table} {r hi : ℕ} {rows : Rows} → Is t r hi rows → hi ≤ r → rows ≡ none
ended is_none le = refl
ended (is_row s u d w z p q m k b) le = absurd (omega arith)

pub first_fits : (t : Table) (r f e b : ℕ) → RowIs t r → f ≡ first_of t r → e ≡ end_of t r → e < b → f + 1 < b
first_fits t r f e b x ef ee h = omega (arith, x.up, x.down)

-- A TEST OF EVERY ROW
pub at_each : (n : ℕ) (P : ℕ → Bool) → T (all_to n P) → (r : ℕ) → r < n → T (P r)
unfolding all_to
at_each zero P h r lt = absurd (omega arith)
at_each (suc n) P h r lt = go (λ lt2. at_each n P (and_right (P n) _ h) r lt2) (eqb r n) refl
  where
    go : (r < n → T (P r)) → (b : Bool) → eqb r n ≡ b → T (P r)
    go k true e = subst (λ (x : ℕ). T (P x)) (sym (eqb-true r n e)) (and_left (P n) _ h)
    go k false e = k (omega (arith, eqb-false r n e))

-- no row's tag is 0, nor 2
pub tag_some : (t : Table) (r : ℕ) → tag_of t r ≡ 0 → ⊥
tag_some t r e = omega arith

pub tag_runs : (t : Table) (r : ℕ) → tag_of t r ≡ 2 → ⊥
tag_runs t r e = omega arith

-- THE MESSAGE'S OWN ROW
pub record Own (t : Table) : Type 0 where
  pub some : 0 < length t
  pub end : end_of t 0 ≡ length t
  pub must : req_of t 0 ≡ true
  pub once : most_of t 0 ≡ 1

pub own : (t : Table) → Sound t → Own t
unfolding alone
own t s =
    let a = both (ltb 0 (length t)) _ s.whole in
    let b = both (eqb (end_of t 0) (length t)) _ a.1 in
    let c = both (req_of t 0) (eqb (most_of t 0) 1) b.1 in
    record { some = ltb→lt 0 (length t) a.0; end = eqb→eq (end_of t 0) (length t) b.0; must = true_T (req_of t 0) c.0; once = eqb→eq (most_of t 0) 1 c.1 }

-- A GROUP'S FIRST ROW is a segment of the group's own tag, required, once: so an occurrence of the group is its first segment once, then its other rows
pub record GroupFirst (t : Table) (r : ℕ) : Type 0 where
  pub inside : parent_of t (suc r) ≡ r
  pub segment : (q : ℕ) → q < length t → parent_of t q ≡ suc r → ⊥
  pub own_tag : tag_of t (suc r) ≡ tag_of t r
  pub must : T (required (status_of t (suc r)))
  pub once : repeats_of t (suc r) ≡ 1

childless_at : (p : ℕ) (ls : Table) → T (childless p ls) → (q : ℕ) → q < length ls → parent_of ls q ≡ p → ⊥
unfolding childless parent_of
childless_at p [] h q lt e = omega arith
childless_at p (l ∷ ls) h zero lt e = nots (eqb (parent_in l) p) (and_left (not (eqb (parent_in l) p)) _ h) (T_true (eq-eqb (parent_in l) p e))
childless_at p (l ∷ ls) h (suc q) lt e = childless_at p ls (and_right (not (eqb (parent_in l) p)) _ h) q (omega arith) e

pub group_first : (t : Table) → Sound t → (r q : ℕ) → r < length t → q < length t → parent_of t q ≡ r → GroupFirst t r
unfolding heads
group_first t s r q lr lq e =
    let h = or_cases (childless r t) _ (at_each (length t) (heads t) s.headed r lr) (λ x. childless_at r t x q lq e) in
    let a = both (eqb (parent_of t (suc r)) r) _ h in
    let b = both (childless (suc r) t) _ a.1 in
    let c = both (eqb (tag_of t (suc r)) (tag_of t r)) _ b.1 in
    let d = both (required (status_of t (suc r))) (eqb (repeats_of t (suc r)) 1) c.1 in
    record {
      inside = eqb→eq _ _ a.0;
      segment = childless_at (suc r) t b.0;
      own_tag = eqb→eq _ _ c.0;
      must = d.0;
      once = eqb→eq _ _ d.1;
    }

-- ---- the first row of an occurrence
module _ (t : Table) (r : ℕ) where
  pub group_by : (e : ℕ) → e ≡ end_of t r → ltb (r + 1) e ≡ ltb (r + 1) (end_of t r)
  group_by e q = ap (ltb (r + 1)) q

  pub first_segment : ltb (r + 1) (end_of t r) ≡ false → r ≡ first_of t r
  unfolding first_of
  first_segment e = sym (pick_false _ _ e)

  pub first_other : (b : Bool) → b ≡ ltb (r + 1) (end_of t r) → b ≡ false → r ≡ first_of t r
  first_other b e h = first_segment (sym e ∙ h)
