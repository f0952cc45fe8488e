-- On the PAYMUL chart every order has its own MOA exactly once: rows 23 are as many as rows 17. Assumes nothing.
use Rattle.std.specs.Prelude.{ℕ, suc, ◌+◌, ◌≤◌, ◌≡◌, refl, List, [], ◌∷◌, ◌++◌, Bool, true, false, not, ◌&&◌ as and, T, eqb, leb}
use Rattle.std.proofs.Common.{arith, sym, ap, ◌∙◌, subst, leb-true}
use Rattle.service.specs.Tests.{if}
use Rattle.chart.specs.Chart.{Rows, none, row, Placement, no_rows, row_then, Occurrences, no_more, one_then}
use Rattle.table.specs.Entries.{lines_from, within, text}
use Rattle.chart.specs.Table.{chart_of, row_over, inside}
use Rattle.paymul.specs.Table.{PAYMUL, table}
use Rattle.chart.proofs.Theory.{and_left, and_right}
use Rattle.report.specs.Laws.CountLaws.{times}

-- no row of the number
unfoldable lacks_row : ℕ → Rows → Bool
lacks_row a none = true
lacks_row a (row num tag req most others rest) = and (not (eqb num a)) (and (lacks_row a others) (lacks_row a rest))

-- a row of the number side by side with others: required, once, and nowhere else
unfoldable one_row : ℕ → Rows → Bool
one_row a none = false
one_row a (row num tag req most others rest) =
    if (eqb num a) (and req (and (leb most 1) (and (lacks_row a others) (lacks_row a rest))))
    (and (lacks_row a others) (one_row a rest))

-- wherever a row b opens a group the row a stands once in it, and neither stands elsewhere
unfoldable paired : ℕ → ℕ → Rows → Bool
paired a b none = true
paired a b (row num tag req most others rest) =
    and (not (eqb num a)) (and (if (eqb num b) (and (lacks_row b others) (one_row a others)) (paired a b others)) (paired a b rest))

-- THE COMPUTED TEST
chart_paired : T (paired 23 17 (chart_of PAYMUL))
unfolding paired one_row lacks_row PAYMUL table lines_from within text chart_of row_over inside
chart_paired = tt

times_none : (a : ℕ) → times a [] ≡ 0
unfolding times
times_none a = refl

times_append : (a : ℕ) (x y : List ℕ) → times a (x ++ y) ≡ times a x + times a y
unfolding times
times_append a [] y = omega arith
times_append a (n ∷ x) y = go (eqb n a) (times_append a x y)
  where
    go : (b : Bool) → times a (x ++ y) ≡ times a x + times a y → if b (suc (times a (x ++ y))) (times a (x ++ y)) ≡ if b (suc (times a x)) (times a x) + times a y
    go true e = omega arith
    go false e = e

times_other : (a n : ℕ) (l : List ℕ) → T (not (eqb n a)) → times a (n ∷ l) ≡ times a l
unfolding times
times_other a n l h = go (eqb n a) h
  where
    go : (b : Bool) → T (not b) → if b (suc (times a l)) (times a l) ≡ times a l
    go true h = absurd h
    go false h = refl

times_here : (a n : ℕ) (l : List ℕ) → eqb n a ≡ true → times a (n ∷ l) ≡ suc (times a l)
unfolding times
times_here a n l e = rw e

mutual
  unfolding lacks_row

  lacks_rows : (a : ℕ) {rows : Rows} {ts ns : List ℕ} → T (lacks_row a rows) → Placement rows ts ns → times a ns ≡ 0
  lacks_rows a h no_rows = times_none a
  lacks_rows a h (row_then {num = num} {others = others} {rest = rest} {ns = ns} {ms = ms} le o t r p q) =
      let g = and_right (not (eqb num a)) _ h in
      let x = lacks_occurrences a (and_left (not (eqb num a)) _ h) (and_left (lacks_row a others) _ g) t in
      let y = lacks_rows a (and_right (lacks_row a others) _ g) r in
      ap (times a) q ∙ times_append a ns ms ∙ omega arith

  lacks_occurrences : (a : ℕ) {num tag : ℕ} {others : Rows} {n : ℕ} {ts ns : List ℕ} → T (not (eqb num a)) → T (lacks_row a others) → Occurrences num tag others n ts ns → times a ns ≡ 0
  lacks_occurrences a g h no_more = times_none a
  lacks_occurrences a g h (one_then {num = num} {ns = ns} {ms = ms} {nos = nos} f t p q) =
      let x = lacks_rows a h f in
      let y = lacks_occurrences a g h t in
      times_other a num nos g ∙ ap (times a) q ∙ times_append a ns ms ∙ omega arith

-- one occurrence of a row that stands nowhere below itself
single : (a : ℕ) {num tag : ℕ} {others : Rows} {n : ℕ} {ts ns : List ℕ} → n ≡ 1 → eqb num a ≡ true → T (lacks_row a others) → Occurrences num tag others n ts ns → times a ns ≡ 1
single a e g h no_more = absurd (omega arith)
single a {num = num} e g h (one_then {ns = ns} {nos = nos} f no_more p q) =
    let x = lacks_rows a h f in let y = times_none a in times_here a num nos g ∙ ap suc (ap (times a) q ∙ times_append a ns [] ∙ omega arith)
single a e g h (one_then f (one_then f' t p' q') p q) = absurd (omega arith)

required : (b : Bool) → T b → (n : ℕ) → (T b → 1 ≤ n) → 1 ≤ n
required b h n f = f h

one_by : (a num most n : ℕ) (req : Bool) (others rest : Rows) (x y : ℕ) (b : Bool) → eqb num a ≡ b
    → T (if b (and req (and (leb most 1) (and (lacks_row a others) (lacks_row a rest)))) (and (lacks_row a others) (one_row a rest)))
    → n ≤ most → (T req → 1 ≤ n) → (n ≡ 1 → eqb num a ≡ true → T (lacks_row a others) → x ≡ 1) → (T (not (eqb num a)) → T (lacks_row a others) → x ≡ 0) → (T (lacks_row a rest) → y ≡ 0) → (T (one_row a rest) → y ≡ 1) → x + y ≡ 1
one_by a num most n req others rest x y true e h le o only lacks nil one =
    let g = and_right req _ h in
    let k = and_right (leb most 1) _ g in
    let m = leb-true most 1 (true_of (leb most 1) (and_left (leb most 1) _ g)) in
    let i = o (and_left req _ h) in
    let c : n ≡ 1 = omega arith in
    let p = only c e (and_left (lacks_row a others) _ k) in
    let q = nil (and_right (lacks_row a others) _ k) in
    omega arith
  where
    true_of : (b : Bool) → T b → b ≡ true
    true_of true h = refl
    true_of false h = absurd h
one_by a num most n req others rest x y false e h le o only lacks nil one =
    let p = lacks (subst (λ (b : Bool). T (not b)) (sym e) tt) (and_left (lacks_row a others) _ h) in
    let q = one (and_right (lacks_row a others) _ h) in
    omega arith

one_times : (a : ℕ) {rows : Rows} {ts ns : List ℕ} → T (one_row a rows) → Placement rows ts ns → times a ns ≡ 1
unfolding one_row
one_times a h no_rows = absurd h
one_times a h (row_then {num = num} {req = req} {most = most} {others = others} {rest = rest} {n = n} {ns = ns} {ms = ms} le o t r p q) =
    ap (times a) q ∙ times_append a ns ms
    ∙ one_by a num most n req others rest (times a ns) (times a ms) (eqb num a) refl h le o (λ c e l. single a c e l t) (λ g l. lacks_occurrences a g l t) (λ l. lacks_rows a l r) (λ l. one_times a l r)

mutual
  unfolding paired

  paired_rows : (a b : ℕ) {rows : Rows} {ts ns : List ℕ} → T (paired a b rows) → Placement rows ts ns → times a ns ≡ times b ns
  paired_rows a b h no_rows = times_none a ∙ sym (times_none b)
  paired_rows a b h (row_then {num = num} {others = others} {rest = rest} {ns = ns} {ms = ms} le o t r p q) =
      let g = and_right (not (eqb num a)) _ h in
      let x = paired_occurrences a b (and_left (not (eqb num a)) _ h) (eqb num b) refl (and_left (if (eqb num b) (and (lacks_row b others) (one_row a others)) (paired a b others)) _ g) t in
      let y = paired_rows a b (and_right (if (eqb num b) (and (lacks_row b others) (one_row a others)) (paired a b others)) _ g) r in
      ap (times a) q ∙ times_append a ns ms ∙ sym (ap (times b) q ∙ times_append b ns ms ∙ omega arith)

  paired_occurrences : (a b : ℕ) {num tag : ℕ} {others : Rows} {n : ℕ} {ts ns : List ℕ} → T (not (eqb num a)) → (c : Bool) → eqb num b ≡ c → T (if c (and (lacks_row b others) (one_row a others)) (paired a b others)) → Occurrences num tag others n ts ns → times a ns ≡ times b ns
  paired_occurrences a b g c e h no_more = times_none a ∙ sym (times_none b)
  paired_occurrences a b g true e h (one_then {num = num} {others = others} {ns = ns} {ms = ms} {nos = nos} f t p q) =
      let x = one_times a (and_right (lacks_row b others) _ h) f in
      let y = lacks_rows b (and_left (lacks_row b others) _ h) f in
      let z = paired_occurrences a b g true e h t in
      times_other a num nos g ∙ ap (times a) q ∙ times_append a ns ms ∙ sym (times_here b num nos e ∙ ap suc (ap (times b) q ∙ times_append b ns ms) ∙ omega arith)
  paired_occurrences a b g false e h (one_then {num = num} {ns = ns} {ms = ms} {nos = nos} f t p q) =
      let x = paired_rows a b h f in
      let z = paired_occurrences a b g false e h t in
      times_other a num nos g ∙ ap (times a) q ∙ times_append a ns ms ∙ sym (times_other b num nos (subst (λ (c : Bool). T (not c)) (sym e) tt) ∙ ap (times b) q ∙ times_append b ns ms ∙ omega arith)

-- as many own MOAs as orders
pub own_moas : (ts ns : List ℕ) → Placement (chart_of PAYMUL) ts ns → times 23 ns ≡ times 17 ns
own_moas ts ns p = paired_rows 23 17 chart_paired p
