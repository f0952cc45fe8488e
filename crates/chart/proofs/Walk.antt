-- What the code's steps are to the machine: one occurrence of a row, the loop over rows side by side, and the message's own row. Assumes nothing.
use mathlib.Core.Path.{◌≡◌, refl, sym, ap, subst, ◌∙◌}
use mathlib.Core.Bool.{Bool, true, false}
use mathlib.Core.List.{List, [], ◌∷◌}
use Prim.Native.Nat.{ℕ, zero, suc, ◌+◌, ◌-◌, ◌*◌, ◌^◌, ◌<◌, ◌≤◌}
use native.Mathlib.Decide.{dec_lt}
use native.Mathlib.Omega.{arith}
use native.Mathlib.Numerals.{add-one}
use lib.Dec.{ltb, eqb}
use Rattle.std.specs.Prelude.{Result, Ok, Err}
use lib.ListN.{length, get_or, drop, drop_of_length-le}
use lib.Seq.{drop-cons}
use borrow.Author.Tests.{ltb-true, ltb-false, lt-ltb, le-ltb, eq-eqb, ne_eqb, eqb-true}
use Rattle.service.specs.declared.Service.{Service}
use Rattle.service.specs.Tests.{if}
use Rattle.chart.specs.declared.Cursor.{Cursor}
use Rattle.chart.specs.declared.Turn.{Turn}
use Rattle.chart.specs.declared.Turn.TheVariants.{Takes, Owes, Passes}
use Rattle.chart.specs.Chart.{Rows, none, row}
use Rattle.chart.specs.Forms.Machine.{Frames, frame, placed, stuck, takes, owed, step_rows, step, free_rows, free, run}
use Rattle.chart.specs.Table.{Table}
use Rattle.chart.specs.Forms.Sound.{Sound}
use Rattle.chart.specs.Forms.Columns.{tag_of, end_of, req_of, most_of, first_of, row_at, Is, RowIs, Some}
use Rattle.chart.specs.Tags.{tags_of}
use Rattle.chart.specs.Forms.Cursor.{Stepped, Stands}
use Rattle.chart.specs.Laws.CursorLaws.{stands_next, stands_lt, stands_ge, stands_tag, stands_none, stands_at}
use Rattle.chart.specs.Forms.Placing.{takes_at, Taken, Untaken, TurnIs, RowsDone, OncePass, OnceStop, OnceDone}
use Rattle.chart.proofs.Theory.{step_place, step_owe, step_pass, run_at, run_fail, run_short, free_owe, free_pass, and_left, and_right, T_true, true_T}
use Rattle.chart.proofs.Nest.{and_false, owed_zero, owed_some, Head, head, ended, chart_is, Own, own, tag_some, first_segment}

-- ---- whether a row takes a segment
module _ (a tag n most : ℕ) where
  pub takes_here : a ≡ tag → ltb n most ≡ takes a n tag most
  unfolding takes
  takes_here e = rw (eq-eqb a tag e)

  pub takes_other : (a ≡ tag → ⊥) → false ≡ takes a n tag most
  unfolding takes
  takes_other e = rw (ne_eqb a tag e)

  takes_tag : takes a n tag most ≡ true → a ≡ tag
  unfolding takes
  takes_tag e = eqb-true a tag (true_T _ (and_left (eqb a tag) _ (T_true e)))

  takes_most : takes a n tag most ≡ true → n < most
  unfolding takes
  takes_most e = ltb-true n most (true_T _ (and_right (eqb a tag) _ (T_true e)))

-- what the row makes of it
module _ (t : Table) (r n : ℕ) (c : Cursor) (tag most : ℕ) (et : tag ≡ tag_of t r) (em : most ≡ most_of t r) (b : Bool) (eb : b ≡ takes c.tag n tag most) where
  of_row : takes c.tag n (tag_of t r) (most_of t r) ≡ b
  of_row = let e : takes c.tag n tag most ≡ b = sym eb in rw (et, em) at e

  pub turn_takes : b ≡ true → most < 2 ^ 64 → Taken t r n c
  turn_takes tk room =
      let e = of_row ∙ tk in
      let lt = takes_most c.tag (tag_of t r) n (most_of t r) e in
      record { tag = takes_tag c.tag (tag_of t r) n (most_of t r) e; few = lt; fits = omega (arith, lt, room, em) }

  pub turn_not : b ≡ false → (o z : Bool) → o ≡ owed (req_of t r) n → o ≡ z → Untaken t r n c z
  turn_not tk o z eo ez = record { not = of_row ∙ tk; owes = sym eo ∙ ez }

-- .. at a place of the tags
module _ (ts : List ℕ) (i n tag most : ℕ) where
  at_here : i < length ts → takes_at ts i n tag most ≡ takes (get_or ts i 0) n tag most
  unfolding takes_at
  at_here lt = rw (lt-ltb i (length ts) lt)

  at_past : length ts ≤ i → takes_at ts i n tag most ≡ false
  unfolding takes_at
  at_past le = rw (le-ltb i (length ts) le)

  at_most : most ≤ n → takes_at ts i n tag most ≡ false
  unfolding takes_at takes
  at_most le = rw (le-ltb n most le, and_false (eqb (get_or ts i 0) tag), and_false (ltb i (length ts)))

  at_lt : takes_at ts i n tag most ≡ true → i < length ts
  unfolding takes_at
  at_lt e = ltb-true i (length ts) (true_T _ (and_left (ltb i (length ts)) _ (T_true e)))

-- .. and at a cursor: past the last segment its tag is that of no row
takes_at_lem : (t : Table) (v : Service) (m : List ℕ) (i : ℕ) (c : Cursor) → Stands v m i c → (n r tag most : ℕ) → tag ≡ tag_of t r
    → takes_at (tags_of v m) i n tag most ≡ takes c.tag n tag most
takes_at_lem t v m i c s n r tag most et = go (dec_lt c.at (length m))
  where
    go : Dec (c.at < length m) → takes_at (tags_of v m) i n tag most ≡ takes c.tag n tag most
    go (yes h) = at_here (tags_of v m) i n tag most (stands_lt v m i c s h) ∙ ap (λ (x : ℕ). takes x n tag most) (stands_tag v m i c s h)
    go (no g) =
        let h : length m ≤ c.at = omega arith in
        at_past (tags_of v m) i n tag most (stands_ge v m i c s h)
        ∙ takes_other c.tag tag n most (λ e. tag_some t r (sym et ∙ sym e ∙ stands_none v m i c s h))

-- ---- the machine at a row
run_eq : (t : ℕ) (ts : List ℕ) (K L : Frames) (i : ℕ) → step K t ≡ step L t → run (t ∷ ts) K i ≡ run (t ∷ ts) L i
unfolding run
run_eq t ts K L i e = rw (e, run)

run_eq_nil : (K L : Frames) (i : ℕ) → free K ≡ free L → run [] K i ≡ run [] L i
unfolding run
run_eq_nil K L i e = ap (λ (b : Bool). if b placed (stuck i)) e

run_none : (ts : List ℕ) (c : ℕ) (K : Frames) (i : ℕ) → run ts (frame c none K) i ≡ run ts K i
unfolding step step_rows free free_rows
run_none [] c K i = run_eq_nil (frame c none K) K i refl
run_none (t ∷ ts) c K i = run_eq t ts (frame c none K) K i refl

-- the tags from i on: one and more, or none
from_cases : (ts : List ℕ) (i : ℕ) (P : List ℕ → Type 0) → (i < length ts → P (get_or ts i 0 ∷ drop (suc i) ts)) → (length ts ≤ i → P []) → P (drop i ts)
from_cases ts i P f g = go (ltb i (length ts)) refl
  where
    go : (b : Bool) → ltb i (length ts) ≡ b → P (drop i ts)
    go true e = let lt = ltb-true i (length ts) e in subst P (sym (drop-cons ts i 0 lt)) (f lt)
    go false e = let le = ltb-false i (length ts) e in subst P (sym (drop_of_length-le ts le)) (g le)

module _ (ts : List ℕ) (i c num tag : ℕ) (req : Bool) (most : ℕ) (kids rest : Rows) (K : Frames) where
  row_pass : takes_at ts i c tag most ≡ false → owed req c ≡ false
      → run (drop i ts) (frame c (row num tag req most kids rest) K) i ≡ run (drop i ts) (frame zero rest K) i
  unfolding step free
  row_pass e o =
      from_cases ts i (λ (l : List ℕ). run l (frame c (row num tag req most kids rest) K) i ≡ run l (frame zero rest K) i)
      (λ lt. run_eq _ _ (frame c (row num tag req most kids rest) K) (frame zero rest K) i (step_pass (get_or ts i 0) c num tag req most kids rest K (step K (get_or ts i 0)) (sym (at_here ts i c tag most lt) ∙ e) o))
      (λ le. run_eq_nil (frame c (row num tag req most kids rest) K) (frame zero rest K) i (free_pass c num tag req most kids rest (free K) o))

  row_owe : takes_at ts i c tag most ≡ false → owed req c ≡ true → run (drop i ts) (frame c (row num tag req most kids rest) K) i ≡ stuck i
  unfolding step free
  row_owe e o =
      from_cases ts i (λ (l : List ℕ). run l (frame c (row num tag req most kids rest) K) i ≡ stuck i)
      (λ lt. run_fail _ _ (frame c (row num tag req most kids rest) K) i (step_owe (get_or ts i 0) c num tag req most kids rest K (step K (get_or ts i 0)) (sym (at_here ts i c tag most lt) ∙ e) o))
      (λ le. run_short (frame c (row num tag req most kids rest) K) i (free_owe c num tag req most kids rest (free K) o))

  row_have : takes_at ts i c tag most ≡ true
      → run (drop i ts) (frame c (row num tag req most kids rest) K) i
      ≡ run (drop (i + 1) ts) (frame zero kids (frame (c + 1) (row num tag req most kids rest) K)) (i + 1)
  unfolding step
  row_have e =
      let lt = at_lt ts i c tag most e in
      rw (add-one i, add-one c, drop-cons ts i 0 lt)
      (run_at (get_or ts i 0) (drop (suc i) ts) (frame c (row num tag req most kids rest) K) i num _
      (step_place (get_or ts i 0) c num tag req most kids rest K (step K (get_or ts i 0)) (sym (at_here ts i c tag most lt) ∙ e)))

-- ---- ONE OCCURRENCE
module _ (t : Table) (v : Service) (m : List ℕ) (r : ℕ) (from : Cursor) (e : from.tag ≡ tag_of t r) where
  -- a segment stands at the cursor
  once_left : (i : ℕ) → Stands v m i from → from.at < length m
  once_left i s = go (dec_lt from.at (length m))
    where
      go : Dec (from.at < length m) → from.at < length m
      go (yes h) = h
      go (no g) = absurd (tag_some t r (sym e ∙ stands_none v m i from s (omega arith)))

  -- the row takes it
  once_have : (i : ℕ) → Stands v m i from → (n : ℕ) → n < most_of t r → (kids rest : Rows) (K : Frames)
      → run (drop i (tags_of v m)) (frame n (row_at t r kids rest) K) i
      ≡ run (drop (i + 1) (tags_of v m)) (frame zero kids (frame (n + 1) (row_at t r kids rest) K)) (i + 1)
  once_have i s n lt kids rest K =
      row_have (tags_of v m) i n (first_of t r) (tag_of t r) (req_of t r) (most_of t r) kids rest K
      (takes_at_lem t v m i from s n r (tag_of t r) (most_of t r) refl ∙ sym (takes_here from.tag (tag_of t r) n (most_of t r) e) ∙ lt-ltb n (most_of t r) lt)

  module _ (c : Cursor) (st : Stepped v m from c) where
    once_next : (i : ℕ) → Stands v m i from → Stands v m (i + 1) c
    once_next i s = stands_next v m i from s c st (once_left i s)

    -- then the rows inside it
    pub once_done : (d : Result Cursor ℕ) → RowsDone t v m (first_of t r + 1) (end_of t r) c d → OnceDone t v m r from d
    once_done (Ok d) p = record {
      pass = λ i s.
          let y = p.pass (i + 1) (once_next i s) in
          (y.0, y.1, λ n lt kids rest is K. once_have i s n lt kids rest K ∙ y.2 kids is (frame (n + 1) (row_at t r kids rest) K));
    }
    once_done (Err q) p = record {
      stop = λ i s.
          let y = p.stop (i + 1) (once_next i s) in
          (y.0, y.1, λ n lt kids rest is K. once_have i s n lt kids rest K ∙ y.2 kids is (frame (n + 1) (row_at t r kids rest) K));
    }

    -- .. if there are any
    once_leaf : ltb (r + 1) (end_of t r) ≡ false → OncePass t v m r from c
    once_leaf leaf = record {
      pass = λ i s. (
        i + 1,
        once_next i s,
        λ n lt kids rest is K.
            let L : Frames = frame (n + 1) (row_at t r kids rest) K in
            once_have i s n lt kids rest K
            ∙ ap (λ (l : Rows). run (drop (i + 1) (tags_of v m)) (frame zero l L) (i + 1)) (ended is (let f = first_segment t r leaf in let le = ltb-false (r + 1) (end_of t r) leaf in omega arith))
            ∙ run_none (drop (i + 1) (tags_of v m)) 0 L (i + 1),
      );
    }

-- ---- THE LOOP OVER ROWS SIDE BY SIDE
-- at j the rows from r on are left, of the first of which n have been had
abbrev RowsSoFar : Table → ℕ → ℕ → ℕ → ℕ → List ℕ → ℕ → ℕ → Type 0
RowsSoFar t lo hi r n ts i j =
    (rows : Rows) → Is t lo hi rows
    → (left : Rows) × Is t r hi left × ((K : Frames) → run (drop i ts) (frame zero rows K) i ≡ run (drop j ts) (frame n left K) j)

pub record RowsAt (t : Table) (v : Service) (m : List ℕ) (lo hi : ℕ) (from : Cursor) (r n : ℕ) (c : Cursor) : Type 0 where
  pub going : (i : ℕ) → Stands v m i from → (j : ℕ) × Stands v m j c × RowsSoFar t lo hi r n (tags_of v m) i j

-- the turns that the loop may still take: how often the row at hand may come is a number of 64 bits
abbrev pub turns : ℕ → ℕ → ℕ → ℕ
turns hi r n = (hi - r) * 18446744073709551616 + (18446744073709551616 - n)

pub record RowsInv (t : Table) (v : Service) (m : List ℕ) (g hi : ℕ) (from : Cursor) (r n : ℕ) (c : Cursor) : Type 0 where
  pub own : RowIs t g
  pub end : hi ≡ end_of t g
  pub some_left : Some t r hi
  pub above : first_of t g < r
  pub fits : n < 18446744073709551616
  pub so_far : RowsAt t v m (first_of t g + 1) hi from r n c

pub rows_start : (t : Table) (v : Service) (m : List ℕ) (g f e : ℕ) (from : Cursor) → RowIs t g → f ≡ first_of t g → e ≡ end_of t g → RowsInv t v m g e from (f + 1) 0 from
rows_start t v m g f e from x ef ee = rw (ef, ee) (record {
  own = x;
  end = refl;
  some_left = record { rows = x.kids; are = x.below };
  above = omega arith;
  fits = omega arith;
  so_far = record { going = λ i s. (i, s, λ rows is. (rows, is, λ K. refl)) };
})

module _ (t : Table) (v : Service) (m : List ℕ) (g hi : ℕ) (from : Cursor) (r n : ℕ) (c : Cursor) (inv : RowsInv t v m g hi from r n c) where
  abbrev lo : ℕ
  lo = first_of t g + 1

  -- what is done of the rows up to hi is done of those inside the row g
  inside : (d : Result Cursor ℕ) → RowsDone t v m lo hi from d → RowsDone t v m lo (end_of t g) from d
  inside d x = subst (λ (z : ℕ). RowsDone t v m lo z from d) inv.end x

  pub rows_done : hi ≤ r → RowsDone t v m (first_of t g + 1) (end_of t g) from (Ok c)
  rows_done h = inside (Ok c) (record {
    pass = λ i s.
        let x = inv.so_far.going i s in
        let k = x.0 in (
          k,
          x.1,
          λ rows is K.
              let y = x.2 rows is in
              y.2 K ∙ ap (λ (l : Rows). run (drop k (tags_of v m)) (frame n l K) k) (ended y.1 h) ∙ run_none (drop k (tags_of v m)) n K k,
        );
  })

  module _ (h : r < hi) where
    rows_head : Head t r hi inv.some_left.rows
    rows_head = head inv.some_left.are h

    pub rows_it : RowIs t r
    rows_it = rows_head.it

    pub rows_small : r < length t
    rows_small = rows_it.small

    -- rows inside a row lie within it
    pub rows_falls : (k : ℕ) → (end_of t g - g) + (end_of t g - g) ≡ k → (end_of t r - r) + (end_of t r - r) + 1 < k
    rows_falls k e = let z = rows_head in omega (arith, z.within, z.it.up, z.it.down, inv.above, inv.own.up, inv.end)

    -- the row at hand in whatever rows these are
    rows_step : (i k : ℕ) → RowsSoFar t lo hi r n (tags_of v m) i k → (rows : Rows) → Is t lo hi rows
        → (left : Rows) × (kids : Rows) × (rest : Rows) × Is t r hi left × (left ≡ row_at t r kids rest) × Is t (first_of t r + 1) (end_of t r) kids × Is t (end_of t r) hi rest × ((K : Frames)
        → run (drop i (tags_of v m)) (frame zero rows K) i ≡ run (drop k (tags_of v m)) (frame n (row_at t r kids rest) K) k)
    rows_step i k x rows is =
        let y = x rows is in
        let z = head y.1 h in
        (y.0, z.it.kids, z.rest, y.1, z.is, z.it.below, z.beside, λ K. y.2 K ∙ ap (λ (l : Rows). run (drop k (tags_of v m)) (frame n l K) k) z.is)

    module _ (w : Turn) (tn : TurnIs t r n c w) where
      -- the row takes the segment at hand
      module _ (ew : w ≡ Takes) where
        taken : Taken t r n c
        taken = subst (TurnIs t r n c) ew tn

        pub rows_tag : c.tag ≡ tag_of t r
        rows_tag = taken.tag

        pub rows_fits : n + 1 < 2 ^ 64
        rows_fits = taken.fits

        module _ (n2 : ℕ) (en : n2 ≡ n + 1) where
          once_more : (d : Cursor) → OncePass t v m r c d → RowsInv t v m g hi from r n2 d
          once_more d p = rw en (record {
            own = inv.own;
            end = inv.end;
            some_left = inv.some_left;
            above = inv.above;
            fits = taken.fits;
            so_far = record {
              going = λ i s.
                  let x = inv.so_far.going i s in
                  let y = p.pass x.0 x.1 in (
                    y.0,
                    y.1,
                    λ rows is.
                        let q = rows_step i x.0 x.2 rows is in (
                          q.0,
                          q.3,
                          λ K. q.7 K ∙ y.2 n taken.few q.1 q.2 q.5 K ∙ ap (λ (l : Rows). run (drop y.0 (tags_of v m)) (frame (n + 1) l K) y.0) (sym q.4),
                        ),
                  );
            };
          })

          pub rows_again : (w : Result Cursor ℕ) → OnceDone t v m r c w → (d : Cursor) → w ≡ Ok d → RowsInv t v m g hi from r n2 d
          rows_again w o d e = once_more d (subst (OnceDone t v m r c) e o)

          -- with nothing inside it
          pub rows_leaf : (d : Cursor) → Stepped v m c d → (b : Bool) → b ≡ ltb (r + 1) (end_of t r) → b ≡ false → RowsInv t v m g hi from r n2 d
          rows_leaf d st b eb leaf = once_more d (once_leaf t v m r c taken.tag d st (sym eb ∙ leaf))

        -- no message goes on inside it
        pub rows_stop : (p : ℕ) → OnceStop t v m r c p → RowsDone t v m (first_of t g + 1) (end_of t g) from (Err p)
        rows_stop p o = inside (Err p) (record {
          stop = λ i s.
              let x = inv.so_far.going i s in
              let y = o.stop x.0 x.1 in (
                y.0,
                y.1,
                λ rows is K.
                    let q = rows_step i x.0 x.2 rows is in
                    q.7 K ∙ y.2 n taken.few q.1 q.2 q.5 K,
              );
        })

      -- it does not
      not_here : (o : Bool) → Untaken t r n c o → (k : ℕ) → Stands v m k c → takes_at (tags_of v m) k n (tag_of t r) (most_of t r) ≡ false
      not_here o u k s = takes_at_lem t v m k c s n r (tag_of t r) (most_of t r) refl ∙ u.not

      -- .. and is owed
      pub rows_short : w ≡ Owes → RowsDone t v m (first_of t g + 1) (end_of t g) from (Err c.at)
      rows_short ew = let u : Untaken t r n c true = subst (TurnIs t r n c) ew tn in inside (Err c.at) (record {
        stop = λ i s.
            let x = inv.so_far.going i s in
            let k = x.0 in (
              k,
              stands_at v m k c x.1,
              λ rows is K.
                  let q = rows_step i k x.2 rows is in
                  q.7 K ∙ row_owe (tags_of v m) k n (first_of t r) (tag_of t r) (req_of t r) (most_of t r) q.1 q.2 K (not_here true u k x.1) u.owes,
            );
      })

      -- .. or passed
      pub rows_next : w ≡ Passes → (e : ℕ) → e ≡ end_of t r → RowsInv t v m g hi from e 0 c
      rows_next ew e ee = let u : Untaken t r n c false = subst (TurnIs t r n c) ew tn in rw ee (record {
        own = inv.own;
        end = inv.end;
        some_left = record { rows = rows_head.rest; are = rows_head.beside };
        above = omega (arith, inv.above, rows_it.up, rows_it.down);
        fits = omega arith;
        so_far = record {
          going = λ i s.
              let x = inv.so_far.going i s in
              let k = x.0 in (
                k,
                x.1,
                λ rows is.
                    let q = rows_step i k x.2 rows is in (
                      q.2,
                      q.6,
                      λ K. q.7 K ∙ row_pass (tags_of v m) k n (first_of t r) (tag_of t r) (req_of t r) (most_of t r) q.1 q.2 K (not_here false u k x.1) u.owes,
                    ),
              );
        };
      })

    -- the rows fall that are left, or how often the row at hand may still come
    pub rows_less : (e : ℕ) → e ≡ end_of t r → turns hi e 0 < turns hi r n
    rows_less e ee = omega (arith, rows_it.up, rows_it.down, inv.fits)

  pub rows_more : (n2 : ℕ) → n2 ≡ n + 1 → turns hi r n2 < turns hi r n
  rows_more n2 e = omega (arith, inv.fits)

-- ---- THE MESSAGE'S OWN ROW
pub all_small : (t : Table) → Sound t → 0 < length t
all_small t sd = (own t sd).some

pub all_tag : (t : Table) (a x : ℕ) → x ≡ tag_of t 0 → a ≡ x → a ≡ tag_of t 0
all_tag t a x e h = h ∙ e

pub all_row : (t : Table) → Sound t → RowIs t 0
all_row t sd = (head (chart_is t sd) (own t sd).some).it

-- whatever rows the table's are, they are that row alone
all_rows : (t : Table) → Own t → (rows : Rows) → Is t 0 (length t) rows → (kids : Rows) × Is t (first_of t 0 + 1) (end_of t 0) kids × (rows ≡ row_at t 0 kids none)
all_rows t o rows is =
    let z = head is o.some in
    (z.it.kids, z.it.below, z.is ∙ ap (λ (l : Rows). row_at t 0 z.it.kids l) (ended z.beside (omega (arith, o.end))))

module _ (t : Table) (sd : Sound t) (v : Service) (m : List ℕ) (from : Cursor) where
  o : Own t
  o = own t sd

  -- it comes once
  pub all_done : (d : Result Cursor ℕ) → OnceDone t v m 0 from d → RowsDone t v m 0 (length t) from d
  all_done (Ok d) p = record {
    pass = λ i s.
        let x = p.pass i s in
        let j = x.0 in (
          j,
          x.1,
          λ rows is K.
              let z = all_rows t o rows is in
              ap (λ (l : Rows). run (drop i (tags_of v m)) (frame zero l K) i) z.2
              ∙ x.2 0 (omega (arith, o.once)) z.0 none z.1 K
              ∙ row_pass (tags_of v m) j 1 (first_of t 0) (tag_of t 0) (req_of t 0) (most_of t 0) z.0 none K (at_most (tags_of v m) j 1 (tag_of t 0) (most_of t 0) (omega (arith, o.once))) (owed_some (req_of t 0) 1 (λ e. omega arith))
              ∙ run_none (drop j (tags_of v m)) 0 K j,
        );
  }
  all_done (Err q) p = record {
    stop = λ i s.
        let x = p.stop i s in (
          x.0,
          x.1,
          λ rows is K.
              let z = all_rows t o rows is in
              ap (λ (l : Rows). run (drop i (tags_of v m)) (frame zero l K) i) z.2 ∙ x.2 0 (omega (arith, o.once)) z.0 none z.1 K,
        );
  }

  -- or not at all, and is owed
  pub all_stuck : (x : ℕ) → x ≡ tag_of t 0 → (from.tag ≡ x → ⊥) → RowsDone t v m 0 (length t) from (Err from.at)
  all_stuck x ex ne = record {
    stop = λ i s. (
      i,
      stands_at v m i from s,
      λ rows is K.
          let z = all_rows t o rows is in
          ap (λ (l : Rows). run (drop i (tags_of v m)) (frame zero l K) i) z.2
          ∙ row_owe (tags_of v m) i 0 (first_of t 0) (tag_of t 0) (req_of t 0) (most_of t 0) z.0 none K
          (takes_at_lem t v m i from s 0 0 (tag_of t 0) (most_of t 0) refl ∙ sym (takes_other from.tag (tag_of t 0) 0 (most_of t 0) (λ e. ne (e ∙ sym ex))))
          (owed_zero (req_of t 0) 0 refl ∙ o.must),
    );
  }
