-- The machine of the proofs: placements counted, the frames that are open, one step, a run, and the tests of a chart. A reader of the definitions need
-- not read it: what it says of placements is proved.
use Rattle.std.specs.Prelude.{Bool, true, false, not, ◌&&◌ as and, ◌||◌ as or, List, [], ◌∷◌, ℕ, zero, suc, ◌<◌, ◌≤◌, T, ltb, eqb, get_or}
use Rattle.service.specs.Tests.{if}
use Rattle.chart.specs.Chart.{Rows, none, row}

-- placements counted: from the tags ts, of which the first row has been had c times, to what is left, us; and so the numbers
pub data Goes : ℕ → Rows → List ℕ → List ℕ → List ℕ → List ℕ → Type 0 where
  stop : {c : ℕ} {ts ns : List ℕ} → Goes c none ts ns ts ns
  skip : {c num tag : ℕ} {req : Bool} {most : ℕ} {kids rest : Rows} {ts ns us ms : List ℕ}
      → (T req → 1 ≤ c) → Goes zero rest ts ns us ms → Goes c (row num tag req most kids rest) ts ns us ms
  have : {c num tag : ℕ} {req : Bool} {most : ℕ} {kids rest : Rows} {ts ns us ms vs ls : List ℕ}
      → c < most → Goes zero kids ts ns us ms → Goes (suc c) (row num tag req most kids rest) us ms vs ls
      → Goes c (row num tag req most kids rest) (tag ∷ ts) (num ∷ ns) vs ls

-- THE MACHINE
pub data Frames : Type 0 where
  done : Frames
  frame : ℕ → Rows → Frames → Frames

pub data Ends : Frames → List ℕ → List ℕ → Type 0 where
  ends : Ends done [] []
  goes : {c : ℕ} {rows : Rows} {K : Frames} {ts ns us ms : List ℕ}
      → Goes c rows ts ns us ms → Ends K us ms → Ends (frame c rows K) ts ns

pub data Step : Type 0 where
  at : ℕ → Frames → Step
  fail : Step

pub data Out : Type 0 where
  placed : Out
  stuck : ℕ → Out

-- a row is had, it is owed, or it is passed
unfoldable pub choose : {A : Type 0} → Bool → Bool → A → A → A → A
choose true b x y z = x
choose false true x y z = y
choose false false x y z = z

-- a row of this tag that may be had once more
unfoldable pub takes : ℕ → ℕ → ℕ → ℕ → Bool
takes t c tag most = and (eqb t tag) (ltb c most)

-- a row that must be and has not been
unfoldable pub owed : Bool → ℕ → Bool
owed req c = and req (eqb c 0)

unfoldable pub step_rows : ℕ → ℕ → Rows → Frames → Step → Step
step_rows t c none K s = s
step_rows t c (row num tag req most kids rest) K s =
    choose (takes t c tag most) (owed req c)
    (at num (frame zero kids (frame (suc c) (row num tag req most kids rest) K)))
    fail
    (step_rows t zero rest K s)

unfoldable pub step : Frames → ℕ → Step
step done t = fail
step (frame c rows K) t = step_rows t c rows K (step K t)

-- the frames can end here
unfoldable pub free_rows : ℕ → Rows → Bool → Bool
free_rows c none b = b
free_rows c (row num tag req most kids rest) b = choose false (owed req c) true false (free_rows zero rest b)

unfoldable pub free : Frames → Bool
free done = true
free (frame c rows K) = free_rows c rows (free K)

-- the machine's answer on the tags, of which i stand before them: placed, or how many tags stand before the one that fails
unfoldable pub run : List ℕ → Frames → ℕ → Out
run [] K i = if (free K) placed (stuck i)
run (t ∷ ts) K i = elim (step K t) [ at num L ↦ run ts L (suc i) | fail ↦ stuck i ]

-- DETERMINISM
-- the tag t may come first in the rows, the first of them had c times, or, if all may end, in what follows
unfoldable pub may_rows : ℕ → ℕ → Rows → Bool → Bool
may_rows t c none b = b
may_rows t c (row num tag req most kids rest) b =
    choose (takes t c tag most) (owed req c) true false (may_rows t zero rest b)

unfoldable pub may : ℕ → Frames → Bool
may t done = false
may t (frame c rows K) = may_rows t c rows (may t K)

-- what may follow an occurrence of a row: the row again, if it may be twice, or what may follow the row
abbrev pub after : ℕ → ℕ → (ℕ → Bool) → ℕ → Bool
after tag most G t = or (takes t 1 tag most) (G t)

-- a row that can be had again where it can also be passed
unfoldable pub doubt : Bool → ℕ → Bool
doubt req most = or (ltb 1 most) (and (not req) (ltb 0 most))

-- .. and whose tag may come next once it is finished
abbrev pub clash : ℕ → Bool → ℕ → Rows → (ℕ → Bool) → Bool
clash tag req most rest F = and (doubt req most) (may_rows tag zero rest (F tag))

-- no such row's tag may come next once the row is finished, with F the tags that may come after the rows
unfoldable pub det : Rows → (ℕ → Bool) → Bool
det none F = true
det (row num tag req most kids rest) F =
    and (not (clash tag req most rest F))
    (and (det kids (after tag most (λ t. may_rows t zero rest (F t)))) (det rest F))

-- a row that must be may be
unfoldable pub good : Rows → Bool
good none = true
good (row num tag req most kids rest) = and (or (not req) (ltb 0 most)) (and (good kids) (good rest))

-- a chart alone
abbrev pub only : Rows → Frames
only rows = frame zero rows done

unfoldable pub det_k : Frames → Bool
det_k done = true
det_k (frame c rows K) = and (det rows (λ t. may t K)) (det_k K)

unfoldable pub good_k : Frames → Bool
good_k done = true
good_k (frame c rows K) = and (good rows) (good_k K)

-- THE TESTS OF A CHART: no tag is ever in doubt, and what must be may be
abbrev pub Decided : Rows → Type 0
Decided rows = T (det_k (only rows)) × T (good_k (only rows))

-- each row's tag is that which f gives its number
unfoldable pub labels : (ℕ → ℕ) → Rows → Bool
labels f none = true
labels f (row num tag req most kids rest) = and (eqb (f num) tag) (and (labels f kids) (labels f rest))

-- no row has the tag u
unfoldable pub lacking : ℕ → Rows → Bool
lacking u none = true
lacking u (row num tag req most kids rest) = and (not (eqb tag u)) (and (lacking u kids) (lacking u rest))

abbrev pub is_none : Rows → Bool
is_none none = true
is_none (row num tag req most kids rest) = false

-- the tag u can only come last: it is not in the first row and only last in the others, or there is but one row, which comes once, and it is only last in that
unfoldable pub closing : ℕ → Rows → Bool
closing u none = true
closing u (row num tag req most kids rest) =
    or (and (not (eqb tag u)) (and (lacking u kids) (closing u rest)))
    (and (ltb most 2) (and (is_none rest) (or (is_none kids) (and (not (eqb tag u)) (closing u kids)))))

-- ROW BY ROW: g, of a tag, is each of these rows that can be had at all, and what comes after them is as b says
unfoldable pub agree_rows : (ℕ → ℕ) → Rows → Bool → Bool
agree_rows g none b = b
agree_rows g (row num tag req most kids rest) b = and (or (eqb most 0) (eqb (g tag) num)) (agree_rows g rest b)

unfoldable pub agree : (ℕ → ℕ) → Frames → Bool
agree g done = true
agree g (frame c rows K) = agree_rows g rows (agree g K)

-- after each of the rows, and of those below them, G of that row and of a tag is the row of the tag, for every row that can come next: how often a
-- row has been had, and which must be, are not asked. A says it of what comes after the rows.
unfoldable pub guides : (ℕ → ℕ → ℕ) → Rows → ((ℕ → ℕ) → Bool) → Bool
guides G none A = true
guides G (row num tag req most kids rest) A =
    and
    (or (eqb most 0)
    (and (agree_rows (G num) kids (agree_rows (G num) (row num tag req most kids rest) (A (G num))))
    (guides G kids (λ g. agree_rows g (row num tag req most kids rest) (A g)))))
    (guides G rest A)

unfoldable pub guides_k : (ℕ → ℕ → ℕ) → Frames → Bool
guides_k G done = true
guides_k G (frame c rows K) = and (guides G rows (λ g. agree g K)) (guides_k G K)

-- the rows of the tags, each from the row before it
unfoldable pub rows_by : (ℕ → ℕ → ℕ) → ℕ → List ℕ → List ℕ
rows_by G p [] = []
rows_by G p (t ∷ ts) = G p t ∷ rows_by G (G p t) ts

-- the row after i of the tags, p before the first
unfoldable pub row_after : (ℕ → ℕ → ℕ) → ℕ → List ℕ → ℕ → ℕ
row_after G p ts zero = p
row_after G p ts (suc i) = G (row_after G p ts i) (get_or ts i 0)
