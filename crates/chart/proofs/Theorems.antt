-- Of placements on any chart that passes the tests: there is at most one; a message that has none fails at one segment, or at its end; and where the
-- chart's last tag is the message's last, it fails at a segment. Assumes nothing.
use mathlib.Core.Path.{◌≡◌, refl, sym, ap, subst, ◌∙◌}
use mathlib.Core.Bool.{Bool, true, false, not, ◌&&◌ as and, ◌||◌ as or}
use mathlib.Core.List.{List, [], ◌∷◌, ◌++◌, map, map-append, append_assoc, append-nil}
use mathlib.Core.Logic.{◌⊎◌, inl, inr}
use Prim.Native.Nat.{ℕ, suc, ◌+◌, ◌-◌, ◌<◌}
use native.Mathlib.Decide.{dec_lt}
use native.Mathlib.Omega.{arith}
use lib.Dec.{T, ltb, eqb, eqb→eq}
use lib.ListN.{length, take, drop, take-append-drop}
use lib.Seq.{take-add}
use borrow.Author.Tests.{ltb-true, eq-eqb}
use Rattle.chart.specs.Chart.{Rows, Placement, no_rows, row_then, Occurrences, no_more, one_then, Before, shorter, smaller, further, Reading, Unplaced, Begins, FirstMisfit, FailsAt}
use Rattle.chart.specs.Forms.Machine.{only, Decided, labels, lacking, closing, is_none, Frames, Ends, Step, at, fail, step}
use Rattle.chart.proofs.Theory.{Fine, step_on, step_fail, step_fine, ends_free, and_left, and_right, nots, T_true, true_T, Said, all, part, said}
use Rattle.chart.proofs.Plain.{placement_ends, ends_placement, stuck_fails}

-- ---- AT MOST ONE PLACEMENT
ends_step : (t : ℕ) (ts : List ℕ) (K : Frames) (ns ms : List ℕ) → Fine K → Ends K (t ∷ ts) ns → Ends K (t ∷ ts) ms
    → ((L : Frames) (ns ms : List ℕ) → Fine L → Ends L ts ns → Ends L ts ms → ns ≡ ms) → (st : Step) → step K t ≡ st → ns ≡ ms
ends_step t ts K ns ms f g h k (at n L) e =
    let a = step_on K t n L ts ns f.0 e g in
    let b = step_on K t n L ts ms f.0 e h in
    a.1 ∙ ap (λ (l : List ℕ). n ∷ l) (k L a.0 b.0 (step_fine K t n L f e) a.2 b.2) ∙ sym b.1
ends_step t ts K ns ms f g h k fail e = absurd (step_fail K t ts ns e g)

ends_one : (ts : List ℕ) (K : Frames) (ns ms : List ℕ) → Fine K → Ends K ts ns → Ends K ts ms → ns ≡ ms
ends_one [] K ns ms f g h = (ends_free K ns g).1 ∙ sym (ends_free K ms h).1
ends_one (t ∷ ts) K ns ms f g h = ends_step t ts K ns ms f g h (ends_one ts) (step K t) refl

pub one_placement : (rows : Rows) → Decided rows → (ts ns ms : List ℕ) → Placement rows ts ns → Placement rows ts ms → ns ≡ ms
one_placement rows f ts ns ms g h = ends_one ts (only rows) ns ms f (placement_ends g) (placement_ends h)

-- so it is the reading
pub reading : (rows : Rows) → Decided rows → (ts ns : List ℕ) → Placement rows ts ns → Reading rows ts ns
reading rows f ts ns h = record { placement = h; first = λ ms g. inl (one_placement rows f ts ms ns g h) }

-- ---- A PLACEMENT, OR THE PLACE WHERE THERE IS NONE
pub placed_or_fails : (rows : Rows) → Decided rows → (ts : List ℕ) → ((ns : List ℕ) × Placement rows ts ns) ⊎ ((j : ℕ) × FailsAt rows ts j)
placed_or_fails rows f ts = go (said ts (only rows) 0 f)
  where
    go : Said (only rows) ts 0 → ((ns : List ℕ) × Placement rows ts ns) ⊎ ((j : ℕ) × FailsAt rows ts j)
    go (all ns h r) = inl (ns, ends_placement h)
    go (part j s r) = inr (0 + j, stuck_fails rows ts (0 + j) f r)

-- with no placement: a first misfit, or the whole begins a message
pub misfit_or_begins : (rows : Rows) → Decided rows → (ts : List ℕ) → Unplaced rows ts → ((j : ℕ) × FirstMisfit rows ts j) ⊎ Begins rows ts
misfit_or_begins rows f ts n = go (placed_or_fails rows f ts)
  where
    at_place : (j : ℕ) → FirstMisfit rows ts j ⊎ ((j ≡ length ts) × Begins rows ts) → ((j : ℕ) × FirstMisfit rows ts j) ⊎ Begins rows ts
    at_place j (inl x) = inl (j, x)
    at_place j (inr y) = inr y.1

    go : ((ns : List ℕ) × Placement rows ts ns) ⊎ ((j : ℕ) × FailsAt rows ts j) → ((j : ℕ) × FirstMisfit rows ts j) ⊎ Begins rows ts
    go (inl x) = absurd (n x.0 x.1)
    go (inr y) = at_place y.0 y.1.place

-- ---- ON ANY CHART: at most one reading, and at most one place
before_apart : {xs ys zs ws : List ℕ} → Before xs ys → Before zs ws → zs ≡ ys → ws ≡ xs → ⊥
before_apart shorter shorter p q = cc
before_apart shorter (smaller gt) p q = cc
before_apart shorter (further b) p q = cc
before_apart (smaller lt) shorter p q = cc
before_apart (smaller {x = x} {y = y} lt) (smaller {x = z} {y = w} gt) p q =
    let e : z ≡ y = cc in
    let f : w ≡ x = cc in
    omega arith
before_apart (smaller {x = x} {y = y} lt) (further {x = z} b) p q =
    let e : z ≡ y = cc in
    let f : z ≡ x = cc in
    omega arith
before_apart (further a) shorter p q = cc
before_apart (further {x = x} a) (smaller {x = z} {y = w} gt) p q =
    let e : z ≡ x = cc in
    let f : w ≡ x = cc in
    omega arith
before_apart (further {xs = xs} {ys = ys} a) (further {xs = zs} {ys = ws} b) p q =
    let e : zs ≡ ys = cc in
    let f : ws ≡ xs = cc in
    before_apart a b e f

before_not : (xs ys : List ℕ) → Before xs ys → Before ys xs → ⊥
before_not xs ys a b = before_apart a b refl refl

pub one_reading : (rows : Rows) (ts ns ms : List ℕ) → Reading rows ts ns → Reading rows ts ms → ns ≡ ms
one_reading rows ts ns ms a b = go (a.first ms b.placement) (b.first ns a.placement)
  where
    go : (ms ≡ ns) ⊎ Before ns ms → (ns ≡ ms) ⊎ Before ms ns → ns ≡ ms
    go (inl e) y = sym e
    go (inr x) (inl e) = e
    go (inr x) (inr y) = absurd (before_not ns ms x y)

-- what begins a message begins with what that begins with
begins_less : (rows : Rows) (a b : List ℕ) → Begins rows (a ++ b) → Begins rows a
begins_less rows a b h = record {
  tail = b ++ h.tail;
  nos = h.nos;
  placement = subst (λ (l : List ℕ). Placement rows l h.nos) (append_assoc a b h.tail) h.placement;
}

begins_take : (rows : Rows) (ts : List ℕ) (n m : ℕ) → Begins rows (take (n + m) ts) → Begins rows (take n ts)
begins_take rows ts n m h = begins_less rows (take n ts) (take m (drop n ts)) (subst (λ (l : List ℕ). Begins rows l) (take-add n m ts) h)

begins_whole : (rows : Rows) (ts : List ℕ) (n : ℕ) → Begins rows ts → Begins rows (take n ts)
begins_whole rows ts n h = begins_less rows (take n ts) (drop n ts) (subst (λ (l : List ℕ). Begins rows l) (sym (take-append-drop n ts)) h)

not_later : (rows : Rows) (ts : List ℕ) (j k : ℕ) → FirstMisfit rows ts j → j < k → Begins rows (take k ts) → ⊥
not_later rows ts j k a lt h =
    let e : k ≡ suc j + (k - suc j) = omega arith in
    a.misfit (begins_take rows ts (suc j) (k - suc j) (subst (λ (n : ℕ). Begins rows (take n ts)) e h))

pub one_misfit : (rows : Rows) (ts : List ℕ) (j k : ℕ) → FirstMisfit rows ts j → FirstMisfit rows ts k → j ≡ k
one_misfit rows ts j k a b = go (dec_lt j k) (dec_lt k j)
  where
    go : Dec (j < k) → Dec (k < j) → j ≡ k
    go (yes h) y = absurd (not_later rows ts j k a h b.before)
    go (no g) (yes h) = absurd (not_later rows ts k j b h a.before)
    go (no g) (no h) = omega arith

pub one_fault : (rows : Rows) (ts : List ℕ) (j k : ℕ) → FailsAt rows ts j → FailsAt rows ts k → j ≡ k
one_fault rows ts j k a b = go a.place b.place
  where
    go : FirstMisfit rows ts j ⊎ ((j ≡ length ts) × Begins rows ts) → FirstMisfit rows ts k ⊎ ((k ≡ length ts) × Begins rows ts) → j ≡ k
    go (inl x) (inl y) = one_misfit rows ts j k x y
    go (inl x) (inr y) = absurd (x.misfit (begins_whole rows ts (suc j) y.1))
    go (inr x) (inl y) = absurd (y.misfit (begins_whole rows ts (suc k) x.1))
    go (inr x) (inr y) = x.0 ∙ sym y.0

-- ---- EACH SEGMENT HAS A ROW OF ITS TAG
mapped : (f : ℕ → ℕ) (ns ms ts us nos tags : List ℕ) → map f ns ≡ ts → map f ms ≡ us → tags ≡ ts ++ us → nos ≡ ns ++ ms → map f nos ≡ tags
mapped f ns ms ts us nos tags a b p q = rw (q, p, ← a, ← b) (map-append f ns ms)

mutual
  unfolding labels

  row_tags : (f : ℕ → ℕ) {rows : Rows} {ts ns : List ℕ} → T (labels f rows) → Placement rows ts ns → map f ns ≡ ts
  row_tags f h no_rows = refl
  row_tags f h (row_then {num = num} {tag = tag} {others = others} {ts = ts} {us = us} {tags = tags} {ns = ns} {ms = ms} {nos = nos} le o t r p q) =
      let g = and_right (eqb (f num) tag) _ h in
      mapped f ns ms ts us nos tags (occurrence_tags f (eqb→eq (f num) tag (and_left (eqb (f num) tag) _ h)) (and_left (labels f others) _ g) t)
      (row_tags f (and_right (labels f others) _ g) r) p q

  occurrence_tags : (f : ℕ → ℕ) {num tag : ℕ} {others : Rows} {n : ℕ} {ts ns : List ℕ} → f num ≡ tag → T (labels f others)
      → Occurrences num tag others n ts ns → map f ns ≡ ts
  occurrence_tags f e h no_more = refl
  occurrence_tags f e h (one_then {ts = ts} {us = us} {tags = tags} {ns = ns} {ms = ms} {nos = nos} p t a b) =
      let l = mapped f ns ms ts us nos tags (row_tags f h p) (occurrence_tags f e h t) a b in cc

pub own_tags : (f : ℕ → ℕ) (rows : Rows) → T (labels f rows) → (ts ns : List ℕ) → Placement rows ts ns → map f ns ≡ ts
own_tags f rows h ts ns p = row_tags f h p

-- ---- THE TAG THAT CLOSES A MESSAGE
abbrev Lacks : ℕ → List ℕ → Type 0
Lacks u [] = Unit {0}
Lacks u (t ∷ ts) = (t ≡ u → ⊥) × Lacks u ts

abbrev Last : ℕ → List ℕ → Type 0
Last u [] = Unit {0}
Last u (t ∷ ts) = (t ≡ u → ts ≡ []) × Last u ts

lacks_append : (u : ℕ) (a b : List ℕ) → Lacks u a → Lacks u b → Lacks u (a ++ b)
lacks_append u [] b x y = y
lacks_append u (t ∷ a) b x y = (x.0, lacks_append u a b x.1 y)

last_append : (u : ℕ) (a b : List ℕ) → Lacks u a → Last u b → Last u (a ++ b)
last_append u [] b x y = y
last_append u (t ∷ a) b x y = ((λ e. absurd (x.0 e)), last_append u a b x.1 y)

last_then : (u : ℕ) (a tail : List ℕ) → Last u (a ++ (u ∷ tail)) → tail ≡ []
last_then u [] tail h = h.0 refl
last_then u (t ∷ a) tail h = last_then u a tail h.1

other : (tag u : ℕ) → T (not (eqb tag u)) → tag ≡ u → ⊥
other tag u h e = nots (eqb tag u) h (T_true (eq-eqb tag u e))

mutual
  unfolding lacking

  lacks_rows : (u : ℕ) {rows : Rows} {ts ns : List ℕ} → T (lacking u rows) → Placement rows ts ns → Lacks u ts
  lacks_rows u h no_rows = tt
  lacks_rows u h (row_then {tag = tag} {others = others} {rest = rest} {ts = ts} {us = us} le o t r p q) =
      let g = and_right (not (eqb tag u)) _ h in
      subst (Lacks u) (sym p)
      (lacks_append u ts us (lacks_occurrences u (other tag u (and_left (not (eqb tag u)) _ h)) (and_left (lacking u others) _ g) t) (lacks_rows u (and_right (lacking u others) _ g) r))

  lacks_occurrences : (u : ℕ) {num tag : ℕ} {others : Rows} {n : ℕ} {ts ns : List ℕ} → (tag ≡ u → ⊥) → T (lacking u others) → Occurrences num tag others n ts ns → Lacks u ts
  lacks_occurrences u g h no_more = tt
  lacks_occurrences u g h (one_then {ts = ts} {us = us} f t p q) = (g, subst (Lacks u) (sym p) (lacks_append u ts us (lacks_rows u h f) (lacks_occurrences u g h t)))

or_elim : (a b : Bool) → T (or a b) → T a ⊎ T b
or_elim true b h = inl tt
or_elim false b h = inr h

empty : {rows : Rows} {ts ns : List ℕ} → T (is_none rows) → Placement rows ts ns → ts ≡ []
empty h no_rows = refl
empty h (row_then le o t r p q) = absurd h

-- one occurrence: its tag, and what its other rows place
last_one : (u tag : ℕ) (others : Rows) (ts tags : List ℕ) → T (is_none others) ⊎ T (and (not (eqb tag u)) (closing u others))
    → (T (is_none others) → ts ≡ []) → (T (closing u others) → Last u ts) → tags ≡ ts ++ [] → Last u (tag ∷ tags)
last_one u tag others ts tags (inl h) k l p = rw (p, k h) ((λ e. refl), tt)
last_one u tag others ts tags (inr h) k l p =
    let g = and_left (not (eqb tag u)) _ h in
    ((λ e. absurd (other tag u g e)), subst (Last u) (sym (p ∙ append-nil ts)) (l (and_right (not (eqb tag u)) _ h)))

last_row : (u : ℕ) (tag most : ℕ) (others rest : Rows) (ts us : List ℕ)
    → T (and (not (eqb tag u)) (and (lacking u others) (closing u rest))) ⊎ T (and (ltb most 2) (and (is_none rest) (or (is_none others) (and (not (eqb tag u)) (closing u others)))))
    → ((tag ≡ u → ⊥) → T (lacking u others) → Lacks u ts) → (T (closing u rest) → Last u us) → (T (is_none rest) → us ≡ [])
    → (most < 2 → T (or (is_none others) (and (not (eqb tag u)) (closing u others))) → Last u ts) → Last u (ts ++ us)
last_row u tag most others rest ts us (inl h) a b c d =
    let g = and_right (not (eqb tag u)) _ h in
    last_append u ts us (a (other tag u (and_left (not (eqb tag u)) _ h)) (and_left (lacking u others) _ g)) (b (and_right (lacking u others) _ g))
last_row u tag most others rest ts us (inr h) a b c d =
    let g = and_right (ltb most 2) _ h in
    let e : ts ++ us ≡ ts = ap (λ (l : List ℕ). ts ++ l) (c (and_left (is_none rest) _ g)) ∙ append-nil ts in
    subst (Last u) (sym e) (d (ltb-true most 2 (true_T (ltb most 2) (and_left (ltb most 2) _ h))) (and_right (is_none rest) _ g))

mutual
  unfolding closing

  last_rows : (u : ℕ) {rows : Rows} {ts ns : List ℕ} → T (closing u rows) → Placement rows ts ns → Last u ts
  last_rows u h no_rows = tt
  last_rows u h (row_then {tag = tag} {most = most} {others = others} {rest = rest} {n = n} {ts = ts} {us = us} le o t r p q) =
      subst (Last u) (sym p)
      (last_row u tag most others rest ts us (or_elim (and (not (eqb tag u)) (and (lacking u others) (closing u rest))) (and (ltb most 2) (and (is_none rest) (or (is_none others) (and (not (eqb tag u)) (closing u others))))) h)
      (λ g k. lacks_occurrences u g k t) (λ k. last_rows u k r) (λ k. empty k r)
      (λ lt k. last_occurrences u (omega arith) k t))

  last_occurrences : (u : ℕ) {num tag : ℕ} {others : Rows} {n : ℕ} {ts ns : List ℕ} → n < 2 → T (or (is_none others) (and (not (eqb tag u)) (closing u others)))
      → Occurrences num tag others n ts ns → Last u ts
  last_occurrences u lt h no_more = tt
  last_occurrences u {tag = tag} lt h (one_then {others = others} {ts = ts} {tags = tags} f no_more p q) =
      last_one u tag others ts tags (or_elim (is_none others) _ h) (λ k. empty k f) (λ k. last_rows u k f) p
  last_occurrences u lt h (one_then f (one_then g t p q) p2 q2) = absurd (omega arith)

pub closed : (rows : Rows) (u : ℕ) → T (closing u rows) → (ts tail ns : List ℕ) → Placement rows (ts ++ (u ∷ tail)) ns → tail ≡ []
closed rows u h ts tail ns p = last_then u ts tail (last_rows u h p)

-- a message that ends so and begins a message is one
pub closed_placed : (rows : Rows) (u : ℕ) → T (closing u rows) → (ts us : List ℕ) → ts ≡ us ++ (u ∷ []) → Begins rows ts → (ns : List ℕ) × Placement rows ts ns
closed_placed rows u h ts us e b =
    let p : Placement rows (us ++ (u ∷ b.tail)) b.nos =
    subst (λ (l : List ℕ). Placement rows l b.nos) (ap (λ (l : List ℕ). l ++ b.tail) e ∙ append_assoc us (u ∷ []) b.tail) b.placement in
    let z = closed rows u h us b.tail b.nos p in
    (b.nos, subst (λ (l : List ℕ). Placement rows l b.nos) (ap (λ (l : List ℕ). us ++ (u ∷ l)) z ∙ sym e) p)

-- so a message that ends so and has no placement fails at its first misfit
pub closed_fails : (rows : Rows) (u : ℕ) → T (closing u rows) → (ts us : List ℕ) → ts ≡ us ++ (u ∷ []) → (j : ℕ) → FailsAt rows ts j → FirstMisfit rows ts j
closed_fails rows u h ts us e j f = go f.place
  where
    go : FirstMisfit rows ts j ⊎ ((j ≡ length ts) × Begins rows ts) → FirstMisfit rows ts j
    go (inl x) = x
    go (inr y) = let z = closed_placed rows u h ts us e y.1 in absurd (f.unplaced z.0 z.1)

pub closed_misfit : (rows : Rows) → Decided rows → (u : ℕ) → T (closing u rows) → (ts us : List ℕ) → ts ≡ us ++ (u ∷ []) → Unplaced rows ts → (j : ℕ) × FirstMisfit rows ts j
closed_misfit rows f u h ts us e n = go (placed_or_fails rows f ts)
  where
    go : ((ns : List ℕ) × Placement rows ts ns) ⊎ ((j : ℕ) × FailsAt rows ts j) → (j : ℕ) × FirstMisfit rows ts j
    go (inl x) = absurd (n x.0 x.1)
    go (inr y) = (y.0, closed_fails rows u h ts us e y.0 y.1)
