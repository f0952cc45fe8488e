-- The rows of a message one by one: the loop that finds the row after a row, and the rows that are left at a segment. Assumes nothing.
use mathlib.Core.Path.{◌≡◌, refl, sym, ap, ◌∙◌}
use mathlib.Core.Bool.{Bool, true, false}
use mathlib.Core.List.{List, [], ◌∷◌}
use Prim.Native.Nat.{ℕ, zero, suc, ◌+◌, ◌-◌, ◌<◌, ◌≤◌}
use native.Mathlib.Omega.{arith}
use lib.Dec.{ltb, eqb}
use lib.ListN.{length, get_or}
use Rattle.service.specs.declared.Service.{Service}
use Rattle.service.specs.Tests.{if}
use borrow.Author.Tests.{ltb-true, lt-ltb, le-ltb, eq-eqb, ne_eqb}
use Rattle.chart.specs.Forms.Machine.{rows_by}
use Rattle.chart.specs.Forms.Columns.{tag_of, end_of, first_of}
use Rattle.chart.specs.Table.{Table, chart_of}
use Rattle.chart.specs.Forms.Sound.{Sound}
use Rattle.chart.specs.Forms.Next.{next_of, chain_from, find_in, next_row}
use Rattle.chart.specs.declared.Cursor.{Cursor}
use Rattle.chart.specs.Chart.{Placement}
use Rattle.chart.specs.Tags.{tags_from}
use Rattle.chart.specs.Laws.TagsLaws.{tags_past}
use Rattle.chart.specs.Forms.Cursor.{Stepped, Tagged}
use Rattle.chart.specs.Laws.CursorLaws.{passes}
use Rattle.chart.proofs.Guide.{rows_first, rows_next}
use Rattle.chart.proofs.Whole.{placed_rows}

pick_bound : (b : Bool) {x y n : ℕ} → x ≤ n → y ≤ n → if b x y ≤ n
pick_bound true p q = p
pick_bound false p q = q

-- the answer is a row of the table, or past it
first_bound : (t : Table) (r : ℕ) → r < length t → first_of t r ≤ length t
unfolding first_of
first_bound t r h = pick_bound (ltb (r + 1) (end_of t r)) (omega arith) (omega arith)

chain_bound : (t : Table) (f r tag : ℕ) → find_in t (chain_from t f r) tag ≤ length t
unfolding chain_from find_in
chain_bound t zero r tag = omega arith
chain_bound t (suc f) r tag = go (ltb r (length t)) refl (chain_bound t f (next_of t r) tag)
  where
    go : (b : Bool) → ltb r (length t) ≡ b → find_in t (chain_from t f (next_of t r)) tag ≤ length t
        → find_in t (if b (r ∷ chain_from t f (next_of t r)) []) tag ≤ length t
    go true e h = pick_bound (eqb tag (tag_of t r)) (first_bound t r (ltb-true r (length t) e)) h
    go false e h = omega arith

pub next_bound : (t : Table) (p tag : ℕ) → next_row t p tag ≤ length t
unfolding next_row
next_bound t p tag = chain_bound t (length t) p tag

-- THE LOOP OF next_row
chain_row : (t : Table) (left r : ℕ) → 0 < left → r < length t → (k : ℕ) → k ≡ left - 1 → chain_from t left r ≡ r ∷ chain_from t k (next_of t r)
unfolding chain_from
chain_row t zero r h lt k e = absurd (omega arith)
chain_row t (suc f) r h lt k e = let q : k ≡ f = omega arith in rw (lt-ltb r (length t) lt, q)

chain_past : (t : Table) (left r : ℕ) → length t ≤ r → chain_from t left r ≡ []
unfolding chain_from
chain_past t zero r le = refl
chain_past t (suc f) r le = rw (le-ltb r (length t) le)

chain_none : (t : Table) (left r : ℕ) → left ≤ 0 → chain_from t left r ≡ []
unfolding chain_from
chain_none t zero r le = refl
chain_none t (suc f) r le = absurd (omega arith)

module _ (t : Table) (n tag left r : ℕ) (inv : n ≡ find_in t (chain_from t left r) tag) where
  pub find_past : length t ≤ r → length t ≡ n
  unfolding find_in
  find_past le = sym (inv ∙ rw (chain_past t left r le))

  pub find_none : left ≤ 0 → length t ≡ n
  unfolding find_in
  find_none le = sym (inv ∙ rw (chain_none t left r le))

  module _ (h : 0 < left) (lt : r < length t) (x : ℕ) (e : x ≡ tag_of t r) where
    pub find_here : x ≡ tag → (y : ℕ) → y ≡ first_of t r → y ≡ n
    unfolding find_in
    find_here q y f = let c : eqb tag (tag_of t r) ≡ true = eq-eqb _ _ (sym q ∙ e) in f ∙ sym (inv ∙ ap (λ (l : List ℕ). find_in t l tag) (chain_row t left r h lt (left - 1) refl) ∙ rw c)

    pub find_on : (x ≡ tag → ⊥) → (y : ℕ) → y ≡ next_of t r → (k : ℕ) → k ≡ left - 1 → n ≡ find_in t (chain_from t k y) tag
    unfolding find_in
    find_on q y f k g =
        let c : eqb tag (tag_of t r) ≡ false = ne_eqb _ _ (λ p. q (e ∙ sym p)) in
        inv ∙ ap (λ (l : List ℕ). find_in t l tag) (chain_row t left r h lt k g) ∙ rw (c, f)

pub find_start : (t : Table) (p tag : ℕ) → next_row t p tag ≡ find_in t (chain_from t (length t) p) tag
unfolding next_row
find_start t p tag = refl

-- ---- THE ROWS OF A PLACEMENT, one by one: each from the row before it and its tag
pub next_first : (t : Table) → Sound t → (ts ns : List ℕ) → Placement (chart_of t) ts ns → 0 < length ts → get_or ns 0 0 ≡ next_row t 0 (get_or ts 0 0)
next_first t sd ts ns h lt = rw (placed_rows t sd ts ns h) (rows_first (next_row t) 0 ts lt)

pub next_placed : (t : Table) → Sound t → (ts ns : List ℕ) → Placement (chart_of t) ts ns → (k : ℕ) → suc k < length ts → get_or ns (suc k) 0 ≡ next_row t (get_or ns k 0) (get_or ts (suc k) 0)
next_placed t sd ts ns h k lt = rw (placed_rows t sd ts ns h) (rows_next (next_row t) 0 ts k lt)

-- ---- THE ROWS THAT ARE LEFT at a segment, each found from the one before it
pub left_rows : (t : Table) (v : Service) (m : List ℕ) (c r : Cursor) → Stepped v m c r → c.at < length m → Tagged v m c
    → (prev x : ℕ) → x ≡ next_row t prev c.tag → rows_by (next_row t) prev (tags_from v m c.at) ≡ x ∷ rows_by (next_row t) x (tags_from v m r.at)
unfolding rows_by
left_rows t v m c r s h e prev x f = rw ((passes v m c r s h).tags, ← e.tag, ← f)

pub left_none : (t : Table) (v : Service) (m : List ℕ) (c : Cursor) → length m ≤ c.at → (prev : ℕ) → rows_by (next_row t) prev (tags_from v m c.at) ≡ []
unfolding rows_by
left_none t v m c h prev = rw (tags_past v m c.at h)
