-- LIN and SEQ tags are counted as their rows are: on each chart each of them has one row that takes its tag. Assumes nothing.
use Prim.Native.Nat.{ℕ, zero, suc, ◌<◌}
use Rattle.std.proofs.Common.{arith, ◌∙◌, inr, eqb-true, ltb-true}
use Rattle.std.specs.Prelude.{◌≡◌, ◌⊎◌, Bool, T}
use Rattle.std.proofs.Math.Path.{refl, sym, ap}
use Rattle.std.proofs.Math.Logic.{inl}
use mathlib.Core.List.{List, [], ◌∷◌, map}
use Rattle.std.proofs.Math.Bool.{true, false}
use Rattle.std.proofs.Math.ListN.{length, get_or}
use Rattle.std.proofs.Math.Dec.{eqb, ltb}
use Rattle.service.specs.declared.Service.{Service}
use Rattle.service.specs.Tests.{if, alike}
use Rattle.chart.specs.Forms.Machine.{rows_by}
use Rattle.table.specs.Entries.{lines_from, within, text}
use Rattle.chart.specs.Forms.Columns.{tag_of, first_of}
use Rattle.chart.specs.Chart.{Placement}
use Rattle.values.specs.Forms.Codes.{LIN, SEQ}
use Rattle.chart.specs.Forms.Next.{next_of, chain_from, find_in, next_row, rows_of}
use Rattle.segments.specs.SegmentList.{starts_of}
use Rattle.chart.specs.Tags.{tags_of}
use Rattle.chart.specs.Laws.TagsLaws.{same_count}
use Rattle.chart.specs.Table.{Table, chart_of}
use Rattle.kinds.specs.declared.Kind.{Kind}
use Rattle.kinds.specs.declared.Kind.TheVariants.{Paymul, Debmul}
use Rattle.kinds.specs.Kinds.{table_of}
use Rattle.paymul.specs.Table as paymul
use Rattle.paymul.specs.Table.{PAYMUL}
use Rattle.debmul.specs.Table as debmul
use Rattle.debmul.specs.Table.{DEBMUL}
use Rattle.chart.proofs.Guide.{rows_length}
use Rattle.chart.specs.Forms.Sound.{Sound, all_to}
use Rattle.chart.proofs.Nest.{alike_eq, at_each}
use Rattle.chart.proofs.Tables.{sound}
use Rattle.chart.proofs.Whole.{placed_tags}
use Rattle.message.specs.Segs.{seg_at, segs_from, segs_of, those}
use Rattle.message.specs.Rules.{count}
use Rattle.message.specs.Kinds.{chart_for, order_count, payment_count}

-- how often a number stands in a list
unfoldable pub times : ℕ → List ℕ → ℕ
times n [] = 0
times n (x ∷ l) = if (eqb x n) (suc (times n l)) (times n l)

-- the segments of a row are as many as the row comes
pub segs_times : (w : ℕ) (v : Service) (m : List ℕ) (n : ℕ) (rs is : List ℕ) → length rs ≡ length is → count (λ s. eqb s.row w) (segs_from v m n rs is) ≡ times w rs
unfolding segs_from those times
segs_times w v m n [] is e = refl
segs_times w v m n (r ∷ rs) [] e = absurd (omega arith)
segs_times w v m n (r ∷ rs) (i ∷ is) e = go (eqb r w) refl (segs_times w v m (suc n) rs is (omega arith))
  where
    go : (b : Bool) → eqb r w ≡ b → count (λ s. eqb s.row w) (segs_from v m (suc n) rs is) ≡ times w rs
        → length (if b (seg_at v m n r i ∷ those (λ s. eqb s.row w) (segs_from v m (suc n) rs is)) (those (λ s. eqb s.row w) (segs_from v m (suc n) rs is))) ≡ if b (suc (times w rs)) (times w rs)
    go true q ih = ap suc ih
    go false q ih = ih

-- a group or segment of the tag g begins with the row w, and no other does: on the table t
abbrev Only : Table → ℕ → ℕ → Type 0
Only t w g = T (all_to (length t) (λ r. alike (eqb (first_of t r) w) (eqb (tag_of t r) g)))

module _ (t : Table) (so : Sound t) (w g : ℕ) (test : Only t w g) (row : eqb (length t) w ≡ false) (tag : eqb (tag_of t (length t)) g ≡ false) where
  found_by_lem : (f r a : ℕ) → r < length t → (b : Bool) → eqb a (tag_of t r) ≡ b → (x : ℕ) → (x ≡ length t) ⊎ (eqb x w ≡ eqb a g) → (if b (first_of t r) x ≡ length t) ⊎ (eqb (if b (first_of t r) x) w ≡ eqb a g)
  found_by_lem f r a lt true e x h =
      let q = eqb-true a (tag_of t r) e in
      inr (alike_eq _ _ (at_each (length t) (λ r. alike (eqb (first_of t r) w) (eqb (tag_of t r) g)) test r (omega arith)) ∙ ap (λ (y : ℕ). eqb y g) (sym q))
  found_by_lem f r a lt false e x h = h

  found_in_lem : (f r a : ℕ) → (find_in t (chain_from t f r) a ≡ length t) ⊎ (eqb (find_in t (chain_from t f r) a) w ≡ eqb a g)
  unfolding chain_from find_in
  found_in_lem zero r a = inl refl
  found_in_lem (suc f) r a = go (ltb r (length t)) refl (found_in_lem f (next_of t r) a)
    where
      go : (b : Bool) → ltb r (length t) ≡ b → (find_in t (chain_from t f (next_of t r)) a ≡ length t) ⊎ (eqb (find_in t (chain_from t f (next_of t r)) a) w ≡ eqb a g)
          → (find_in t (if b (r ∷ chain_from t f (next_of t r)) []) a ≡ length t) ⊎ (eqb (find_in t (if b (r ∷ chain_from t f (next_of t r)) []) a) w ≡ eqb a g)
      go true e h = found_by_lem f r a (ltb-true r (length t) e) (eqb a (tag_of t r)) refl (find_in t (chain_from t f (next_of t r)) a) h
      go false e h = inl refl

  -- the row of a segment whose row has its tag
  row_tag : (p a : ℕ) → tag_of t (next_row t p a) ≡ a → eqb (next_row t p a) w ≡ eqb a g
  unfolding next_row
  row_tag p a e = go (found_in_lem (length t) p a)
    where
      go : (next_row t p a ≡ length t) ⊎ (eqb (next_row t p a) w ≡ eqb a g) → eqb (next_row t p a) w ≡ eqb a g
      go (inl h) = let z : tag_of t (length t) ≡ a = ap (tag_of t) (sym h) ∙ e in ap (λ (x : ℕ). eqb x w) h ∙ row ∙ sym tag ∙ ap (λ (x : ℕ). eqb x g) z
      go (inr h) = h

  rows_times : (p : ℕ) (ts : List ℕ) → map (tag_of t) (rows_by (next_row t) p ts) ≡ ts → times w (rows_by (next_row t) p ts) ≡ times g ts
  unfolding times rows_by
  rows_times p [] e = refl
  rows_times p (a ∷ ts) e =
      let h : tag_of t (next_row t p a) ≡ a = ap (λ (l : List ℕ). get_or l 0 0) e in
      let i : map (tag_of t) (rows_by (next_row t) (next_row t p a) ts) ≡ ts = ap (λ (l : List ℕ). tail l) e in
      rw (row_tag p a h, rows_times (next_row t p a) ts i)
    where
      tail : List ℕ → List ℕ
      tail [] = []
      tail (x ∷ l) = l

  pub tags_times : (v : Service) (m : List ℕ) → Placement (chart_of t) (tags_of v m) (rows_of t (tags_of v m)) → count (λ s. eqb s.row w) (segs_of v m (rows_of t (tags_of v m))) ≡ times g (tags_of v m)
  tags_times v m h =
      segs_times w v m 1 (rows_of t (tags_of v m)) (starts_of v m) (rows_length (next_row t) 0 (tags_of v m) ∙ sym (same_count v m 0))
      ∙ rows_times 0 (tags_of v m) (placed_tags t so (tags_of v m) (rows_of t (tags_of v m)) h)

-- THE COMPUTED TESTS
paymul_lins : Only PAYMUL 17 LIN
unfolding all_to first_of PAYMUL paymul.table lines_from within text
paymul_lins = tt

paymul_seqs : Only PAYMUL 50 SEQ
unfolding all_to first_of PAYMUL paymul.table lines_from within text
paymul_seqs = tt

debmul_lins : Only DEBMUL 17 LIN
unfolding all_to first_of DEBMUL debmul.table lines_from within text
debmul_lins = tt

debmul_seqs : Only DEBMUL 43 SEQ
unfolding all_to first_of DEBMUL debmul.table lines_from within text
debmul_seqs = tt

-- ---- of every kind
pub rows_few : (k : Kind) → length (table_of k) < 65536
unfolding PAYMUL paymul.table DEBMUL debmul.table lines_from
rows_few Paymul = omega arith
rows_few Debmul = omega arith

module _ (v : Service) (m : List ℕ) where
  pub lin_tags : (k : Kind) → Placement (chart_for k) (tags_of v m) (rows_of (table_of k) (tags_of v m)) → order_count k (segs_of v m (rows_of (table_of k) (tags_of v m))) ≡ times LIN (tags_of v m)
  unfolding PAYMUL paymul.table DEBMUL debmul.table lines_from
  lin_tags Paymul = tags_times PAYMUL (sound Paymul) 17 LIN paymul_lins refl refl v m
  lin_tags Debmul = tags_times DEBMUL (sound Debmul) 17 LIN debmul_lins refl refl v m

  pub seq_tags : (k : Kind) → Placement (chart_for k) (tags_of v m) (rows_of (table_of k) (tags_of v m)) → payment_count k (segs_of v m (rows_of (table_of k) (tags_of v m))) ≡ times SEQ (tags_of v m)
  unfolding PAYMUL paymul.table DEBMUL debmul.table lines_from
  seq_tags Paymul = tags_times PAYMUL (sound Paymul) 50 SEQ paymul_seqs refl refl v m
  seq_tags Debmul = tags_times DEBMUL (sound Debmul) 43 SEQ debmul_seqs refl refl v m
