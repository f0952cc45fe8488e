-- The loop of put_lists, turn by turn: the totals. Assumes nothing.
use Prim.Native.Nat.{ℕ, zero, suc, ◌+◌, ◌≤◌, ◌<◌}
use native.Mathlib.Decide.{dec_lt}
use native.Mathlib.Omega.{arith}
use mathlib.Core.Path.{◌≡◌, refl, sym, ◌∙◌, ap, subst}
use mathlib.Core.Bool.{Bool, true, false}
use mathlib.Core.List.{List, [], ◌∷◌, map}
use lib.Dec.{eqb}
use lib.ListN.{length, take, drop, set, length-drop}
use borrow.Author.Tests.{eq-eqb, ne_eqb}
use Rattle.service.specs.declared.Service.{Service}
use Rattle.service.specs.Tests.{if}
use Rattle.values.specs.Forms.Values.{amount_of}
use Rattle.lent.specs.Forms.Kept.{Kept}
use Rattle.lent.specs.Laws.KeptLaws.{kept_start, kept_set}
use Rattle.lent.specs.Over.{over}
use Rattle.lent.specs.Forms.Written.{Written}
use Rattle.lent.specs.Laws.OverLaws.{written_start, written_set, written_all}
use Rattle.chart.specs.Forms.Machine.{rows_by}
use Rattle.chart.specs.Laws.CursorLaws.{tail_of, head_of, none_of}
use Rattle.chart.specs.Table.{Table}
use Rattle.chart.specs.Tags.{tag_on, tags_from, tags_of}
use Rattle.segments.specs.SegmentList.{starts_of}
use Rattle.chart.specs.Forms.Next.{next_row, rows_of}
use Rattle.message.specs.Segs.{seg_at, segs_from, segs_of, those, row_of, MOA5}
use Rattle.message.specs.Rules.{worth, amount, totals_of}
use Rattle.listing.specs.Forms.Steps.{total_at, TotalPut, total, other, full}

-- ---- one total
pub total_put : (v : Service) (m : List ℕ) (i r k n x : ℕ) (t : List ℕ) → r ≡ row_of MOA5 → k < n → x ≡ total_at v m i → TotalPut v m i r k n t (set t k x) (k + 1)
total_put v m i r k n x t q h e = subst (λ (y : ℕ). TotalPut v m i r k n t (set t k y) (k + 1)) (sym e) (total q h)

-- ---- the totals of the first n segments that begin at these places, with the row prev before them
unfoldable pub totals_over : Table → Service → List ℕ → ℕ → ℕ → List ℕ → List ℕ
totals_over t v m n prev is = totals_of (segs_from v m 1 (take n (rows_by (next_row t) prev (map (tag_on v m) is))) is)

-- the totals do not depend on the segments' numbers
nth_free : (v : Service) (m : List ℕ) (n k : ℕ) (rs is : List ℕ) → totals_of (segs_from v m n rs is) ≡ totals_of (segs_from v m k rs is)
unfolding segs_from those
nth_free v m n k [] is = refl
nth_free v m n k (r ∷ rs) [] = refl
nth_free v m n k (r ∷ rs) (i ∷ is) = go (eqb r (row_of MOA5)) (nth_free v m (suc n) (suc k) rs is)
  where
    go : (b : Bool) → totals_of (segs_from v m (suc n) rs is) ≡ totals_of (segs_from v m (suc k) rs is)
        → map (λ s. worth (amount_of (amount s))) (if b (seg_at v m n r i ∷ those (λ s. eqb s.row 23) (segs_from v m (suc n) rs is)) (those (λ s. eqb s.row 23) (segs_from v m (suc n) rs is)))
        ≡ map (λ s. worth (amount_of (amount s))) (if b (seg_at v m k r i ∷ those (λ s. eqb s.row 23) (segs_from v m (suc k) rs is)) (those (λ s. eqb s.row 23) (segs_from v m (suc k) rs is)))
    go true ih = ap (λ (l : List ℕ). total_at v m i ∷ l) ih
    go false ih = ih

module _ (t : Table) (v : Service) (m : List ℕ) (prev x i : ℕ) (is : List ℕ) (e : x ≡ next_row t prev (tag_on v m i)) (n : ℕ) where
  free : totals_of (segs_from v m 2 (take n (rows_by (next_row t) x (map (tag_on v m) is))) is) ≡ totals_of (segs_from v m 1 (take n (rows_by (next_row t) x (map (tag_on v m) is))) is)
  free = nth_free v m 2 1 (take n (rows_by (next_row t) x (map (tag_on v m) is))) is

  over_by : (b : Bool) → eqb x (row_of MOA5) ≡ b → totals_over t v m (suc n) prev (i ∷ is) ≡ if b (total_at v m i ∷ totals_over t v m n x is) (totals_over t v m n x is)
  unfolding totals_over segs_from those rows_by
  over_by true q = rw (← e, q) (ap (λ (l : List ℕ). total_at v m i ∷ l) free)
  over_by false q = rw (← e, q) free

  over_total : x ≡ row_of MOA5 → totals_over t v m (suc n) prev (i ∷ is) ≡ total_at v m i ∷ totals_over t v m n x is
  over_total q = over_by true (eq-eqb x (row_of MOA5) q)

  over_other : (x ≡ row_of MOA5 → ⊥) → totals_over t v m (suc n) prev (i ∷ is) ≡ totals_over t v m n x is
  over_other q = over_by false (ne_eqb x (row_of MOA5) q)

-- no segment is left, or none is asked for
over_none : (t : Table) (v : Service) (m : List ℕ) (n prev : ℕ) → totals_over t v m n prev [] ≡ []
unfolding totals_over segs_from those rows_by
over_none t v m zero prev = refl
over_none t v m (suc n) prev = refl

over_zero : (t : Table) (v : Service) (m : List ℕ) (prev : ℕ) (is : List ℕ) → totals_over t v m 0 prev is ≡ []
unfolding totals_over segs_from those
over_zero t v m prev is = refl

-- of the message's first n segments
abbrev pub totals_in : Table → Service → List ℕ → ℕ → List ℕ
totals_in t v m n = totals_of (segs_of v m (take n (rows_of t (tags_of v m))))

over_first : (t : Table) (v : Service) (m : List ℕ) (n : ℕ) → totals_in t v m n ≡ totals_over t v m n 0 (starts_of v m)
unfolding totals_over tags_from
over_first t v m n = refl

pub left_lt : (l : List ℕ) (k x : ℕ) (xs : List ℕ) → drop k l ≡ x ∷ xs → k < length l
left_lt l k x xs e = let n = sym (length-drop k l) ∙ ap length e in omega arith

-- ---- j of at most o totals are listed, `left` segments are left from the places on and row is that of the one before them: the totals were l₀ and are l
pub record Totals (t : Table) (v : Service) (m : List ℕ) (n left o j row : ℕ) (is l₀ l : List ℕ) : Type 0 where
  pub some : j ≤ o
  pub rest : j < o → drop j (totals_in t v m n) ≡ totals_over t v m left row is
  pub totals : Written j (totals_in t v m n) l₀ l
  pub kept : Kept o l₀ l

pub totals_first : (t : Table) (v : Service) (m : List ℕ) (n o : ℕ) (l : List ℕ) → Totals t v m n n o 0 0 (starts_of v m) l l
totals_first t v m n o l = record {
  some = omega arith;
  rest = λ _. over_first t v m n;
  totals = written_start _ l;
  kept = kept_start o l;
}

module _ (t : Table) (v : Service) (m : List ℕ) (n left o j row : ℕ) (l₀ l : List ℕ) (g : o ≤ length l₀) where
  -- one more segment
  pub totals_next : (i : ℕ) (is : List ℕ) → Totals t v m n (suc left) o j row (i ∷ is) l₀ l → (x : ℕ) → x ≡ next_row t row (tag_on v m i) → (l' : List ℕ) (j' : ℕ) → TotalPut v m i x j o l l' j'
      → Totals t v m n left o j' x is l₀ l'
  totals_next i is h x e l' j' (total q lt) =
      let f = h.rest lt ∙ over_total t v m row x i is e left q in
      record {
        some = omega arith;
        rest = λ _. tail_of _ j _ _ f;
        totals = written_set j _ l₀ l h.totals _ (left_lt _ j _ _ f) (omega arith) (sym (head_of _ j _ 0 _ f));
        kept = kept_set o l₀ l h.kept j lt _;
      }
  totals_next i is h x e l' j' (other q) = record {
    some = h.some;
    rest = λ lt. h.rest lt ∙ over_other t v m row x i is e left q;
    totals = h.totals;
    kept = h.kept;
  }
  totals_next i is h x e l' j' (full q) = record {
    some = h.some;
    rest = λ lt. absurd (omega arith);
    totals = h.totals;
    kept = h.kept;
  }

  -- none is left
  module _ (is : List ℕ) (h : Totals t v m n left o j row is l₀ l) where
    totals_none : totals_over t v m left row is ≡ [] → l ≡ over (take o (totals_in t v m n)) l₀
    totals_none e = go (dec_lt j o)
      where
        go : Dec (j < o) → l ≡ over (take o (totals_in t v m n)) l₀
        go (yes lt) = (written_all j _ l₀ l h.totals o h.some (none_of _ j (ap length (h.rest lt ∙ e)))).is
        go (no ge) = let s = h.some in let q : j ≡ o = omega arith in h.totals.is ∙ ap (λ (k : ℕ). over (take k (totals_in t v m n)) l₀) q

    pub totals_end : is ≡ [] → l ≡ over (take o (totals_in t v m n)) l₀
    totals_end e = totals_none (ap (totals_over t v m left row) e ∙ over_none t v m left row)

    pub totals_last : left ≡ 0 → l ≡ over (take o (totals_in t v m n)) l₀
    totals_last e = totals_none (ap (λ (k : ℕ). totals_over t v m k row is) e ∙ over_zero t v m row is)
