-- The placed segments that are left, by the cursor at the first of them. Assumes nothing.
use Prim.Native.Nat.{ℕ, suc, ◌+◌, ◌^◌, ◌≤◌, ◌<◌}
use Rattle.std.proofs.Common.{arith, ◌∙◌, Fits}
use Rattle.std.proofs.Math.Numerals.{add-one}
use Rattle.std.specs.Prelude.{◌≡◌, refl, List, [], ◌∷◌, length}
use Rattle.std.specs.Int.{w64}
use Rattle.service.specs.declared.Service.{Service}
use Rattle.chart.specs.declared.Cursor.{Cursor}
use Rattle.chart.specs.Forms.Cursor.{CursorIs, Stepped, Tagged}
use Rattle.chart.specs.Laws.CursorLaws.{passes, tagged_next}
use Rattle.chart.specs.Forms.Next.{next_row}
use Rattle.chart.specs.Table.{Table}
use Rattle.chart.proofs.Stream.{left_rows, left_none}
use Rattle.message.specs.Segs.{seg_at, segs_from}
use Rattle.message.specs.Placed.{placed_on}
use Rattle.message.specs.Forms.Left.{segs_after}

module _ (t : Table) (v : Service) (m : List ℕ) (c : Cursor) where
  pub left_first : CursorIs v m 0 c → segs_after t v m 1 0 c.at ≡ placed_on t v m
  unfolding segs_after
  left_first h = let e : c.at ≡ 0 = h.at in rw e refl

  pub left_end : (n row : ℕ) → length m ≤ c.at → segs_after t v m n row c.at ≡ []
  unfolding segs_after segs_from
  left_end n row h = rw (left_none t v m c h row) refl

  module _ (h : c.at < length m) (k : ℕ) (i : k ≤ c.at) where
    pub nth_fits : length m < 2 ^ 64 → Fits w64 (k + 1)
    nth_fits g = omega arith

    module _ (d : Cursor) (s : Stepped v m c d) where
      pub few_on : (n : ℕ) → n ≡ k + 1 → n ≤ d.at
      few_on n q = let w = s.onward.further h in omega arith

      pub left_next : Tagged v m c → (n : ℕ) → n ≡ k + 1 → (row x : ℕ) → x ≡ next_row t row c.tag → segs_after t v m (suc k) row c.at ≡ seg_at v m n x c.at ∷ segs_after t v m (suc n) x d.at
      unfolding segs_after segs_from
      left_next g n q row x e = let y : n ≡ suc k = q ∙ add-one k in rw (left_rows t v m c d s h g row x e, (passes v m c d s h).starts, y) refl

-- a step goes on where the cursor is tagged
pub tagged_on : (v : Service) (m : List ℕ) (c d : Cursor) → Tagged v m c → Stepped v m c d → Tagged v m d
tagged_on v m c d g s = tagged_next v m c d g s
