-- A terminator with no release just before it ends a segment, whatever stands before: the segments of a text are those up to it, then those after it. Assumes nothing.
use Rattle.std.specs.Prelude.{ℕ, suc, ◌+◌, ◌-◌, ◌≤◌, ◌<◌, ◌≡◌, refl, List, [], ◌∷◌, ◌++◌, Bool, true, false, length, get_or, take, drop}
use Rattle.std.proofs.Common.{arith, sym, ◌∙◌, ap, length-drop, take-append-drop, take-suc, get_or-drop, drop-drop, length-take-le}
use Rattle.service.specs.declared.Service.{Service}
use Rattle.segments.specs.declared.Class.{Class}
use Rattle.segments.specs.declared.Class.TheVariants.{Plain, Comp, Elem, Rel, Term}
use Rattle.service.specs.Tests.{if}
use Rattle.segments.specs.Classes.{class_of, is_break}
use Rattle.segments.specs.Forms.Bytes.{past_breaks}
use Rattle.segments.specs.declared.Piece.{Piece}
use Rattle.segments.specs.SegmentList.{Mode, gap, first, inside, held, mode, after, pieces, segments_from}
use Rattle.segments.specs.Sync.{run}
use Rattle.segments.specs.Laws.BytesLaws.{class_term, rel_of}
use Rattle.segments.specs.Laws.ResyncLaws.{run_append, pieces_append}
use Rattle.segments.specs.Laws.SyncLaws.{rest_skip}

-- ---- one byte
mode_held : (k : Class) → mode k ≡ held → k ≡ Rel
mode_held Plain e = absurd (let z : ◌≡◌ {A = ℕ} 0 1 = cc in omega arith)
mode_held Comp e = absurd (let z : ◌≡◌ {A = ℕ} 0 1 = cc in omega arith)
mode_held Elem e = absurd (let z : ◌≡◌ {A = ℕ} 0 1 = cc in omega arith)
mode_held Rel e = refl
mode_held Term e = absurd (let z : ◌≡◌ {A = ℕ} 0 1 = cc in omega arith)

gap_held : (t : Bool) (k : Class) → if t gap (mode k) ≡ held → k ≡ Rel
gap_held true k e = absurd (let z : ◌≡◌ {A = ℕ} 0 1 = cc in omega arith)
gap_held false k e = mode_held k e

-- only a release releases the next byte
after_held : (v : Service) (m : Mode) (b : ℕ) → after v m b ≡ held → b ≡ v.release
after_held v gap b e = rel_of v b (gap_held (is_break b) (class_of v b) e)
after_held v first b e = rel_of v b (mode_held (class_of v b) e)
after_held v inside b e = rel_of v b (mode_held (class_of v b) e)
after_held v held b e = absurd (let z : ◌≡◌ {A = ℕ} 0 1 = cc in omega arith)

gap_either : (t : Bool) → if t gap gap ≡ gap
gap_either true = refl
gap_either false = refl

-- a terminator that is not released leaves nothing open
after_term : (v : Service) (m : Mode) (c : ℕ) → c ≡ v.terminator → (m ≡ held → ⊥) → after v m c ≡ gap
after_term v gap c e n = rw (← class_term v c e) (gap_either (is_break c))
after_term v first c e n = rw (← class_term v c e) refl
after_term v inside c e n = rw (← class_term v c e) refl
after_term v held c e n = absurd (n refl)

-- ---- a text that ends with such a terminator
ends_run : (v : Service) (m : Mode) (x : List ℕ) (b c : ℕ) → (b ≡ v.release → ⊥) → c ≡ v.terminator → run v m ((x ++ (b ∷ [])) ++ (c ∷ [])) ≡ gap
unfolding run
ends_run v m x b c n e =
    run_append v m (x ++ (b ∷ [])) (c ∷ [])
    ∙ after_term v (run v m (x ++ (b ∷ []))) c e (λ q. n (after_held v (run v m x) b (sym (run_append v m x (b ∷ [])) ∙ q)))

-- ---- at a position of a text: the terminator stands at i, and the segment after it begins at n
module _ (v : Service) (s : List ℕ) (at i : ℕ) (h : at < i) (g : i < length s) (t : get_or s i 0 ≡ v.terminator) (r : get_or s (i - 1) 0 ≡ v.release → ⊥) where
  -- the bytes up to and with the terminator
  front_is : take (suc (suc (i - 1 - at))) (drop at s) ≡ (take (i - 1 - at) (drop at s) ++ (get_or s (i - 1) 0 ∷ [])) ++ (get_or s i 0 ∷ [])
  front_is =
      let d = length-drop at s in
      let a : i - 1 - at < length (drop at s) = omega arith in
      let b : suc (i - 1 - at) < length (drop at s) = omega arith in
      let m : at + (i - 1 - at) ≡ i - 1 = omega arith in
      let n : at + suc (i - 1 - at) ≡ i = omega arith in
      take-suc (drop at s) (suc (i - 1 - at)) 0 b
      ∙ rw (take-suc (drop at s) (i - 1 - at) 0 a, get_or-drop at s (i - 1 - at) 0, get_or-drop at s (suc (i - 1 - at)) 0, m, n) refl

  pub segments_split : (n : ℕ) → n ≡ past_breaks (i + 1) (drop (i + 1) s) → (l : List Piece) × (segments_from v s at ≡ l ++ segments_from v s n)
  segments_split n e =
      let k = suc (suc (i - 1 - at)) in
      let x = take k (drop at s) in
      let d = length-drop at s in
      let a : k ≤ length (drop at s) = omega arith in
      let m : at + k ≡ i + 1 = omega arith in
      let w : run v first x ≡ gap = ap (run v first) front_is ∙ ends_run v first (take (i - 1 - at) (drop at s)) (get_or s (i - 1) 0) (get_or s i 0) r t in (
        pieces v first at at x,
        ap (pieces v first at at) (sym (take-append-drop k (drop at s)))
            ∙ pieces_append v first at at x (drop k (drop at s)) w
            ∙ ap (λ (z : List Piece). pieces v first at at x ++ z)
            (rw (length-take-le k (drop at s) a, drop-drop k at s, m) (rest_skip v s (i + 1) n e)),
      )
