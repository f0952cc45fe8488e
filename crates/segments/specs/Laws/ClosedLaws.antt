-- A text whose segments are all finished leaves nothing open; and the segments of a part of a text. Assumes nothing.
use Rattle.std.specs.Prelude.{ℕ, suc, ◌+◌, ◌≡◌, refl, List, [], ◌∷◌, ◌++◌, map, Bool, true, false, length, T}
use Rattle.std.proofs.Common.{zero-add, add-zero, sym, ◌∙◌, ap, subst}
use Rattle.service.specs.declared.Service.{Service}
use Rattle.service.specs.Tests.{if}
use Rattle.segments.specs.declared.Class.{Class}
use Rattle.segments.specs.declared.Class.TheVariants.{Plain, Comp, Elem, Rel, Term}
use Rattle.segments.specs.Classes.{class_of, is_break}
use Rattle.segments.specs.declared.Piece.{Piece}
use Rattle.segments.specs.SegmentList.{Mode, gap, first, inside, held, mode, after, ends, start_in, emit, left, pieces, all_finished}
use Rattle.segments.specs.Sync.{run, shift}
use Rattle.segments.specs.Laws.ResyncLaws.{gap_start, pieces_append, pieces_shift}

all_emit : (t : Bool) (a b : ℕ) (l : List Piece) → all_finished (emit t a b l) ≡ true → all_finished l ≡ true
unfolding all_finished
all_emit true a b l w = w
all_emit false a b l w = w

-- a mode that is not a segment's first byte
abbrev not_first : Mode → Bool
not_first gap = true
not_first first = false
not_first inside = true
not_first held = true

mode_not : (k : Class) → not_first (mode k) ≡ true
mode_not Plain = refl
mode_not Comp = refl
mode_not Elem = refl
mode_not Rel = refl
mode_not Term = refl

gap_not : (t : Bool) (k : Class) → not_first (if t gap (mode k)) ≡ true
gap_not true k = refl
gap_not false k = mode_not k

after_not : (v : Service) (m : Mode) (b : ℕ) → not_first (after v m b) ≡ true
after_not v gap b = gap_not (is_break b) (class_of v b)
after_not v first b = mode_not (class_of v b)
after_not v inside b = mode_not (class_of v b)
after_not v held b = refl

no_left : (m : Mode) (st i : ℕ) → not_first m ≡ true → all_finished (left m st i) ≡ true → m ≡ gap
unfolding all_finished
no_left gap st i e w = refl
no_left first st i e w = absurd (subst T (sym e) tt)
no_left inside st i e w = absurd (subst T (sym w) tt)
no_left held st i e w = absurd (subst T (sym w) tt)

closed_by_lem : (v : Service) (m : Mode) (st i : ℕ) (a : List ℕ) → not_first m ≡ true → all_finished (pieces v m st i a) ≡ true → run v m a ≡ gap
unfolding pieces run
closed_by_lem v m st i [] e w = no_left m st i e w
closed_by_lem v m st i (b ∷ a) e w = closed_by_lem v (after v m b) (start_in m st i) (suc i) a (after_not v m b) (all_emit (ends v m b) (start_in m st i) i _ w)

pub closed : (v : Service) (st i : ℕ) (a : List ℕ) → all_finished (pieces v gap st i a) ≡ true → run v gap a ≡ gap
closed v st i a w = closed_by_lem v gap st i a refl w

-- a text that stands further on
pub segments_moved : (v : Service) (k : ℕ) (s : List ℕ) → pieces v gap 0 k s ≡ map (shift k) (pieces v gap 0 0 s)
segments_moved v k s = rw (add-zero k) at (gap_start v 0 (k + 0) (k + 0) s) ∙ rw (add-zero k) at (pieces_shift v gap k 0 0 s)

-- two texts, the first of which has no unfinished segment: its segments, and those of the second where it stands
pub segments_append : (v : Service) (a b : List ℕ) → all_finished (pieces v gap 0 0 a) ≡ true → pieces v gap 0 0 (a ++ b) ≡ pieces v gap 0 0 a ++ map (shift (length a)) (pieces v gap 0 0 b)
segments_append v a b w =
    pieces_append v gap 0 0 a b (closed v 0 0 a w)
    ∙ ap (λ (l : List Piece). pieces v gap 0 0 a ++ l) (ap (λ (k : ℕ). pieces v gap 0 k b) (zero-add (length a)) ∙ segments_moved v (length a) b)
