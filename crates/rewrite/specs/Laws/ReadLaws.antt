-- Plain bytes read back: the segments are those that were written, with the same values. Assumes nothing.
use Prim.Native.Nat.{ℕ, suc, ◌+◌}
use native.Mathlib.Omega.{arith}
use Rattle.std.specs.Prelude.{◌≡◌, refl, List, [], ◌∷◌, ◌++◌, map, Bool, true, false, drop}
use Rattle.std.proofs.Common.{sym, ◌∙◌, ap, append_assoc, length-append}
use Rattle.std.proofs.Math.ListN.{length}
use Rattle.std.proofs.Math.Seq.{drop-append_seam}
use Rattle.service.specs.declared.Service.{Service}
use Rattle.service.specs.Service.{plain_service}
use Rattle.service.specs.Tests.{if}
use Rattle.segments.specs.declared.Class.TheVariants.{Term}
use Rattle.segments.specs.Classes.{class_of, is_break}
use Rattle.segments.specs.declared.Piece.{Piece}
use Rattle.segments.specs.declared.Piece.TheVariants.{Finished as finished}
use Rattle.segments.specs.SegmentList.{gap, inside, pieces, segments_from}
use Rattle.segments.specs.Laws.ResyncLaws.{gap_start, unbroken, gap_first, gap_inside}
use Rattle.parts.specs.Parts.{Tok, lex, elements}
use Rattle.parts.specs.Written.{Writes, none, as_is, behind, component, element}
use Rattle.parts.proofs.Laws.ReleaseLaws.{writes_lex}
use Rattle.parts.specs.Trimmed.{Values, trimmed, values_in}
use Rattle.rewrite.specs.Plain.{plain_elements, begun, plain_segment, plain}
use Rattle.rewrite.specs.Laws.PrintLaws.{tokens_of, term_plain, writes_segment, tokens_values}

-- ---- bytes that write tokens, and a terminator: one segment
module _ (v : Service) (e : ℕ) (c : class_of v e ≡ Term) (z : List ℕ) where
  pub writes_inside : (t : List Tok) (w : List ℕ) → Writes v t w → (st i n : ℕ) → i + length w ≡ n → pieces v inside st i (w ++ e ∷ z) ≡ finished st n ∷ pieces v gap st (suc n) z
  unfolding pieces
  writes_inside t w none st i n q = let g : i ≡ n = omega arith in rw c (ap (λ (m : ℕ). finished st m ∷ pieces v gap st (suc m) z) g)
  writes_inside t w (as_is b t' w' d x) st i n q = let g : suc i + length w' ≡ n = omega arith in rw d (writes_inside t' w' x st (suc i) n g)
  writes_inside t w (behind r b t' w' d x) st i n q = let g : suc (suc i) + length w' ≡ n = omega arith in rw d (writes_inside t' w' x st (suc (suc i)) n g)
  writes_inside t w (component b t' w' d x) st i n q = let g : suc i + length w' ≡ n = omega arith in rw d (writes_inside t' w' x st (suc i) n g)
  writes_inside t w (element b t' w' d x) st i n q = let g : suc i + length w' ≡ n = omega arith in rw d (writes_inside t' w' x st (suc i) n g)

-- ---- plain bytes begin with none
begun_unbroken : (l z : List ℕ) → unbroken (begun l ++ 39 ∷ z) ≡ true
begun_unbroken [] z = refl
begun_unbroken (b ∷ l) z = go (is_break b) refl
  where
    go : (x : Bool) → is_break b ≡ x → unbroken (if x (63 ∷ b ∷ l) (b ∷ l) ++ 39 ∷ z) ≡ true
    go true q = refl
    go false q = rw q

segment_unbroken : (x : Values) (z : List ℕ) → unbroken (plain_segment x ++ 39 ∷ z) ≡ true
unfolding plain_segment
segment_unbroken x z = begun_unbroken (plain_elements x) z

pub plain_unbroken : (ss : List Values) → unbroken (plain ss) ≡ true
unfolding plain
plain_unbroken [] = refl
plain_unbroken (x ∷ ss) = segment_unbroken x (plain ss)

-- ---- one segment written is one segment read, with the same values
inside_by : (l z : List ℕ) (st i : ℕ) → unbroken (l ++ 39 ∷ z) ≡ true → pieces plain_service gap st i (l ++ 39 ∷ z) ≡ pieces plain_service inside i i (l ++ 39 ∷ z)
inside_by [] z st i q = gap_inside plain_service i st 39 z q
inside_by (b ∷ l) z st i q = gap_inside plain_service i st b (l ++ 39 ∷ z) q

module _ (x : Values) (z : List ℕ) where
  pub segment_pieces : (st i n : ℕ) → i + length (plain_segment x) ≡ n
      → pieces plain_service gap st i (plain_segment x ++ 39 ∷ z) ≡ finished i n ∷ pieces plain_service gap 0 (suc n) z
  segment_pieces st i n q =
      inside_by (plain_segment x) z st i (segment_unbroken x z)
      ∙ writes_inside plain_service 39 term_plain z (tokens_of x) (plain_segment x) (writes_segment x) i i n q
      ∙ ap (λ (l : List Piece). finished i n ∷ l) (gap_start plain_service i 0 (suc n) z)

  pub segment_values : trimmed (elements (lex plain_service false (plain_segment x ++ 39 ∷ z))) ≡ trimmed x
  segment_values =
      ap (λ (t : List Tok). trimmed (elements t)) (writes_lex plain_service 39 z term_plain (tokens_of x) (plain_segment x) (writes_segment x))
      ∙ tokens_values x

-- ---- all segments, where some text stands before
after_one : (p w z : List ℕ) → (p ++ (w ++ 39 ∷ [])) ++ z ≡ p ++ (w ++ 39 ∷ z)
after_one p w z = append_assoc p (w ++ 39 ∷ []) z ∙ ap (λ (l : List ℕ). p ++ l) (append_assoc w (39 ∷ []) z)

length_one : (p w : List ℕ) (n : ℕ) → length p + length w ≡ n → length (p ++ (w ++ 39 ∷ [])) ≡ suc n
length_one p w n q = let a = length-append p (w ++ 39 ∷ []) in let b = length-append w (39 ∷ []) in omega arith

none_read : (s : List ℕ) (i : ℕ) → values_in plain_service s (pieces plain_service gap 0 i []) ≡ []
unfolding values_in pieces
none_read s i = refl

one_read : (s : List ℕ) (a n : ℕ) (l : List Piece) → values_in plain_service s (finished a n ∷ l) ≡ trimmed (elements (lex plain_service false (drop a s))) ∷ values_in plain_service s l
unfolding values_in
one_read s a n l = refl

-- one segment where some text stands before, and the segments behind it, read with that segment in the text before
read_one : (x : Values) (z p : List ℕ) → values_in plain_service (p ++ (plain_segment x ++ 39 ∷ z)) (pieces plain_service gap 0 (length p) (plain_segment x ++ 39 ∷ z))
    ≡ trimmed x ∷ values_in plain_service ((p ++ (plain_segment x ++ 39 ∷ [])) ++ z) (pieces plain_service gap 0 (length (p ++ (plain_segment x ++ 39 ∷ []))) z)
read_one x z p =
    let n : ℕ = length p + length (plain_segment x) in
    let s : List ℕ = p ++ (plain_segment x ++ 39 ∷ z) in
    let p' : List ℕ = p ++ (plain_segment x ++ 39 ∷ []) in
    ap (values_in plain_service s) (segment_pieces x z 0 (length p) n refl)
    ∙ one_read s (length p) n (pieces plain_service gap 0 (suc n) z)
    ∙ ap (λ (y : Values). y ∷ values_in plain_service s (pieces plain_service gap 0 (suc n) z))
    (ap (λ (l : List ℕ). trimmed (elements (lex plain_service false l))) (drop-append_seam p (plain_segment x ++ 39 ∷ z)) ∙ segment_values x z)
    ∙ ap (λ (l : List Values). trimmed x ∷ l)
    (ap (λ (m : ℕ). values_in plain_service s (pieces plain_service gap 0 m z)) (sym (length_one p (plain_segment x) n refl))
    ∙ ap (λ (l : List ℕ). values_in plain_service l (pieces plain_service gap 0 (length p') z)) (sym (after_one p (plain_segment x) z)))

pub read_from : (ss : List Values) (p : List ℕ) → values_in plain_service (p ++ plain ss) (pieces plain_service gap 0 (length p) (plain ss)) ≡ map trimmed ss
unfolding plain
read_from [] p = none_read (p ++ []) (length p)
read_from (x ∷ ss) p = read_one x (plain ss) p ∙ ap (λ (l : List Values). trimmed x ∷ l) (read_from ss (p ++ (plain_segment x ++ 39 ∷ [])))

-- plain bytes read from the first on have the values that were written, trailing empties aside
pub read_back : (ss : List Values) → values_in plain_service (plain ss) (segments_from plain_service (plain ss) 0) ≡ map trimmed ss
read_back ss = ap (values_in plain_service (plain ss)) (sym (gap_first plain_service 0 0 (plain ss) (plain_unbroken ss))) ∙ read_from ss []
