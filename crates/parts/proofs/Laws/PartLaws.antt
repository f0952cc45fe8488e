-- A segment read in a part of the text that holds its terminator is read as in the whole: the same tokens, and so the same values. Assumes nothing.
use Rattle.std.specs.Prelude.{ℕ, suc, ◌+◌, ◌≤◌, ◌≡◌, refl, List, [], ◌∷◌, ◌++◌, Bool, true, false, length, drop}
use Rattle.std.proofs.Common.{arith, ◌∙◌, ap}
use Rattle.service.specs.declared.Service.{Service}
use Rattle.segments.specs.declared.Class.{Class}
use Rattle.segments.specs.declared.Class.TheVariants.{Plain, Comp, Elem, Rel, Term}
use Rattle.std.specs.Prelude.{Some}
use Rattle.segments.specs.Classes.{class_of}
use Rattle.segments.specs.Forms.Bytes.{end_by, end_from}
use Rattle.segments.specs.Laws.PartLaws.{part_drop, end_low}
use Rattle.parts.specs.Parts.{Tok, byte, comp, elem, lex, lex_by, value_of}

-- by the next byte: the tokens do not change with what follows the end
ends_by_lem : (v : Service) (i b : ℕ) (l l' : List ℕ) (t : ℕ) (k : Class) → ((q : Bool) → end_from v q (suc i) l ≡ Some t → lex v q (l ++ l') ≡ lex v q l)
    → end_by k i (end_from v true (suc i) l) (end_from v false (suc i) l) ≡ Some t
    → lex_by k b (lex v true (l ++ l')) (lex v false (l ++ l')) ≡ lex_by k b (lex v true l) (lex v false l)
ends_by_lem v i b l l' t Plain ih e = ap (λ (u : List Tok). byte b ∷ u) (ih false e)
ends_by_lem v i b l l' t Comp ih e = ap (λ (u : List Tok). comp ∷ u) (ih false e)
ends_by_lem v i b l l' t Elem ih e = ap (λ (u : List Tok). elem ∷ u) (ih false e)
ends_by_lem v i b l l' t Rel ih e = ih true e
ends_by_lem v i b l l' t Term ih e = refl

pub lex_part : (v : Service) (r : Bool) (i : ℕ) (l l' : List ℕ) (t : ℕ) → end_from v r i l ≡ Some t → lex v r (l ++ l') ≡ lex v r l
unfolding end_from lex
lex_part v r i [] l' t e = absurd (let z : ◌≡◌ {A = ℕ} 0 1 = cc in omega arith)
lex_part v true i (b ∷ l) l' t e = ap (λ (u : List Tok). byte b ∷ u) (lex_part v false (suc i) l l' t e)
lex_part v false i (b ∷ l) l' t e = ends_by_lem v i b l l' t (class_of v b) (λ (q : Bool) w. lex_part v q (suc i) l l' t w) e

-- a part, with what stands before and after it
module _ (v : Service) (p q z : List ℕ) (i t : ℕ) (h : i ≤ length q) (e : end_from v false i (drop i q) ≡ Some t) where
  pub tokens_in_part : lex v false (drop (length p + i) (p ++ q ++ z)) ≡ lex v false (drop i q)
  tokens_in_part = ap (lex v false) (part_drop p q z i h) ∙ lex_part v false i (drop i q) z t e

-- the value that a segment begins with stands before its terminator
short_by : (v : Service) (i b : ℕ) (l : List ℕ) (t : ℕ) (k : Class) → ((q : Bool) → end_from v q (suc i) l ≡ Some t → suc i + length (value_of (lex v q l)) ≤ t)
    → end_by k i (end_from v true (suc i) l) (end_from v false (suc i) l) ≡ Some t → i + length (value_of (lex_by k b (lex v true l) (lex v false l))) ≤ t
unfolding value_of
short_by v i b l t Plain ih e = let w = ih false e in omega arith
short_by v i b l t Comp ih e = let w = end_low v false (suc i) l t e in omega arith
short_by v i b l t Elem ih e = let w = end_low v false (suc i) l t e in omega arith
short_by v i b l t Rel ih e = let w = ih true e in omega arith
short_by v i b l t Term ih e = let w : i ≡ t = cc in omega arith

pub value_short : (v : Service) (r : Bool) (i : ℕ) (l : List ℕ) (t : ℕ) → end_from v r i l ≡ Some t → i + length (value_of (lex v r l)) ≤ t
unfolding end_from lex value_of
value_short v r i [] t e = absurd (let z : ◌≡◌ {A = ℕ} 0 1 = cc in omega arith)
value_short v true i (b ∷ l) t e = let w = value_short v false (suc i) l t e in omega arith
value_short v false i (b ∷ l) t e = short_by v i b l t (class_of v b) (λ (q : Bool) w. value_short v q (suc i) l t w) e
