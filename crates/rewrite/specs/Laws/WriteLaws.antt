-- One token more, and one segment more, written into lent room. Assumes nothing.
use Rattle.std.specs.Prelude.{ℕ, ◌+◌, ◌^◌, ◌≤◌, ◌<◌, ◌≡◌, refl, List, [], ◌∷◌, ◌++◌, Bool, true, false, length, drop, replicate}
use Rattle.std.proofs.Common.{arith, ap, sym, ◌∙◌, Fits}
use Rattle.std.specs.Int.{w64}
use Rattle.service.specs.declared.Service.{Service}
use Rattle.segments.specs.SegmentList.{segments_from}
use Rattle.segments.specs.declared.Piece.{Piece}
use Rattle.segments.specs.declared.Piece.TheVariants.{Finished as finished, Unfinished as unfinished}
use Rattle.parts.specs.Parts.{Tok, byte, comp, elem, lex}
use Rattle.parts.proofs.Laws.LexLaws.{tokens_short}
use Rattle.parts.specs.Trimmed.{values_at, values_in, values_from}
use Rattle.rewrite.specs.Plain.{plain_byte, plain_segment, plain}
use Rattle.rewrite.specs.Forms.Flat.{flat, leads, lead}
use Rattle.rewrite.specs.Laws.FlatLaws.{flat_segment}
use Rattle.lent.specs.Forms.Puts.{Puts, Putting}
use Rattle.lent.specs.Laws.PutsLaws.{puts_none, puts_more, puts_same, putting_start, putting_more, putting_done, putting_same}
use Rattle.rewrite.specs.Laws.LengthLaws.{flat_byte, flat_comp, flat_elem, flat_stop, rest_finished, rest_unfinished, rest_nothing}

-- ---- a release before a CR or LF that begins the segment
module _ (v : Service) (s : List ℕ) (i j k : ℕ) (o o' : List ℕ) where
  pub lead_put : (t : Bool) → t ≡ leads (lex v false (drop i s)) → t ≡ true → Puts j (63 ∷ []) o o' k → Puts j (lead (lex v false (drop i s))) o o' k
  lead_put t e f p = rw (← e, f) p

pub lead_none : (v : Service) (s : List ℕ) (i j : ℕ) (o : List ℕ) (t : Bool) → t ≡ leads (lex v false (drop i s)) → t ≡ false → Puts j (lead (lex v false (drop i s))) o o j
lead_none v s i j o t e f = rw (← e, f) (puts_none j o)

-- ---- the values of a segment: what is put from a place on, the separators that wait and the tokens left
pub record Flowing (s : List ℕ) (from : ℕ) (text o o' : List ℕ) (j e c : ℕ) (l : List Tok) : Type 0 where
  pub putting : Putting from text o o' j (flat e c l)
  pub wait : e + c + length l ≤ length s

pub flow_start : (v : Service) (s : List ℕ) (from i : ℕ) (o : List ℕ) → Flowing s from (flat 0 0 (lex v false (drop i s))) o o from 0 0 (lex v false (drop i s))
flow_start v s from i o = let z = tokens_short v s i in record { putting = putting_start from (flat 0 0 (lex v false (drop i s))) o; wait = omega arith }

module _ (s : List ℕ) (from : ℕ) (text o o' : List ℕ) (j e c : ℕ) (l : List Tok) (w : Flowing s from text o o' j e c l) where
  pub flow_byte : (b : ℕ) (t : List Tok) → l ≡ byte b ∷ t → (o1 o2 o3 : List ℕ) (j1 j2 j3 : ℕ) → Puts j (replicate e 43) o' o1 j1 → Puts j1 (replicate c 58) o1 o2 j2
      → Puts j2 (plain_byte b) o2 o3 j3 → Flowing s from text o o3 j3 0 0 t
  flow_byte b t f o1 o2 o3 j1 j2 j3 p1 p2 p3 =
      let r = ap length f in
      let rest : List ℕ = flat 0 0 t in
      let w1 = putting_more from j text o o' (flat e c l) w.putting (replicate e 43) (replicate c 58 ++ (plain_byte b ++ rest)) o1 j1 (flat_byte e c l b t f) p1 in
      let w2 = putting_more from j1 text o o1 (replicate c 58 ++ (plain_byte b ++ rest)) w1 (replicate c 58) (plain_byte b ++ rest) o2 j2 refl p2 in
      record { putting = putting_more from j2 text o o2 (plain_byte b ++ rest) w2 (plain_byte b) rest o3 j3 refl p3; wait = omega (arith, w.wait) }

  pub flow_comp : (t : List Tok) → l ≡ comp ∷ t → Flowing s from text o o' j e (c + 1) t
  flow_comp t f =
      let r = ap length f in
      record { putting = putting_same from j text o o' _ w.putting (flat e (c + 1) t) (flat_comp e c l t f); wait = omega (arith, w.wait) }

  pub flow_elem : (t : List Tok) → l ≡ elem ∷ t → Flowing s from text o o' j (e + 1) 0 t
  flow_elem t f =
      let r = ap length f in
      record { putting = putting_same from j text o o' _ w.putting (flat (e + 1) 0 t) (flat_elem e c l t f); wait = omega (arith, w.wait) }

  pub flow_stop : l ≡ [] → Puts from text o o' j
  flow_stop f = putting_done from j text o o' (flat e c l) w.putting (flat_stop e c l f)

  pub flow_comp_fits : (t : List Tok) → l ≡ comp ∷ t → length s < 2 ^ 64 → Fits w64 (c + 1)
  flow_comp_fits t f h = let r = ap length f in omega (arith, w.wait)

  pub flow_elem_fits : (t : List Tok) → l ≡ elem ∷ t → length s < 2 ^ 64 → Fits w64 (e + 1)
  flow_elem_fits t f h = let r = ap length f in omega (arith, w.wait)

-- ---- a segment
pub segment_put : (v : Service) (s : List ℕ) (i j0 j1 j2 j3 : ℕ) (o0 o1 o2 o3 : List ℕ) → Puts j0 (lead (lex v false (drop i s))) o0 o1 j1
    → Puts j1 (flat 0 0 (lex v false (drop i s))) o1 o2 j2 → Puts j2 (39 ∷ []) o2 o3 j3 → Puts j0 (plain_segment (values_at v s i) ++ 39 ∷ []) o0 o3 j3
segment_put v s i j0 j1 j2 j3 o0 o1 o2 o3 p q r =
    let t = lex v false (drop i s) in
    puts_same j0 j3 ((lead t ++ flat 0 0 t) ++ 39 ∷ []) (plain_segment (values_at v s i) ++ 39 ∷ []) o0 o3 (ap (λ (l : List ℕ). l ++ 39 ∷ []) (flat_segment t))
    (puts_more j0 j2 j3 (lead t ++ flat 0 0 t) (39 ∷ []) o0 o2 o3 (puts_more j0 j1 j2 (lead t) (flat 0 0 t) o0 o1 o2 p q) r)

-- ---- the segments put so far, those of l left
pub segments_start : (v : Service) (s : List ℕ) (i : ℕ) (o : List ℕ) (l : List Piece) → l ≡ segments_from v s i → Putting 0 (plain (values_from v s i)) o o 0 (plain (values_in v s l))
segments_start v s i o l e = putting_same 0 0 (plain (values_from v s i)) o o (plain (values_from v s i)) (putting_start 0 (plain (values_from v s i)) o) (plain (values_in v s l)) (ap (λ (k : List Piece). plain (values_in v s k)) (sym e))

module _ (v : Service) (s : List ℕ) (from : ℕ) (text o o' : List ℕ) (l : List Piece) (j : ℕ) (w : Putting from text o o' j (plain (values_in v s l))) where
  pub segments_nothing : l ≡ [] → Puts from text o o' j
  segments_nothing e = putting_done from j text o o' (plain (values_in v s l)) w (ap (λ (k : List Piece). plain (values_in v s k)) e ∙ rest_nothing v s)

  module _ (a t : ℕ) (k : List Piece) where
    pub segments_unfinished : l ≡ unfinished a t ∷ k → Putting from text o o' j (plain (values_in v s k))
    segments_unfinished e = putting_same from j text o o' (plain (values_in v s l)) w (plain (values_in v s k)) (ap (λ (m : List Piece). plain (values_in v s m)) e ∙ rest_unfinished v s a t k)

    pub segments_put : l ≡ finished a t ∷ k → (o'' : List ℕ) (n : ℕ) → Puts j (plain_segment (values_at v s a) ++ 39 ∷ []) o' o'' n → Putting from text o o'' n (plain (values_in v s k))
    segments_put e o'' n x =
        putting_more from j text o o' (plain (values_in v s l)) w (plain_segment (values_at v s a) ++ 39 ∷ []) (plain (values_in v s k)) o'' n (ap (λ (m : List Piece). plain (values_in v s m)) e ∙ rest_finished v s a t k) x
