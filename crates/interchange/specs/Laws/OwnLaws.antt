-- A message's own bytes, read by themselves, are its segments in the whole, and are closed exactly if the message is. Assumes nothing.
use Rattle.std.specs.Prelude.{ℕ, suc, ◌+◌, ◌-◌, ◌≤◌, ◌≡◌, List, [], ◌∷◌, ◌++◌, map, Bool, not, length, take, drop, eqb}
use Rattle.std.proofs.Common.{arith, sym, ◌∙◌, ap, ap₂, subst, append_assoc, length-append, length-drop, take-append-drop, length-take-le, take_all, take-add, drop-drop, eq-eqb, eqb-true}
use Rattle.std.proofs.Math.Path.{refl}
use Rattle.std.proofs.Math.Bool.{true, false}
use Rattle.std.proofs.lemmas.Bool.{eqb-false}
use Rattle.service.specs.declared.Service.{Service}
use Rattle.service.specs.Tests.{if, is_empty}
use Rattle.segments.specs.declared.Segment.{Segment}
use Rattle.segments.specs.declared.Segment.TheVariants as segment
use Rattle.segments.specs.Classes.{class_of, is_break}
use Rattle.segments.specs.Forms.Segments.{segment_at}
use Rattle.segments.specs.Laws.SegmentsLaws.{finished_end}
use Rattle.segments.specs.declared.Piece.{Piece}
use Rattle.segments.specs.declared.Piece.TheVariants.{Finished as finished, Unfinished as unfinished}
use Rattle.segments.specs.SegmentList.{gap, mode, ended, emit, pieces, segments_from, segments_after, all_finished}
use Rattle.segments.specs.Sync.{shift}
use Rattle.segments.specs.Laws.ResyncLaws.{gap_start, pieces_append, unbroken, gap_first}
use Rattle.segments.specs.Laws.ClosedLaws.{segments_moved}
use Rattle.segments.specs.Laws.ClearLaws.{upto, Clear, passed, upto_start, from_start}
use Rattle.segments.specs.Laws.ListLaws.{list_finished, list_unfinished, list_nothing, finished_first}
use Rattle.parts.specs.Parts.{Tok, lex, value_of}
use Rattle.parts.proofs.Laws.PartLaws.{tokens_in_part}
use Rattle.values.specs.Text.{text, same_list, says}
use Rattle.interchange.specs.Messages.{tag_at, kind_of, Extent, ends_at, is_closed, bytes_of, extent_by, extent_of, closed_at, ends_closed}
use Rattle.interchange.specs.declared.Kind.{Kind}
use Rattle.interchange.specs.declared.Kind.TheVariants.{Head as head, Trailer as trailer, Last as last, Other as other, Cut as cut}
use Rattle.interchange.specs.Laws.FindLaws.{extent_starts}
use Rattle.interchange.specs.Laws.WalkLaws.{Placed, end, at}

-- the segments of a message after its UNH, among those that follow it
abbrev pub members_by : Kind → Piece → List Piece → List Piece
members_by head p on = []
members_by trailer p on = p ∷ []
members_by last p on = []
members_by other p on = p ∷ on
members_by cut p on = p ∷ on

unfoldable pub members : Service → List ℕ → List Piece → List Piece
members v s [] = []
members v s (p ∷ l) = members_by (kind_of v s p l) p (members v s l)

-- ---- what stands before the same segments
none_before : (x l : List Piece) → x ++ l ≡ l → x ≡ []
none_before [] l e = refl
none_before (p ∷ x) l e = let n = ap length e in let m = length-append x l in absurd (omega arith)

one_before : (x : List Piece) (p : Piece) (l : List Piece) → x ++ l ≡ p ∷ l → x ≡ p ∷ []
one_before [] p l e = let n = ap length e in absurd (omega arith)
one_before (q ∷ x) p l e =
    let a : q ≡ p = cc in
    let b : x ++ l ≡ l = cc in
    ap₂ (λ (y : Piece) (z : List Piece). y ∷ z) a (none_before x l b)

-- ---- a text up to a place where nothing is open, and from there up to another
module _ (v : Service) (s : List ℕ) (i j : ℕ) (c : Clear v s i j) where
  pub split_at : (k : ℕ) → j ≤ k → pieces v gap 0 i (take (k - i) (drop i s)) ≡ pieces v gap 0 i (take (j - i) (drop i s)) ++ pieces v gap 0 j (take (k - j) (drop j s))
  split_at k h =
      let g = c.low in
      let f = c.high in
      let n : k - i ≡ (j - i) + (k - j) = omega arith in
      let o : i + (j - i) ≡ j = omega arith in
      let d : drop (j - i) (drop i s) ≡ drop j s = drop-drop (j - i) i s ∙ ap (λ (x : ℕ). drop x s) o in
      let u = length-drop i s in
      let w : j - i ≤ length (drop i s) = omega arith in
      let y = length-take-le (j - i) (drop i s) w in
      let z : i + length (take (j - i) (drop i s)) ≡ j = omega arith in
      ap (λ (x : ℕ). pieces v gap 0 i (take x (drop i s))) n
      ∙ ap (pieces v gap 0 i) (take-add (j - i) (k - j) (drop i s) ∙ ap (λ (x : List ℕ). take (j - i) (drop i s) ++ take (k - j) x) d)
      ∙ pieces_append v gap 0 i (take (j - i) (drop i s)) (take (k - j) (drop j s)) c.clear
      ∙ ap (λ (x : ℕ). pieces v gap 0 i (take (j - i) (drop i s)) ++ pieces v gap 0 x (take (k - j) (drop j s))) z

  pub split_all : segments_after v s i ≡ pieces v gap 0 i (take (j - i) (drop i s)) ++ segments_after v s j
  split_all =
      let h = c.high in
      let a = length-drop i s in
      let b = length-drop j s in
      let p : length (drop i s) ≤ length s - i = omega arith in
      let q : length (drop j s) ≤ length s - j = omega arith in
      gap_start v i 0 i (drop i s)
      ∙ ap (pieces v gap 0 i) (sym (take_all (length s - i) (drop i s) p))
      ∙ split_at (length s) h
      ∙ ap (λ (x : List ℕ). pieces v gap 0 i (take (j - i) (drop i s)) ++ pieces v gap 0 j x) (take_all (length s - j) (drop j s) q)
      ∙ ap (λ (x : List Piece). pieces v gap 0 i (take (j - i) (drop i s)) ++ x) (gap_start v 0 j j (drop j s))

-- ---- up to where a message ends
-- the text from i up to e has the segments l
pub record Holds (v : Service) (s : List ℕ) (i e : ℕ) (l : List Piece) : Type 0 where
  pub low : i ≤ e
  pub high : e ≤ length s
  pub is : pieces v gap 0 i (take (e - i) (drop i s)) ≡ l

module _ (v : Service) (s : List ℕ) (i c t : ℕ) (l : List Piece) (h : i ≤ length s) (q : segments_after v s i ≡ finished c t ∷ l) where
  -- past the next segment, and up to it
  past_one_lem : Holds v s i (t + 1) (finished c t ∷ [])
  past_one_lem =
      let f = passed v s i c t l h q in
      let w = split_all v s i (t + 1) f.past in
      record {
        low = f.past.low;
        high = f.past.high;
        is =
            one_before (pieces v gap 0 i (take (t + 1 - i) (drop i s))) (finished c t) l
            (ap (λ (x : List Piece). pieces v gap 0 i (take (t + 1 - i) (drop i s)) ++ x) (sym f.rest) ∙ sym w ∙ q);
      }

  up_to : Holds v s i c []
  up_to =
      let f = upto_start v s i c t l h q in
      let w = split_all v s i c f in
      record {
        low = f.low;
        high = f.high;
        is = none_before (pieces v gap 0 i (take (c - i) (drop i s))) (segments_after v s c) (sym w ∙ q ∙ sym (from_start v s i c t l q));
      }

  -- past the next segment and on
  pub past_more : (e : ℕ) (r : List Piece) → Holds v s (t + 1) e r → Holds v s i e (finished c t ∷ r)
  past_more e r w =
      let f = passed v s i c t l h q in
      let x = past_one_lem in
      record {
        low = omega (arith, x.low, w.low);
        high = w.high;
        is = split_at v s i (t + 1) f.past e w.low ∙ ap₂ (λ (y z : List Piece). y ++ z) x.is w.is;
      }

  member_by : (a : ℕ) (m : Extent) (r : List Piece) → Holds v s (t + 1) (ends_at m) r → (k : Kind) → Holds v s i (ends_at (extent_by k (finished c t) a m)) (members_by k (finished c t) r)
  member_by a m r w head = up_to
  member_by a m r w trailer = past_one_lem
  member_by a m r w last = up_to
  member_by a m r w other = past_more (ends_at m) r w
  member_by a m r w cut = past_more (ends_at m) r w

holds_none : (v : Service) (s : List ℕ) (i : ℕ) → i ≤ length s → segments_after v s i ≡ [] → Holds v s i (length s) []
holds_none v s i h q =
    let a = length-drop i s in
    let p : length (drop i s) ≤ length s - i = omega arith in
    record { low = h; high = omega arith; is = ap (pieces v gap 0 i) (take_all (length s - i) (drop i s) p) ∙ gap_start v 0 i i (drop i s) ∙ q }

pub message_holds : (v : Service) (s : List ℕ) {l : List Piece} → Placed v s l → (a i : ℕ) → i ≤ length s → segments_after v s i ≡ l → Holds v s i (ends_at (extent_of v s a l)) (members v s l)
unfolding extent_of members
message_holds v s end a i h q = holds_none v s i h q
message_holds v s (at c t l x y w) a i h q =
    let f = passed v s i c t l h q in
    member_by v s i c t l h q a (extent_of v s a l) (members v s l) (message_holds v s w a (t + 1) f.past.high y) (kind_of v s (finished c t) l)

-- ---- a part of a text, read by itself
-- segments of q, which stands in s from a on: each finished one has the same tokens there
pub data Own (v : Service) (s q : List ℕ) (a : ℕ) : List Piece → Type 0 where
  none : Own v s q a []
  cut_off : (c e : ℕ) → Own v s q a (unfinished c e ∷ [])
  also : (c t : ℕ) (l : List Piece) → lex v false (drop (a + c) s) ≡ lex v false (drop c q) → Own v s q a l → Own v s q a (finished c t ∷ l)

module _ (v : Service) (p q z : List ℕ) where
  part_by : (l : List Piece) → ((n : ℕ) (m : List Piece) → segments_from v q n ≡ m → (x : Piece) → l ≡ x ∷ m → Own v (p ++ q ++ z) q (length p) m)
      → (i : ℕ) → segments_from v q i ≡ l → (k : Segment) → k ≡ segment_at v i q → Own v (p ++ q ++ z) q (length p) l
  part_by l ih i e (segment.Finished t n) c =
      let g : l ≡ finished i t ∷ segments_from v q n = sym e ∙ list_finished v q i (segment.Finished t n) c t n refl in
      let f = finished_end v q i t n c in
      subst (Own v (p ++ q ++ z) q (length p)) (sym g)
      (also i t (segments_from v q n) (tokens_in_part v p q z i t f.0 f.1) (ih n (segments_from v q n) refl (finished i t) g))
  part_by l ih i e segment.Unfinished c = subst (Own v (p ++ q ++ z) q (length p)) (sym (list_unfinished v q i segment.Unfinished c refl) ∙ e) (cut_off i (length q))
  part_by l ih i e segment.Nothing c = subst (Own v (p ++ q ++ z) q (length p)) (sym (list_nothing v q i segment.Nothing c refl) ∙ e) none

  part_own : (l : List Piece) (i : ℕ) → segments_from v q i ≡ l → Own v (p ++ q ++ z) q (length p) l
  part_own [] i e = none
  part_own (y ∷ l) i e =
      part_by (y ∷ l) (λ (n : ℕ) (m : List Piece) f (x : Piece) g. let u : l ≡ m = cc in subst (Own v (p ++ q ++ z) q (length p)) u (part_own l n (f ∙ sym u))) i e (segment_at v i q) refl

-- ---- a message's first byte is no break
no_break : (v : Service) (a b : ℕ) (x : List ℕ) (t : ℕ) (l : List Piece) (k : Bool) → is_break b ≡ k
    → emit (if k false (ended (class_of v b))) a a (pieces v (if k gap (mode (class_of v b))) a (suc a) x) ≡ finished a t ∷ l → not k ≡ true
no_break v a b x t l true q e = let w = (upto v a (suc a) x a t l e).low in absurd (omega arith)
no_break v a b x t l false q e = refl

starts_unbroken : (v : Service) (a : ℕ) (x : List ℕ) (t : ℕ) (l : List Piece) → pieces v gap 0 a x ≡ finished a t ∷ l → unbroken x ≡ true
unfolding pieces
starts_unbroken v a [] t l e = refl
starts_unbroken v a (b ∷ x) t l e = no_break v a b x t l (is_break b) refl e

-- ---- a message
-- the text up to a, the part from a up to e, and the rest
three_parts : (s : List ℕ) (a e : ℕ) → a ≤ e → s ≡ take a s ++ take (e - a) (drop a s) ++ drop e s
three_parts s a e h =
    let n : a + (e - a) ≡ e = omega arith in
    sym
    (append_assoc (take a s) (take (e - a) (drop a s)) (drop e s)
    ∙ ap (λ (x : List ℕ). take a s ++ (take (e - a) (drop a s) ++ x)) (sym (drop-drop (e - a) a s ∙ ap (λ (x : ℕ). drop x s) n))
    ∙ ap (λ (x : List ℕ). take a s ++ x) (take-append-drop (e - a) (drop a s))
    ∙ take-append-drop a s)

module _ (v : Service) (s : List ℕ) (a t : ℕ) (l : List Piece) (h : a ≤ length s) (g : segments_after v s a ≡ finished a t ∷ l) (e : ℕ) (r : List Piece) (w : Holds v s a e (finished a t ∷ r)) where
  pub own_list : map (shift a) (segments_from v (take (e - a) (drop a s)) 0) ≡ finished a t ∷ r
  own_list =
      ap (map (shift a)) (sym (gap_first v 0 0 (take (e - a) (drop a s)) (starts_unbroken v a (take (e - a) (drop a s)) t r w.is)))
      ∙ sym (segments_moved v a (take (e - a) (drop a s)))
      ∙ w.is

  pub own_tokens : Own v s (take (e - a) (drop a s)) a (segments_from v (take (e - a) (drop a s)) 0)
  own_tokens =
      let q : List ℕ = take (e - a) (drop a s) in
      subst (λ (x : ℕ). Own v s q x (segments_from v q 0)) (length-take-le a s h)
      (subst (λ (x : List ℕ). Own v x q (length (take a s)) (segments_from v q 0)) (sym (three_parts s a e w.low))
      (part_own v (take a s) q (drop e s) (segments_from v q 0) 0 refl))

-- none of the part's own segments is unfinished
shift_finished : (k : ℕ) (l : List Piece) → all_finished (map (shift k) l) ≡ all_finished l
unfolding all_finished
shift_finished k [] = refl
shift_finished k (finished a t ∷ l) = shift_finished k l
shift_finished k (unfinished a e ∷ l) = refl

members_by_lem : (k : Kind) (a t : ℕ) (l : List Piece) → all_finished l ≡ true → all_finished (members_by k (finished a t) l) ≡ true
unfolding all_finished
members_by_lem head a t l e = refl
members_by_lem trailer a t l e = refl
members_by_lem last a t l e = refl
members_by_lem other a t l e = e
members_by_lem cut a t l e = e

members_finished : (v : Service) (s : List ℕ) {l : List Piece} → Placed v s l → all_finished (members v s l) ≡ true
unfolding members all_finished
members_finished v s end = refl
members_finished v s (at c t l x y w) = members_by_lem (kind_of v s (finished c t) l) c t (members v s l) (members_finished v s w)

pub message_finished : (v : Service) (s : List ℕ) (a t : ℕ) (l : List Piece) → a ≤ length s → segments_after v s a ≡ finished a t ∷ l → segments_after v s (t + 1) ≡ l → Placed v s l
    → all_finished (segments_from v (bytes_of s (extent_of v s a l)) 0) ≡ true
message_finished v s a t l h g y w =
    let f = passed v s a a t l h g in
    let m = message_holds v s w a (t + 1) f.past.high y in
    let e : ℕ = ends_at (extent_of v s a l) in
    ap (λ (x : ℕ). all_finished (segments_from v (take (e - x) (drop x s)) 0)) (extent_starts v s a l)
    ∙ sym (shift_finished a (segments_from v (take (e - a) (drop a s)) 0))
    ∙ ap all_finished (own_list v s a t l h g e (members v s l) (past_more v s a a t l h g e (members v s l) m))
    ∙ finished_first a t (members v s l) (members_finished v s w)

-- ---- whether it is closed, by its own bytes
module _ (v : Service) (s : List ℕ) (a t i : ℕ) (m : Extent) (r : List Piece) (ih : closed_at v s (ends_at m) r ≡ is_closed m) where
  closed_by_lem : (x y z n : Bool) → says (tag_at v s a) "UNT" ≡ y
      → let k : Kind = if x head (if y trailer (if z (if n last other) other)) in
      closed_at v s (ends_at (extent_by k (finished a t) i m)) (members_by k (finished a t) r) ≡ is_closed (extent_by k (finished a t) i m)
  unfolding closed_at
  closed_by_lem true y z n q = refl
  closed_by_lem false true z n q = rw q (eq-eqb (t + 1) (t + 1) refl)
  closed_by_lem false false true true q = refl
  closed_by_lem false false true false q = rw q ih
  closed_by_lem false false false n q = rw q ih

whole_closed : (v : Service) (s : List ℕ) {l : List Piece} → Placed v s l → (a : ℕ) → closed_at v s (ends_at (extent_of v s a l)) (members v s l) ≡ is_closed (extent_of v s a l)
unfolding extent_of members closed_at
whole_closed v s end a = refl
whole_closed v s (at c t l x y w) a =
    closed_by_lem v s c t a (extent_of v s a l) (members v s l) (whole_closed v s w a) (says (tag_at v s c) "UNH") (says (tag_at v s c) "UNT") (says (tag_at v s c) "UNZ") (is_empty l) refl

eqb_same : (x y x' y' : ℕ) → (x ≡ y → x' ≡ y') → (x' ≡ y' → x ≡ y) → eqb x y ≡ eqb x' y'
eqb_same x y x' y' f g = go (eqb x y) (eqb x' y') refl refl
  where
    go : (b c : Bool) → eqb x y ≡ b → eqb x' y' ≡ c → eqb x y ≡ eqb x' y'
    go true c p q = p ∙ sym (eq-eqb x' y' (f (eqb-true x y p)))
    go false true p q = absurd (eqb-false x y p (g (eqb-true x' y' q)))
    go false false p q = p ∙ sym q

shift_closed : (v : Service) (s q : List ℕ) (a e : ℕ) → e ≡ a + length q → {l : List Piece} → Own v s q a l → closed_at v s e (map (shift a) l) ≡ closed_at v q (length q) l
unfolding closed_at tag_at
shift_closed v s q a e n none = refl
shift_closed v s q a e n (cut_off c u) = refl
shift_closed v s q a e n (also c t l k w) =
    ap (λ (g : List Tok). if (says (value_of g) "UNT") (eqb (a + t + 1) e) (closed_at v s e (map (shift a) l))) k
    ∙ ap₂ (λ (b d : Bool). if (says (tag_at v q c) "UNT") b d) (eqb_same (a + t + 1) e (t + 1) (length q) (λ (o : a + t + 1 ≡ e). omega arith) (λ (o : t + 1 ≡ length q). omega arith))
    (shift_closed v s q a e n w)

first_no : (v : Service) (s : List ℕ) (a t e : ℕ) (l : List Piece) → tag_at v s a ≡ text "UNH" → closed_at v s e (finished a t ∷ l) ≡ closed_at v s e l
unfolding closed_at text same_list
first_no v s a t e l g = ap (λ (x : List ℕ). if (says x "UNT") (eqb (t + 1) e) (closed_at v s e l)) g

-- a message is closed by its own bytes exactly if it is closed where it stands
pub message_closed : (v : Service) (s : List ℕ) (a t : ℕ) (l : List Piece) → a ≤ length s → segments_after v s a ≡ finished a t ∷ l → segments_after v s (t + 1) ≡ l → Placed v s l
    → tag_at v s a ≡ text "UNH" → ends_closed v (bytes_of s (extent_of v s a l)) ≡ is_closed (extent_of v s a l)
message_closed v s a t l h g y w u =
    let f = passed v s a a t l h g in
    let m = message_holds v s w a (t + 1) f.past.high y in
    let e : ℕ = ends_at (extent_of v s a l) in
    let o = past_more v s a a t l h g e (members v s l) m in
    let q : List ℕ = take (e - a) (drop a s) in
    let x = own_list v s a t l h g e (members v s l) o in
    let d = length-drop a s in
    let j : e - a ≤ length (drop a s) = omega (arith, o.high) in
    let k = length-take-le (e - a) (drop a s) j in
    let n : e ≡ a + length q = omega (arith, o.low) in
    ap (λ (i : ℕ). ends_closed v (take (e - i) (drop i s))) (extent_starts v s a l)
    ∙ sym (shift_closed v s q a e n (own_tokens v s a t l h g e (members v s l) o))
    ∙ ap (closed_at v s e) x
    ∙ first_no v s a t e (members v s l) u
    ∙ whole_closed v s w a
