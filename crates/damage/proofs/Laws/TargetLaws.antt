-- Where a closed message stands among the segments. Assumes nothing.
use Rattle.std.specs.Prelude.{ℕ, ◌+◌, Bool}
use Rattle.std.proofs.Common.{arith, sym, ◌∙◌, subst}
use Rattle.std.proofs.Math.Path.{◌≡◌, refl, ap, ap₂}
use mathlib.Core.List.{List, [], ◌∷◌, ◌++◌}
use Rattle.std.proofs.Math.Bool.{true, false}
use Rattle.std.proofs.Math.Dec.{T}
use Rattle.service.specs.declared.Service.{Service}
use Rattle.service.specs.Tests.{if, is_empty, last_of}
use Rattle.segments.specs.declared.Piece.{Piece}
use Rattle.segments.specs.declared.Piece.TheVariants.{Finished as finished, Unfinished as unfinished}
use Rattle.segments.specs.SegmentList.{all_finished}
use Rattle.values.specs.Text.{text, same_list, says}
use Rattle.values.specs.Laws.TextLaws.{same_eq}
use Rattle.interchange.specs.Messages.{tag_at, start_of, kind_by, kind_of, Extent, closed, starts_at, extent_by, extent_of, messages_by, messages_of}
use Rattle.interchange.specs.declared.Kind.{Kind}
use Rattle.interchange.specs.declared.Kind.TheVariants.{Head as head, Trailer as trailer, Last as last, Other as other, Cut as cut}
use Rattle.interchange.specs.Laws.FindLaws.{extent_starts}
use Rattle.interchange.specs.Laws.KindLaws.{head_tag}
use Rattle.interchange.specs.Laws.EndedLaws.{Tidy, nil, one, more}
use Rattle.damage.specs.Damage.{last_closed, Before, here, later}
use Rattle.damage.proofs.Laws.DamageLaws.{beginning}
use Rattle.damage.proofs.Laws.BeforeLaws.{stands}

-- ---- a kind says the tag
trailer_by : (g : List ℕ) (t u x e : Bool) → says g "UNT" ≡ u → if t head (if u trailer (if x (if e last other) other)) ≡ trailer → g ≡ text "UNT"
trailer_by g true u x e p q = absurd (let z : ◌≡◌ {A = ℕ} 0 1 = cc in omega arith)
trailer_by g false true x e p q = same_eq g (text "UNT") p
trailer_by g false false true true p q = absurd (let z : ◌≡◌ {A = ℕ} 0 1 = cc in omega arith)
trailer_by g false false true false p q = absurd (let z : ◌≡◌ {A = ℕ} 0 1 = cc in omega arith)
trailer_by g false false false e p q = absurd (let z : ◌≡◌ {A = ℕ} 0 1 = cc in omega arith)

trailer_tag : (g : List ℕ) (e : Bool) → kind_by g e ≡ trailer → g ≡ text "UNT"
trailer_tag g e q = trailer_by g (says g "UNH") (says g "UNT") (says g "UNZ") e refl q

-- ---- the UNH of a closed message, and what stands before and after it
pub record Split (v : Service) (s : List ℕ) (l : List Piece) (before : List Extent) (a e : ℕ) (after : List Extent) : Type 0 where
  pub front : List Piece
  pub term : ℕ
  pub back : List Piece
  pub is : l ≡ front ++ (finished a term ∷ back)
  pub tag : tag_at v s a ≡ text "UNH"
  pub begins : beginning v s front (finished a term ∷ back) ≡ before
  pub extent : extent_of v s a back ≡ closed a e
  pub rest : messages_of v s back ≡ after

module _ (v : Service) (s : List ℕ) (a e : ℕ) (after : List Extent) where
  split_on : (p : Piece) (l : List Piece) (k : Kind) → kind_of v s p l ≡ k → (before : List Extent) → Split v s l before a e after
      → Split v s (p ∷ l) (messages_by k (extent_of v s (start_of p) l) before) a e after
  unfolding beginning
  split_on p l k h before w = record {
    front = p ∷ w.front;
    term = w.term;
    back = w.back;
    is = ap (λ (x : List Piece). p ∷ x) w.is;
    tag = w.tag;
    begins =
        ap (λ (x : List Piece). messages_by (kind_of v s p x) (extent_of v s (start_of p) x) (beginning v s w.front (finished a w.term ∷ w.back))) (sym w.is)
        ∙ ap₂ (λ (x : Kind) (y : List Extent). messages_by x (extent_of v s (start_of p) l) y) h w.begins;
    extent = w.extent;
    rest = w.rest;
  }

  split_here : (c t : ℕ) (l : List Piece) → kind_of v s (finished c t) l ≡ head → extent_of v s c l ≡ closed a e → messages_of v s l ≡ after → Split v s (finished c t ∷ l) [] a e after
  unfolding beginning
  split_here c t l h x r =
      let w : a ≡ c = ap starts_at (sym x) ∙ extent_starts v s c l in
      record {
        front = [];
        term = t;
        back = l;
        is = ap (λ (i : ℕ). finished i t ∷ l) (sym w);
        tag = ap (tag_at v s) w ∙ head_tag (tag_at v s c) (is_empty l) h;
        begins = refl;
        extent = ap (λ (i : ℕ). extent_of v s i l) w ∙ x;
        rest = r;
      }

  split_head : (p : Piece) (l : List Piece) → ((b : List Extent) → messages_of v s l ≡ b ++ (closed a e ∷ after) → Split v s l b a e after) → kind_of v s p l ≡ head
      → (before : List Extent) → extent_of v s (start_of p) l ∷ messages_of v s l ≡ before ++ (closed a e ∷ after) → Split v s (p ∷ l) before a e after
  split_head (finished c t) l ih h [] q =
      let x : extent_of v s c l ≡ closed a e = cc in
      let r : messages_of v s l ≡ after = cc in
      split_here c t l h x r
  split_head (finished c t) l ih h (m ∷ b) q =
      let x : extent_of v s c l ≡ m = cc in
      let r : messages_of v s l ≡ b ++ (closed a e ∷ after) = cc in
      subst (λ (y : Extent). Split v s (finished c t ∷ l) (y ∷ b) a e after) x (split_on (finished c t) l head h b (ih b r))
  split_head (unfinished c u) l ih h before q = absurd (let z : ◌≡◌ {A = ℕ} 0 1 = cc in omega arith)

  split_by : (p : Piece) (l : List Piece) → ((b : List Extent) → messages_of v s l ≡ b ++ (closed a e ∷ after) → Split v s l b a e after) → (before : List Extent) (k : Kind) → kind_of v s p l ≡ k
      → messages_by k (extent_of v s (start_of p) l) (messages_of v s l) ≡ before ++ (closed a e ∷ after) → Split v s (p ∷ l) before a e after
  split_by p l ih before head h q = split_head p l ih h before q
  split_by p l ih before trailer h q = split_on p l trailer h before (ih before q)
  split_by p l ih before last h q = split_on p l last h before (ih before q)
  split_by p l ih before other h q = split_on p l other h before (ih before q)
  split_by p l ih before cut h q = split_on p l cut h before (ih before q)

  no_message : (before : List Extent) → [] ≡ before ++ (closed a e ∷ after) → ⊥
  no_message [] q = let z : ◌≡◌ {A = ℕ} 0 1 = cc in omega arith
  no_message (m ∷ b) q = let z : ◌≡◌ {A = ℕ} 0 1 = cc in omega arith

  pub split : (l : List Piece) (before : List Extent) → messages_of v s l ≡ before ++ (closed a e ∷ after) → Split v s l before a e after
  unfolding messages_of
  split [] before q = absurd (no_message before q)
  split (p ∷ l) before q = split_by p l (λ (b : List Extent) h. split l b h) before (kind_of v s p l) refl q

-- ---- the UNT of a closed message
pub record Ending (v : Service) (s : List ℕ) (l : List Piece) (e : ℕ) : Type 0 where
  pub mid : List Piece
  pub start : ℕ
  pub term : ℕ
  pub rest : List Piece
  pub is : l ≡ mid ++ (finished start term ∷ rest)
  pub ends : term + 1 ≡ e
  pub tag : tag_at v s start ≡ text "UNT"
  pub same : messages_of v s l ≡ messages_of v s rest

module _ (v : Service) (s : List ℕ) (a e : ℕ) where
  ending_on : (p : Piece) (l : List Piece) → messages_of v s (p ∷ l) ≡ messages_of v s l → Ending v s l e → Ending v s (p ∷ l) e
  ending_on p l h w = record {
    mid = p ∷ w.mid;
    start = w.start;
    term = w.term;
    rest = w.rest;
    is = ap (λ (x : List Piece). p ∷ x) w.is;
    ends = w.ends;
    tag = w.tag;
    same = h ∙ w.same;
  }

  skips : (p : Piece) (l : List Piece) (k : Kind) → kind_of v s p l ≡ k → messages_by k (extent_of v s (start_of p) l) (messages_of v s l) ≡ messages_of v s l → messages_of v s (p ∷ l) ≡ messages_of v s l
  unfolding messages_of
  skips p l k h q = ap (λ (x : Kind). messages_by x (extent_of v s (start_of p) l) (messages_of v s l)) h ∙ q

  ending_here : (p : Piece) (l : List Piece) → kind_of v s p l ≡ trailer → extent_by trailer p a (extent_of v s a l) ≡ closed a e → Ending v s (p ∷ l) e
  ending_here (finished c t) l h q =
      let x : t + 1 ≡ e = cc in
      record {
        mid = [];
        start = c;
        term = t;
        rest = l;
        is = refl;
        ends = x;
        tag = trailer_tag (tag_at v s c) (is_empty l) h;
        same = skips (finished c t) l trailer h refl;
      }
  ending_here (unfinished c u) l h q = absurd (let z : ◌≡◌ {A = ℕ} 0 1 = cc in omega arith)

  ending_by : (p : Piece) (l : List Piece) → (extent_of v s a l ≡ closed a e → Ending v s l e) → (k : Kind) → kind_of v s p l ≡ k → extent_by k p a (extent_of v s a l) ≡ closed a e → Ending v s (p ∷ l) e
  ending_by p l ih head h q = absurd (let z : ◌≡◌ {A = ℕ} 0 1 = cc in omega arith)
  ending_by p l ih trailer h q = ending_here p l h q
  ending_by p l ih last h q = absurd (let z : ◌≡◌ {A = ℕ} 0 1 = cc in omega arith)
  ending_by p l ih other h q = ending_on p l (skips p l other h refl) (ih q)
  ending_by p l ih cut h q = ending_on p l (skips p l cut h refl) (ih q)

  pub ending : (l : List Piece) → extent_of v s a l ≡ closed a e → Ending v s l e
  unfolding extent_of
  ending [] q = absurd (let z : ◌≡◌ {A = ℕ} 0 1 = cc in omega arith)
  ending (p ∷ l) q = ending_by p l (λ h. ending l h) (kind_of v s p l) refl q

-- ---- before a UNH no message stands open, if the last one is closed
abbrev with : Bool → Extent → List Extent → List Extent
with true m l = m ∷ l
with false m l = l

module _ (v : Service) (s : List ℕ) (a b : ℕ) (r : List Piece) (h : tag_at v s a ≡ text "UNH") where
  nonempty : (l : List Piece) → is_empty (l ++ (finished a b ∷ r)) ≡ false
  nonempty [] = refl
  nonempty (p ∷ l) = refl

  open_by : (c t : ℕ) (l : List Piece)
      → ((q : Bool) (i : ℕ) (x : Bool) → stands v s q l ≡ true → last_closed x (with q (extent_of v s i (l ++ (finished a b ∷ r))) (beginning v s l (finished a b ∷ r))) ≡ false)
      → (x y z n : Bool) → n ≡ false → (q : Bool) (i : ℕ) (o : Bool) → stands v s (if x true (if y false q)) l ≡ true
      → let k : Kind = if x head (if y trailer (if z (if n last other) other)) in
      last_closed o (with q (extent_by k (finished c t) i (extent_of v s i (l ++ (finished a b ∷ r)))) (messages_by k (extent_of v s c (l ++ (finished a b ∷ r))) (beginning v s l (finished a b ∷ r)))) ≡ false
  unfolding last_of
  open_by c t l ih true y z n w true i o g = ih true c false g
  open_by c t l ih true y z n w false i o g = ih true c o g
  open_by c t l ih false true z n w true i o g = ih false i true g
  open_by c t l ih false true z n w false i o g = ih false i o g
  open_by c t l ih false false false n w q i o g = ih q i o g
  open_by c t l ih false false true false w q i o g = ih q i o g
  open_by c t l ih false false true true w q i o g = absurd (subst T w tt)

  open_last : (l : List Piece) (q : Bool) (i : ℕ) (o : Bool) → stands v s q l ≡ true → last_closed o (with q (extent_of v s i (l ++ (finished a b ∷ r))) (beginning v s l (finished a b ∷ r))) ≡ false
  unfolding stands last_of extent_of beginning text same_list
  open_last [] true i o g = rw h refl
  open_last [] false i o g = absurd (subst T (sym g) tt)
  open_last (finished c t ∷ l) q i o g =
      open_by c t l (λ (q : Bool) (i : ℕ) (o : Bool) g. open_last l q i o g) (says (tag_at v s c) "UNH") (says (tag_at v s c) "UNT") (says (tag_at v s c) "UNZ") (is_empty (l ++ (finished a b ∷ r))) (nonempty l) q i o g
  open_last (unfinished c u ∷ l) true i o g = open_last l true i o g
  open_last (unfinished c u ∷ l) false i o g = open_last l false i o g

  pub none_open : (l : List Piece) → last_closed true (beginning v s l (finished a b ∷ r)) ≡ true → stands v s false l ≡ false
  none_open l w = go (stands v s false l) refl
    where
      go : (q : Bool) → stands v s false l ≡ q → q ≡ false
      go true e = absurd (subst T (sym w ∙ open_last l false 0 true e) tt)
      go false e = refl

-- ---- segments before another are finished
pub before_finished : (l : List Piece) (p : Piece) (r : List Piece) → Tidy (l ++ (p ∷ r)) → all_finished l ≡ true
unfolding all_finished
before_finished [] p r w = refl
before_finished (finished a t ∷ l) p r (more _ _ _ w) = before_finished l p r w
before_finished (unfinished a e ∷ l) p r w = absurd (cut_short a e l p r _ refl w)
  where
    nothing : (l : List Piece) (p : Piece) (r : List Piece) → [] ≡ l ++ (p ∷ r) → ⊥
    nothing [] p r n = let z : ◌≡◌ {A = ℕ} 0 1 = cc in omega arith
    nothing (q ∷ l) p r n = let z : ◌≡◌ {A = ℕ} 0 1 = cc in omega arith

    cut_short : (a e : ℕ) (l : List Piece) (p : Piece) (r m : List Piece) → m ≡ unfinished a e ∷ (l ++ (p ∷ r)) → Tidy m → ⊥
    cut_short a e l p r m q nil = let z : ◌≡◌ {A = ℕ} 0 1 = cc in omega arith
    cut_short a e l p r m q (one b u) = let n : [] ≡ l ++ (p ∷ r) = cc in nothing l p r n
    cut_short a e l p r m q (more b u k w) = let z : ◌≡◌ {A = ℕ} 0 1 = cc in omega arith

-- ---- the two segments
pub record Two (t z : ℕ) (l : List Piece) : Type 0 where
  pub front : List Piece
  pub start : ℕ
  pub next : ℕ
  pub back : List Piece
  pub is : l ≡ front ++ (finished start t ∷ finished next z ∷ back)

pub two : (t z : ℕ) (l : List Piece) → Before t z l → Two t z l
two t z l (here b u r) = record { front = []; start = b; next = u; back = r; is = refl }
two t z l (later p r w) =
    let f = two t z r w in
    record { front = p ∷ f.front; start = f.start; next = f.next; back = f.back; is = ap (λ (x : List Piece). p ∷ x) f.is }

-- ---- the terminator before a segment
pub before_mid : (b t : ℕ) (l : List Piece) (u z : ℕ) (r : List Piece) → all_finished (finished b t ∷ l) ≡ true → (x : ℕ) × Before x z (finished b t ∷ (l ++ (finished u z ∷ r)))
unfolding all_finished
before_mid b t [] u z r w = (t, here b u r)
before_mid b t (finished c y ∷ l) u z r w = let f = before_mid c y l u z r w in (f.0, later (finished b t) (finished c y ∷ (l ++ (finished u z ∷ r))) f.1)
before_mid b t (unfinished c y ∷ l) u z r w = absurd (subst T (sym w) tt)
