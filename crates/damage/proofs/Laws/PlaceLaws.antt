-- Where a closed message lies in a text, and where the text goes on that damage to it leaves alone. Assumes nothing.
use Rattle.std.specs.Prelude.{ℕ, ◌+◌, ◌≤◌, ◌<◌, refl, ◌⊎◌, List, [], ◌∷◌, ◌++◌, true, false, length, get_or, drop, T}
use Rattle.std.proofs.Common.{arith, sym, ◌∙◌, ap, subst, inl, inr, append_assoc}
use Rattle.std.proofs.Math.Path.{◌≡◌}
use Rattle.service.specs.declared.Service.{Service}
use Rattle.service.specs.Tests.{last_of}
use Rattle.segments.specs.declared.Piece.{Piece}
use Rattle.segments.specs.declared.Piece.TheVariants.{Finished as finished}
use Rattle.segments.specs.SegmentList.{gap, segments_after}
use Rattle.segments.specs.Laws.ClearLaws.{Clear, clear_on, passed, upto_start, from_start, past_all, PassedAll, passed_all}
use Rattle.values.specs.Text.{text, same_list, says}
use Rattle.interchange.specs.Messages.{tag_at, kind_by, kind_of, Extent, closed, extent_of, messages_by, messages_of}
use Rattle.interchange.specs.declared.Kind.{Kind}
use Rattle.interchange.specs.declared.Kind.TheVariants.{Head as head, Trailer as trailer, Last as last, Other as other, Cut as cut}
use Rattle.interchange.specs.Envelope.{last_unz}
use Rattle.interchange.specs.Laws.EndedLaws.{Tidy, nil, one, more, tidy_pieces}
use Rattle.interchange.specs.Laws.KindLaws.{head_tag}
use Rattle.interchange.specs.Laws.NearLaws.{last_append}
use Rattle.damage.specs.Damage.{Before}
use Rattle.damage.proofs.Laws.DamageLaws.{beginning}
use Rattle.damage.proofs.Laws.TargetLaws.{split, ending, before_finished, before_mid, two}

-- a message begins at a among the segments from q on: the segments before its UNH, with the messages that begin in them, the UNH and those after it
pub record Begins (v : Service) (s : List ℕ) (q : ℕ) (before : List Extent) (a : ℕ) : Type 0 where
  pub front : List Piece
  pub head : ℕ
  pub back : List Piece
  pub is : segments_after v s q ≡ front ++ (finished a head ∷ back)
  pub here : segments_after v s a ≡ finished a head ∷ back
  pub tag : tag_at v s a ≡ text "UNH"
  pub begins : beginning v s front (finished a head ∷ back) ≡ before
  pub clear : Clear v s q a

-- reading resumes after a terminator at t, bytes that leave nothing released, and the terminator before e, whatever stood before t; these messages follow from e on
pub record Resumes (v : Service) (s : List ℕ) (t e : ℕ) (after : List Extent) : Type 0 where
  pub last : ℕ
  pub ends : last + 1 ≡ e
  pub order : t < last
  pub high : last < length s
  pub term : get_or s t 0 ≡ v.terminator
  pub term_last : get_or s last 0 ≡ v.terminator
  pub clear_last : Clear v s (t + 1) (last + 1)
  pub rest : messages_of v s (segments_after v s e) ≡ after

-- the UNZ that ends the segments from q on stands behind e
abbrev pub UnzBehind : Service → List ℕ → ℕ → ℕ → Type 0
UnzBehind v s q e = last_unz v s false (segments_after v s q) ≡ true → last_unz v s false (segments_after v s e) ≡ true

-- a closed message from a up to e among the segments from q on: its UNH, and its UNT
pub record Lies (v : Service) (s : List ℕ) (q : ℕ) (before : List Extent) (a e : ℕ) (after : List Extent) : Type 0 where
  pub unh : Begins v s q before a
  -- the segments of the message before the UNT, the UNT and those after it
  pub mid : List Piece
  pub unt : ℕ
  pub last : ℕ
  pub ends : last + 1 ≡ e
  pub inner : unh.back ≡ mid ++ (finished unt last ∷ segments_after v s e)
  pub high : last < length s
  pub term : get_or s last 0 ≡ v.terminator
  pub rest : messages_of v s (segments_after v s e) ≡ after
  pub unz : UnzBehind v s q e

-- past the first segment behind the UNT that ends at z: the message m directly after it may begin with that segment, else it is left
pub record Beyond (v : Service) (s : List ℕ) (z : ℕ) (m : Extent) (ms : List Extent) : Type 0 where
  pub past : ℕ
  pub left : List Extent
  pub is : (left ≡ []) ⊎ (left ≡ m ∷ [])
  pub resumes : Resumes v s z past (left ++ ms)
  pub unz : UnzBehind v s (z + 1) past

-- a segment with another tag is not the last, if the last is the UNZ
unz_behind : (v : Service) (s : List ℕ) (l : List Piece) (u z : ℕ) → (says (tag_at v s u) "UNZ" ≡ true → ⊥) → (r : List Piece)
    → last_unz v s false (l ++ (finished u z ∷ r)) ≡ true → last_unz v s false r ≡ true
unfolding last_of
unz_behind v s l u z g [] q = absurd (g (sym (last_append v s false l (finished u z) []) ∙ q))
unz_behind v s l u z g (p ∷ r) q = sym (last_append v s false l (finished u z) (p ∷ r)) ∙ q

no_unz : (g : List ℕ) → g ≡ text "UNT" → says g "UNZ" ≡ true → ⊥
unfolding text same_list
no_unz g e q = subst T (sym (ap (λ (k : List ℕ). says k "UNZ") (sym e) ∙ q)) tt

-- where a message follows, a segment is not the last, if the last is the UNZ
unz_head : (v : Service) (s : List ℕ) (c : ℕ) (k : Kind) (x m : Extent) (ms : List Extent) → kind_by (tag_at v s c) true ≡ k → messages_by k x [] ≡ m ∷ ms → says (tag_at v s c) "UNZ" ≡ true → ⊥
unfolding text same_list
unz_head v s c head x m ms e w q = subst T (sym (ap (λ (g : List ℕ). says g "UNZ") (sym (head_tag (tag_at v s c) true e)) ∙ q)) tt
unz_head v s c trailer x m ms e w q = let z : ◌≡◌ {A = ℕ} 0 1 = cc in omega arith
unz_head v s c last x m ms e w q = let z : ◌≡◌ {A = ℕ} 0 1 = cc in omega arith
unz_head v s c other x m ms e w q = let z : ◌≡◌ {A = ℕ} 0 1 = cc in omega arith
unz_head v s c cut x m ms e w q = let z : ◌≡◌ {A = ℕ} 0 1 = cc in omega arith

unz_next : (v : Service) (s : List ℕ) (c y : ℕ) (l : List Piece) (m : Extent) (ms : List Extent) → messages_of v s (finished c y ∷ l) ≡ m ∷ ms
    → last_unz v s false (finished c y ∷ l) ≡ true → last_unz v s false l ≡ true
unfolding messages_of last_of
unz_next v s c y [] m ms w q = absurd (unz_head v s c (kind_by (tag_at v s c) true) (extent_of v s c []) m ms refl w q)
unz_next v s c y (p ∷ l) m ms w q = q

module _ (v : Service) (s : List ℕ) where
  tidy_at : (i : ℕ) → Tidy (segments_after v s i)
  tidy_at i = tidy_pieces v gap i i (drop i s)

  -- past the segments before one
  past_front : (i : ℕ) → i ≤ length s → (l : List Piece) (p : Piece) (r : List Piece) → segments_after v s i ≡ l ++ (p ∷ r) → PassedAll v s i l (p ∷ r)
  past_front i g l p r e = passed_all v s i l (p ∷ r) g (before_finished l p r (subst Tidy e (tidy_at i))) e

  pub lies : (q : ℕ) → q ≤ length s → (before : List Extent) (a e : ℕ) (after : List Extent) → messages_of v s (segments_after v s q) ≡ before ++ (closed a e ∷ after) → Lies v s q before a e after
  lies q h before a e after w =
      let sp = split v s a e after (segments_after v s q) before w in
      let en = ending v s a e sp.back sp.extent in
      let n = en.ends in
      let p1 = past_front q h sp.front (finished a sp.term) sp.back sp.is in
      let c1 = upto_start v s (past_all q sp.front) a sp.term sp.back p1.past.high p1.rest in
      let at = from_start v s (past_all q sp.front) a sp.term sp.back p1.rest in
      let ps = passed v s a a sp.term sp.back c1.high at in
      let p2 = past_front (sp.term + 1) ps.past.high en.mid (finished en.start en.term) en.rest (ps.rest ∙ en.is) in
      let p3 = passed v s (past_all (sp.term + 1) en.mid) en.start en.term en.rest p2.past.high p2.rest in
      let r : segments_after v s e ≡ en.rest = ap (segments_after v s) (sym n) ∙ p3.rest in
      let inner : sp.back ≡ en.mid ++ (finished en.start en.term ∷ segments_after v s e) = en.is ∙ ap (λ (l : List Piece). en.mid ++ (finished en.start en.term ∷ l)) (sym r) in
      let through : segments_after v s q ≡ (sp.front ++ (finished a sp.term ∷ en.mid)) ++ (finished en.start en.term ∷ segments_after v s e) =
      sp.is
      ∙ ap (λ (x : List Piece). sp.front ++ (finished a sp.term ∷ x)) inner
      ∙ sym (append_assoc sp.front (finished a sp.term ∷ en.mid) (finished en.start en.term ∷ segments_after v s e)) in
      record {
        unh = record {
          front = sp.front;
          head = sp.term;
          back = sp.back;
          is = sp.is;
          here = at;
          tag = sp.tag;
          begins = sp.begins;
          clear = clear_on v s q (past_all q sp.front) a p1.past c1;
        };
        mid = en.mid;
        unt = en.start;
        last = en.term;
        ends = n;
        inner = inner;
        high = p3.high;
        term = p3.term;
        rest = ap (messages_of v s) r ∙ sym en.same ∙ sp.rest;
        unz = λ u.
            unz_behind v s (sp.front ++ (finished a sp.term ∷ en.mid)) en.start en.term (no_unz (tag_at v s en.start) en.tag) (segments_after v s e) (ap (last_unz v s false) (sym through) ∙ u);
      }

  module _ (q : ℕ) (before : List Extent) (a e : ℕ) (after : List Extent) (f : Lies v s q before a e after) where
    pub lies_long : e ≤ length s
    lies_long = let x = f.ends in let y = f.high in omega arith

    -- the message's own segments, the UNT among them
    own : segments_after v s a ≡ (finished a f.unh.head ∷ f.mid) ++ (finished f.unt f.last ∷ segments_after v s e)
    own = f.unh.here ∙ ap (λ (x : List Piece). finished a f.unh.head ∷ x) f.inner

    -- it has a segment before its UNT: at least its UNH
    pub precedes : (t z : ℕ) × (z + 1 ≡ e) × Before t z (segments_after v s a)
    precedes =
        let b = before_mid a f.unh.head f.mid f.unt f.last (segments_after v s e) (before_finished (finished a f.unh.head ∷ f.mid) (finished f.unt f.last) (segments_after v s e) (subst Tidy own (tidy_at a))) in
        (b.0, f.last, f.ends, subst (Before b.0 f.last) (sym own) b.1)

    -- after the terminator before its UNT
    pub resumes_near : (t z : ℕ) → z + 1 ≡ e → Before t z (segments_after v s a) → Resumes v s t e after
    resumes_near t z n w =
        let tw = two t z (segments_after v s a) w in
        let p1 = past_front a f.unh.clear.high tw.front (finished tw.start t) (finished tw.next z ∷ tw.back) tw.is in
        let p2 = passed v s (past_all a tw.front) tw.start t (finished tw.next z ∷ tw.back) p1.past.high p1.rest in
        let p3 = passed v s (t + 1) tw.next z tw.back p2.past.high p2.rest in
        let y = p3.low in
        record {
          last = z;
          ends = n;
          order = omega arith;
          high = p3.high;
          term = p2.term;
          term_last = p3.term;
          clear_last = p3.past;
          rest = f.rest;
        }

  -- ---- after a UNT that ends at z, past the first segment behind it
  module _ (z : ℕ) (h : z < length s) (d : get_or s z 0 ≡ v.terminator) (m : Extent) (ms : List Extent) where
    far_at : (c y : ℕ) (l : List Piece) → segments_after v s (z + 1) ≡ finished c y ∷ l → (last_unz v s false (finished c y ∷ l) ≡ true → last_unz v s false l ≡ true)
        → (left : List Extent) → (left ≡ []) ⊎ (left ≡ m ∷ []) → messages_of v s l ≡ left ++ ms → Beyond v s z m ms
    far_at c y l r u left i k =
        let g : z + 1 ≤ length s = omega arith in
        let p = passed v s (z + 1) c y l g r in
        let o = p.low in
        record {
          past = y + 1;
          left = left;
          is = i;
          resumes = record {
            last = y;
            ends = refl;
            order = omega arith;
            high = p.high;
            term = d;
            term_last = p.term;
            clear_last = p.past;
            rest = ap (messages_of v s) p.rest ∙ k;
          };
          unz = λ w. ap (last_unz v s false) p.rest ∙ u (ap (last_unz v s false) (sym r) ∙ w);
        }

    -- whatever that segment is
    far_by : (c y : ℕ) (l : List Piece) → segments_after v s (z + 1) ≡ finished c y ∷ l → (last_unz v s false (finished c y ∷ l) ≡ true → last_unz v s false l ≡ true)
        → (k : Kind) → messages_by k (extent_of v s c l) (messages_of v s l) ≡ m ∷ ms → Beyond v s z m ms
    far_by c y l r u head w = let g : messages_of v s l ≡ [] ++ ms = cc in far_at c y l r u [] (inl refl) g
    far_by c y l r u trailer w = far_at c y l r u (m ∷ []) (inr refl) w
    far_by c y l r u last w = far_at c y l r u (m ∷ []) (inr refl) w
    far_by c y l r u other w = far_at c y l r u (m ∷ []) (inr refl) w
    far_by c y l r u cut w = far_at c y l r u (m ∷ []) (inr refl) w

    far_in : {l : List Piece} → Tidy l → segments_after v s (z + 1) ≡ l → messages_of v s l ≡ m ∷ ms → Beyond v s z m ms
    unfolding messages_of
    far_in nil r w = absurd (let x : ◌≡◌ {A = ℕ} 0 1 = cc in omega arith)
    far_in (one c y) r w = absurd (let x : ◌≡◌ {A = ℕ} 0 1 = cc in omega arith)
    far_in (more c y l t) r w = far_by c y l r (unz_next v s c y l m ms w) (kind_of v s (finished c y) l) w

    pub beyond : messages_of v s (segments_after v s (z + 1)) ≡ m ∷ ms → Beyond v s z m ms
    beyond w = far_in (tidy_at (z + 1)) refl w
