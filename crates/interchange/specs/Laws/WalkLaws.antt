-- Walking visits exactly the messages. Assumes nothing.
use Rattle.std.specs.Prelude.{ℕ, suc, ◌+◌, ◌-◌, ◌≤◌, ◌<◌, ◌≡◌, refl, Bool, true, false, drop, eqb}
use Rattle.std.proofs.Math.Decide.{dec_lt}
use native.Mathlib.Omega.{arith}
use Rattle.std.proofs.Common.{sym, ◌∙◌, subst, drop_of_length-le, drop-drop}
use Rattle.std.proofs.Math.Path.{ap}
use mathlib.Core.List.{List, [], ◌∷◌}
use Rattle.std.proofs.Math.ListN.{length}
use Rattle.service.specs.declared.Service.{Service}
use Rattle.service.specs.Tests.{if, is_empty}
use Rattle.std.specs.Prelude.{Option}
use Rattle.std.specs.Prelude.{Some, None}
use Rattle.segments.specs.declared.Segment.{Segment}
use Rattle.segments.specs.declared.Segment.TheVariants as segment
use Rattle.segments.specs.Forms.Bytes.{end_from, past_breaks}
use Rattle.segments.specs.Forms.Segments.{segment_by, segment_at}
use Rattle.segments.specs.Laws.SegmentsLaws.{segment_nothing, segment_by_lem}
use Rattle.segments.specs.declared.Piece.{Piece}
use Rattle.segments.specs.declared.Piece.TheVariants.{Finished as finished, Unfinished as unfinished}
use Rattle.segments.specs.SegmentList.{segments_from, segments_after, all_finished}
use Rattle.segments.specs.Laws.SyncLaws.{skipped, rest_nothing}
use Rattle.segments.specs.Laws.ListLaws.{list_nothing, list_finished, list_unfinished, segments_after_lem}
use Rattle.values.specs.Text.{says}
use Rattle.interchange.specs.Finds as found
use Rattle.interchange.specs.Messages.{tag_at, kind_by, kind_of, Extent, starts_at, ends_at, extent_by, extent_of, messages_by, messages_of, cut_before, found_one, found_by, found_in, found_from}
use Rattle.interchange.specs.declared.Kind.{Kind}
use Rattle.interchange.specs.declared.Kind.TheVariants.{Head as head, Trailer as trailer, Last as last, Other as other, Cut as cut}
use Rattle.interchange.specs.Laws.FindLaws.{extent_starts, skip_cut}
use Rattle.interchange.specs.Walk.{Visits, done, step, Own, none, also}

-- finished segments, each read alike from its own first byte, and what follows it from the byte after its terminator
pub data Placed (v : Service) (s : List ℕ) : List Piece → Type 0 where
  end : Placed v s []
  at : (i t : ℕ) (l : List Piece) → segments_after v s i ≡ finished i t ∷ l → segments_after v s (t + 1) ≡ l → Placed v s l → Placed v s (finished i t ∷ l)

-- none of them is unfinished
no_cut_before : (v : Service) (s : List ℕ) (e : ℕ) {l : List Piece} → Placed v s l → cut_before e l ≡ false
unfolding cut_before
no_cut_before v s e end = refl
no_cut_before v s e (at i t l h g w) = no_cut_before v s e w

whole : (m : Extent) (l : List Piece) → cut_before (ends_at m) l ≡ false → found_one m l ≡ found.Message (starts_at m) (ends_at m)
whole m l h = rw h refl

pub record Both (v : Service) (s : List ℕ) (l : List Piece) : Type 0 where
  pub out : (p : ℕ) → found_from v s p ≡ found_in v s l → Visits v s p (messages_of v s l)
  pub ins : (a : ℕ) → Visits v s (ends_at (extent_of v s a l)) (messages_of v s l)

never_cut : (g : List ℕ) (e : Bool) → kind_by g e ≡ cut → ⊥
never_cut g e w = by (says g "UNH") (says g "UNT") (says g "UNZ") e w
  where
    by : (t u x e : Bool) → if t head (if u trailer (if x (if e last other) other)) ≡ cut → ⊥
    by true u x e w = let z : ◌≡◌ {A = ℕ} 0 1 = cc in omega arith
    by false true x e w = let z : ◌≡◌ {A = ℕ} 0 1 = cc in omega arith
    by false false true true w = let z : ◌≡◌ {A = ℕ} 0 1 = cc in omega arith
    by false false true false w = let z : ◌≡◌ {A = ℕ} 0 1 = cc in omega arith
    by false false false e w = let z : ◌≡◌ {A = ℕ} 0 1 = cc in omega arith

module _ (v : Service) (s : List ℕ) (i t : ℕ) (l : List Piece) where
  messages_by_lem : (k : Kind) → kind_of v s (finished i t) l ≡ k → messages_of v s (finished i t ∷ l) ≡ messages_by k (extent_of v s i l) (messages_of v s l)
  unfolding messages_of
  messages_by_lem k e = rw e

  extent_by_lem : (a : ℕ) (k : Kind) → kind_of v s (finished i t) l ≡ k → extent_of v s a (finished i t ∷ l) ≡ extent_by k (finished i t) a (extent_of v s a l)
  unfolding extent_of
  extent_by_lem a k e = rw e

  pub found_skip : messages_of v s (finished i t ∷ l) ≡ messages_of v s l → found_in v s (finished i t ∷ l) ≡ found_in v s l
  unfolding found_in
  found_skip e = skip_cut (messages_of v s (finished i t ∷ l)) (messages_of v s l) i t l e

  pub found_head : Placed v s l → messages_of v s (finished i t ∷ l) ≡ extent_of v s i l ∷ messages_of v s l → found_in v s (finished i t ∷ l) ≡ found.Message (starts_at (extent_of v s i l)) (ends_at (extent_of v s i l))
  unfolding found_in cut_before
  found_head w e = ap (λ (ms : List Extent). found_by ms (finished i t ∷ l)) e ∙ whole (extent_of v s i l) (finished i t ∷ l) (no_cut_before v s (ends_at (extent_of v s i l)) w)

  by_kind : segments_after v s i ≡ finished i t ∷ l → segments_after v s (t + 1) ≡ l → Placed v s l → Both v s l → (k : Kind) → kind_of v s (finished i t) l ≡ k → Both v s (finished i t ∷ l)
  by_kind h g w b head e =
      let hm = messages_by_lem head e in
      let fh = found_head w hm in record {
        out = λ (p : ℕ) q. subst (Visits v s p) (sym hm) (step p (extent_of v s i l) (messages_of v s l) (q ∙ fh) (b.ins i));
        ins = λ (a : ℕ). rw (extent_by_lem a head e, hm) (step i (extent_of v s i l) (messages_of v s l) (ap (found_in v s) h ∙ fh) (b.ins i));
      }
  by_kind h g w b trailer e =
      let hm = messages_by_lem trailer e in
      let fe = found_skip hm in record {
        out = λ (p : ℕ) q. subst (Visits v s p) (sym hm) (b.out p (q ∙ fe));
        ins = λ (a : ℕ). rw (extent_by_lem a trailer e, hm) (b.out (t + 1) (ap (found_in v s) g));
      }
  by_kind h g w b last e =
      let hm = messages_by_lem last e in
      let fe = found_skip hm in record {
        out = λ (p : ℕ) q. subst (Visits v s p) (sym hm) (b.out p (q ∙ fe));
        ins = λ (a : ℕ). rw (extent_by_lem a last e, hm) (b.out i (ap (found_in v s) h ∙ fe));
      }
  by_kind h g w b other e =
      let hm = messages_by_lem other e in
      let fe = found_skip hm in record {
        out = λ (p : ℕ) q. subst (Visits v s p) (sym hm) (b.out p (q ∙ fe));
        ins = λ (a : ℕ). rw (extent_by_lem a other e, hm) (b.ins a);
      }
  by_kind h g w b cut e = absurd (never_cut (tag_at v s i) (is_empty l) e)

  own_by : segments_after v s i ≡ finished i t ∷ l → Placed v s l → Own v s (messages_of v s l) → (k : Kind) → kind_of v s (finished i t) l ≡ k → starts_at (extent_of v s i l) ≡ i → Own v s (messages_of v s (finished i t ∷ l))
  own_by h w o head e q =
      let hm = messages_by_lem head e in
      subst (Own v s) (sym hm) (also (extent_of v s i l) (messages_of v s l) (ap (found_from v s) q ∙ ap (found_in v s) h ∙ found_head w hm) o)
  own_by h w o trailer e q = subst (Own v s) (sym (messages_by_lem trailer e)) o
  own_by h w o last e q = subst (Own v s) (sym (messages_by_lem last e)) o
  own_by h w o other e q = subst (Own v s) (sym (messages_by_lem other e)) o
  own_by h w o cut e q = absurd (never_cut (tag_at v s i) (is_empty l) e)

module _ (v : Service) (s : List ℕ) where
  at_end : found_from v s (length s) ≡ found.Nothing
  unfolding found_in messages_of all_finished past_breaks
  at_end =
      let h : length s ≤ length s = omega arith in
      ap (found_in v s) (segments_after_lem v s (length s) (length s) (sym (ap (past_breaks (length s)) (drop_of_length-le s h))) ∙ rest_nothing v s (length s) h)

  both_end : Both v s []
  unfolding found_in messages_of all_finished extent_of
  both_end = record {
    out = λ (p : ℕ) q. done p q;
    ins = λ (a : ℕ). done (length s) at_end;
  }

  pub both : {l : List Piece} → Placed v s l → Both v s l
  both end = both_end
  both (at i t l h g w) = by_kind v s i t l h g w (both w) (kind_of v s (finished i t) l) refl

  own_end : Own v s (messages_of v s [])
  unfolding messages_of
  own_end = none

  pub own : {l : List Piece} → Placed v s l → Own v s (messages_of v s l)
  own end = own_end
  own (at i t l h g w) = own_by v s i t l h w (own w) (kind_of v s (finished i t) l) refl (extent_starts v s i l)

-- ---- the segments from a place where no break stands
-- where the breaks end, none begins
settled_by : (i : ℕ) (b : ℕ) (l : List ℕ) (t u : Bool) → eqb b 13 ≡ t → eqb b 10 ≡ u
    → (past_breaks (past_breaks (suc i) l) (drop (past_breaks (suc i) l - suc i) l) ≡ past_breaks (suc i) l) → suc i ≤ past_breaks (suc i) l
    → let p : ℕ = if t (past_breaks (suc i) l) (if u (past_breaks (suc i) l) i) in past_breaks p (drop (p - i) (b ∷ l)) ≡ p
unfolding past_breaks
settled_by i b l true u h g ih w = let n : past_breaks (suc i) l - i ≡ suc (past_breaks (suc i) l - suc i) = omega arith in rw n ih
settled_by i b l false true h g ih w = let n : past_breaks (suc i) l - i ≡ suc (past_breaks (suc i) l - suc i) = omega arith in rw n ih
settled_by i b l false false h g ih w = let n : i - i ≡ 0 = omega arith in rw (n, h, g) refl

settled_in : (v : Service) (i : ℕ) (l : List ℕ) → past_breaks (past_breaks i l) (drop (past_breaks i l - i) l) ≡ past_breaks i l
unfolding past_breaks
settled_in v i [] = let n : i - i ≡ 0 = omega arith in rw n refl
settled_in v i (b ∷ l) = settled_by i b l (eqb b 13) (eqb b 10) refl refl (settled_in v (suc i) l) (skipped v (suc i) l).low

pub settled : (v : Service) (s : List ℕ) (i p : ℕ) → p ≡ past_breaks i (drop i s) → past_breaks p (drop p s) ≡ p
settled v s i p e =
    let w = (skipped v i (drop i s)).low in
    let n : i + (p - i) ≡ p = omega arith in
    ap (past_breaks p) (sym (drop-drop (p - i) i s ∙ ap (λ (m : ℕ). drop m s) n)) ∙ rw e (settled_in v i (drop i s))

-- where the next segment begins
next_by_lem : (s : List ℕ) (k : Option ℕ) (t n : ℕ) → segment_by s k ≡ segment.Finished t n → n ≡ past_breaks (t + 1) (drop (t + 1) s)
next_by_lem s (Some u) t n e =
    let a : u ≡ t = cc in
    let d : past_breaks (u + 1) (drop (u + 1) s) ≡ n = cc in
    sym d ∙ ap (λ (m : ℕ). past_breaks (m + 1) (drop (m + 1) s)) a
next_by_lem s None t n e = absurd (let z : ◌≡◌ {A = ℕ} 0 1 = cc in omega arith)

pub next_is : (v : Service) (s : List ℕ) (i : ℕ) (k : Segment) → k ≡ segment_at v i s → (t n : ℕ) → k ≡ segment.Finished t n → n ≡ past_breaks (t + 1) (drop (t + 1) s)
next_is v s i k c t n e = go (dec_lt i (length s))
  where
    go : Dec (i < length s) → n ≡ past_breaks (t + 1) (drop (t + 1) s)
    go (yes h) = next_by_lem s (end_from v false i (drop i s)) t n (segment_by_lem v s i h (end_from v false i (drop i s)) refl ∙ sym c ∙ e)
    go (no g) =
        let h : length s ≤ i = omega arith in
        let q = segment_nothing v s i h ∙ sym c ∙ e in
        absurd (let z : ◌≡◌ {A = ℕ} 0 1 = cc in omega arith)

pub cut_here : (a e : ℕ) (l : List Piece) → l ≡ unfinished a e ∷ [] → all_finished l ≡ true → ⊥
unfolding all_finished
cut_here a e l q w = let x : false ≡ true = sym (ap all_finished q) ∙ w in let z : ◌≡◌ {A = ℕ} 0 1 = cc in omega arith

-- by the segment at i
placed_by : (v : Service) (s : List ℕ) (l : List Piece) → ((n : ℕ) (m : List Piece) → segments_from v s n ≡ m → past_breaks n (drop n s) ≡ n → all_finished m ≡ true → (p : Piece) → l ≡ p ∷ m → Placed v s m)
    → (i : ℕ) → segments_from v s i ≡ l → past_breaks i (drop i s) ≡ i → all_finished l ≡ true → (k : Segment) → k ≡ segment_at v i s → Placed v s l
unfolding all_finished
placed_by v s l ih i e q w (segment.Finished t n) c =
    let f = list_finished v s i (segment.Finished t n) c t n refl in
    let g : l ≡ finished i t ∷ segments_from v s n = sym e ∙ f in
    let x = next_is v s i (segment.Finished t n) c t n refl in
    let y : segments_after v s i ≡ finished i t ∷ segments_from v s n = segments_after_lem v s i i (sym q) ∙ f in
    subst (Placed v s) (sym g)
    (at i t (segments_from v s n) y (segments_after_lem v s (t + 1) n x)
    (ih n (segments_from v s n) refl (settled v s (t + 1) n x) (sym (ap all_finished g) ∙ w) (finished i t) g))
placed_by v s l ih i e q w segment.Unfinished c = absurd (cut_here i (length s) l (sym e ∙ list_unfinished v s i segment.Unfinished c refl) w)
placed_by v s l ih i e q w segment.Nothing c = subst (Placed v s) (sym (list_nothing v s i segment.Nothing c refl) ∙ e) end

tail_is : (v : Service) (s : List ℕ) (p q : Piece) (l m : List Piece) → p ∷ l ≡ q ∷ m → Placed v s l → Placed v s m
tail_is v s p q l m e w = let x : l ≡ m = cc in subst (Placed v s) x w

pub placed : (v : Service) (s : List ℕ) (l : List Piece) (i : ℕ) → segments_from v s i ≡ l → past_breaks i (drop i s) ≡ i → all_finished l ≡ true → Placed v s l
placed v s [] i e q w = end
placed v s (p ∷ l) i e q w =
    placed_by v s (p ∷ l) (λ (n : ℕ) (m : List Piece) f y z (r : Piece) x. let u : m ≡ l = cc in subst (Placed v s) (sym u) (placed v s l n (f ∙ u) y (sym (ap all_finished u) ∙ z))) i e q w (segment_at v i s) refl
