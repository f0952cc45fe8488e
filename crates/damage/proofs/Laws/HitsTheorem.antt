-- Messages hit here and there, among the segments from any place on: what stands behind is damaged first. Assumes nothing.
use Rattle.std.specs.Prelude.{ℕ, ◌+◌, ◌-◌, ◌≤◌, ◌<◌, ◌≡◌, refl, ◌⊎◌, Bool, length, get_or, take, drop}
use Rattle.std.proofs.Common.{add-zero, arith, sym, ◌∙◌, ap₂, subst, take-append-drop, length-append, length-drop, length-take-le, take-take}
use Rattle.std.proofs.Math.Path.{ap}
use Rattle.std.proofs.Math.Logic.{⊎_elim}
use mathlib.Core.List.{List, [], ◌∷◌, ◌++◌, map, append_assoc, map-append}
use Rattle.std.proofs.Math.Bool.{true, false}
use Rattle.std.proofs.lemmas.List.{take-append-le, drop-append-le}
use Rattle.service.specs.declared.Service.{Service}
use Rattle.service.specs.Service.{Fits}
use Rattle.service.specs.Tests.{last_of}
use Rattle.segments.specs.SegmentList.{segments_after}
use Rattle.interchange.specs.Messages.{Extent, closed, unclosed, is_closed, bytes_of, messages_of}
use Rattle.interchange.specs.Envelope.{last_unz}
use Rattle.damage.specs.Damage.{last_closed, Stretch, Mark, whole, next, hit, replaced, damaged, Before, Within, Hits, Beside, Stays}
use Rattle.damage.specs.Damage as damage
use Rattle.damage.proofs.Laws.DamageLaws.{moved}
use Rattle.damage.proofs.Laws.ShiftLaws.{start_moved, end_moved}
use Rattle.damage.proofs.Laws.PlaceLaws.{Begins, Resumes, UnzBehind, Lies, lies, lies_long, resumes_near, Beyond, beyond}
use Rattle.damage.proofs.Laws.KeptTheorem.{Renewed, renewed, messages_from, long_as}

-- ---- lists
-- of a list in two parts that is another one mapped, the second part is mapped from the end of the other
record Parted {A B : Type 0} (g : A → B) (w : List A) (l : List B) : Type 0 where
  front : List A
  back : List A
  is : w ≡ front ++ back
  ends : l ≡ map g back

parted : {A B : Type 0} (g : A → B) (k l : List B) (w : List A) → k ++ l ≡ map g w → Parted g w l
parted g [] l w e = record { front = []; back = w; is = refl; ends = e }
parted g (x ∷ k) l [] e = absurd (let z : ◌≡◌ {A = ℕ} 0 1 = cc in omega arith)
parted g (x ∷ k) l (y ∷ w) e =
    let q : k ++ l ≡ map g w = cc in
    let f = parted g k l w q in
    record { front = y ∷ f.front; back = f.back; is = ap (λ (i : List _). y ∷ i) f.is; ends = f.ends }

-- two ways to map a list that agree agree on its last entry, and on the others
map_last : {A B : Type 0} (g h : A → B) (l : List A) (x : A) → map g (l ++ (x ∷ [])) ≡ map h (l ++ (x ∷ [])) → (map g l ≡ map h l) × (g x ≡ h x)
map_last g h [] x e = (refl, cc)
map_last g h (y ∷ l) x e =
    let a : g y ≡ h y = cc in
    let b : map g (l ++ (x ∷ [])) ≡ map h (l ++ (x ∷ [])) = cc in
    let f = map_last g h l x b in
    (ap₂ (λ (i : _) (j : List _). i ∷ j) a f.0, f.1)

last_snoc : (b : Bool) (l : List Extent) (m : Extent) → last_closed b (l ++ (m ∷ [])) ≡ is_closed m
unfolding last_of
last_snoc b [] m = refl
last_snoc b (x ∷ l) m = last_snoc (is_closed x) l m

-- ---- a stretch replaced in r before some messages moves them all alike
closed_moved : (k : ℕ) (m : Extent) → is_closed (moved k m) ≡ is_closed m
closed_moved k (closed a e) = refl
closed_moved k (unclosed a e) = refl

module _ (s r s' : List ℕ) (e to d d' : ℕ) (h : to + d ≡ e + d') (g : (m : Extent) → bytes_of s' (moved to m) ≡ bytes_of r (moved e m)) where
  stays_on : (n n' j j' : ℕ) (m x : Extent) → Stays s r n n' m (moved e x) → j ≡ n + d → j' ≡ n' + d' → Stays s s' j j' m (moved to x)
  stays_on n n' j j' m x w p q =
      let a1 = w.start in
      let a2 = w.end in
      let b1 = start_moved e x in
      let b2 = end_moved e x in
      let c1 = start_moved to x in
      let c2 = end_moved to x in
      record { closes = closed_moved to x ∙ sym (closed_moved e x) ∙ w.closes; start = omega arith; end = omega arith; bytes = g x ∙ w.bytes }

  beside_on : {n n' : ℕ} {k : List Mark} {l l' : List Extent} → Beside (Stays s r) n n' k l l' → (w : List Extent) → l' ≡ map (moved e) w → (j j' : ℕ) → j ≡ n + d → j' ≡ n' + d'
      → Beside (Stays s s') j j' k l (map (moved to) w)
  beside_on (damage.none n n') [] u j j' p q = damage.none j j'
  beside_on (damage.none n n') (x ∷ w) u j j' p q = absurd (let z : ◌≡◌ {A = ℕ} 0 1 = cc in omega arith)
  beside_on (damage.spared n n' m m' k l l' y b) [] u j j' p q = absurd (let z : ◌≡◌ {A = ℕ} 0 1 = cc in omega arith)
  beside_on (damage.spared n n' m m' k l l' y b) (x ∷ w) u j j' p q =
      let i : m' ≡ moved e x = cc in
      let o : l' ≡ map (moved e) w = cc in
      damage.spared j j' m (moved to x) k l (map (moved to) w) (stays_on n n' j j' m x (subst (Stays s r n n' m) i y) p q) (beside_on b w o j j' p q)
  beside_on (damage.struck n n' c m k l new l' b) w u j j' p q =
      let f = parted (moved e) new l' w u in
      let x : j + (c.upto - c.from) ≡ n + (c.upto - c.from) + d = omega arith in
      let y : j' + length c.new ≡ n' + length c.new + d' = omega arith in
      subst (Beside (Stays s s') j j' (hit c ∷ k) (m ∷ l)) (sym (ap (map (moved to)) f.is ∙ map-append (moved to) f.front f.back))
      (damage.struck j j' c m k l (map (moved to) f.front) (map (moved to) f.back) (beside_on b f.back f.ends (j + (c.upto - c.from)) (j' + length c.new) x y))
  beside_on (damage.passed n n' m k l new l' b) w u j j' p q =
      let f = parted (moved e) new l' w u in
      subst (Beside (Stays s s') j j' (next ∷ k) (m ∷ l)) (sym (ap (map (moved to)) f.is ∙ map-append (moved to) f.front f.back))
      (damage.passed j j' m k l (map (moved to) f.front) (map (moved to) f.back) (beside_on b f.back f.ends j j' p q))

-- ---- what is found among the segments from q on, after all damage behind the messages `before`
pub record Found (v : Service) (s s' : List ℕ) (q : ℕ) (before ms : List Extent) (k : List Mark) : Type 0 where
  pub found : List Extent
  pub messages : messages_of v s' (segments_after v s' q) ≡ before ++ found
  pub bytes_before : map (bytes_of s') before ≡ map (bytes_of s) before
  pub beside : Beside (Stays s s') 0 0 k ms found
  pub front : take q s' ≡ take q s
  pub unz : last_unz v s false (segments_after v s q) ≡ true → last_unz v s' false (segments_after v s' q) ≡ true

-- messages of which the first ones, one after the other, are hit, read from i on, as one stretch: where reading resumes behind it, and what is found from there on. Bytes that are as they
-- were may stand between the single stretches.
record Chain (v : Service) (s : List ℕ) (i : ℕ) (ms : List Extent) (k : List Mark) : Type 0 where
  t : ℕ
  e : ℕ
  left : List Extent
  after : List Extent
  marks : List Mark
  resumes : Resumes v s t e (left ++ after)
  unz : UnzBehind v s i e
  rest : Found v s (damaged s marks) e left after marks
  all : Stretch
  low : i ≤ all.from + 1
  order : all.from ≤ all.upto
  high : all.upto ≤ t
  is : damaged s k ≡ replaced (damaged s marks) all
  gone : ℕ
  come : ℕ
  kept : ℕ
  gone_is : all.upto - all.from ≡ gone + kept
  come_is : length all.new ≡ come + kept
  onto : (s' : List ℕ) (n n' : ℕ) (new l : List Extent) → Beside (Stays s s') (n + gone) (n' + come) marks after l → Beside (Stays s s') n n' k ms (new ++ l)

-- two stretches, and what stands between them, are one
joined : (r : List ℕ) (a b c d : ℕ) (x y : List ℕ) → a ≤ b → b ≤ c → c ≤ length r
    → let r' : List ℕ = take c r ++ (y ++ drop d r) in
    take a r' ++ (x ++ drop b r') ≡ take a r ++ ((x ++ (drop b (take c r) ++ y)) ++ drop d r)
joined r a b c d x y h g o =
    let n = length-take-le c r o in
    let i : a ≤ length (take c r) = omega arith in
    let j : b ≤ length (take c r) = omega arith in
    let k : a ≤ c = omega arith in
    let z : take a r ++ (x ++ (drop b (take c r) ++ (y ++ drop d r))) ≡ take a r ++ ((x ++ (drop b (take c r) ++ y)) ++ drop d r) = simp append_assoc in
    ap₂ (λ (u w : List ℕ). u ++ (x ++ w)) (take-append-le a (take c r) (y ++ drop d r) i ∙ take-take a c r k) (drop-append-le b (take c r) (y ++ drop d r) j) ∙ z

module _ (v : Service) (f : Fits v) (s : List ℕ) where
  spared_by : (s' : List ℕ) (q : ℕ) (before : List Extent) (m : Extent) (ms : List Extent) (k : List Mark) → Found v s s' q (before ++ (m ∷ [])) ms k → Found v s s' q before (m ∷ ms) (whole ∷ k)
  spared_by s' q before m ms k w =
      let b = map_last (bytes_of s') (bytes_of s) before m w.bytes_before in
      record {
        found = m ∷ w.found;
        messages = w.messages ∙ append_assoc before (m ∷ []) w.found;
        bytes_before = b.0;
        beside = damage.spared 0 0 m m k ms w.found (record { closes = refl; start = refl; end = refl; bytes = b.1 }) w.beside;
        front = w.front;
        unz = w.unz;
      }

  resumes_long : (t e : ℕ) (after : List Extent) → Resumes v s t e after → e ≤ length s
  resumes_long t e after p = let x = p.ends in let y = p.high in omega arith

  -- ---- hit messages one after the other
  near_chain : (i : ℕ) (before : List Extent) (a t z e : ℕ) (c : Stretch) (ms : List Extent) (k : List Mark) → Lies v s i before a e ms → z + 1 ≡ e → Before t z (segments_after v s a) → Within a t c
      → Found v s (damaged s k) e [] ms k → Chain v s i (closed a e ∷ ms) (hit c ∷ k)
  near_chain i before a t z e c ms k f n p w g =
      let x = f.unh.clear.low in
      let y = w.low in
      let u : (c.upto - c.from) ≡ (c.upto - c.from) + 0 = omega arith in
      let o : length c.new ≡ length c.new + 0 = omega arith in
      record {
        t = t;
        e = e;
        left = [];
        after = ms;
        marks = k;
        resumes = resumes_near v s i before a e ms f t z n p;
        unz = f.unz;
        rest = g;
        all = c;
        low = omega arith;
        order = w.order;
        high = w.high;
        is = refl;
        gone = c.upto - c.from;
        come = length c.new;
        kept = 0;
        gone_is = u;
        come_is = o;
        onto = λ s' n n' new l b. damage.struck n n' c (closed a e) k ms new l b;
      }

  -- a whole one behind them
  next_chain : (z : ℕ) → z < length s → (m : Extent) (ms : List Extent) (k : List Mark) → (y : Beyond v s z m ms) → Found v s (damaged s k) y.past y.left ms k → Chain v s (z + 1) (m ∷ ms) (next ∷ k)
  next_chain z h m ms k y g =
      let r : List ℕ = damaged s k in
      record {
        t = z;
        e = y.past;
        left = y.left;
        after = ms;
        marks = k;
        resumes = y.resumes;
        unz = y.unz;
        rest = g;
        all = record { from = z; upto = z; new = [] };
        low = omega arith;
        order = omega arith;
        high = omega arith;
        is = sym (take-append-drop z r);
        gone = 0;
        come = 0;
        kept = 0;
        gone_is = omega arith;
        come_is = refl;
        onto = λ s' n n' new l b. damage.passed n n' m k ms new l (rw (add-zero n, add-zero n') at b);
      }

  -- one more before them, hit up to the end of its UNT
  far_chain : (i : ℕ) (before : List Extent) (a z e : ℕ) (c : Stretch) (ms : List Extent) (k : List Mark) → Lies v s i before a e ms → z + 1 ≡ e → Within a z c → Chain v s e ms k
      → Chain v s i (closed a e ∷ ms) (hit c ∷ k)
  far_chain i before a z e c ms k f n w g =
      let r : List ℕ = damaged s g.marks in
      let d : Stretch = g.all in
      let x1 = f.unh.clear.low in
      let x2 = w.low in
      let x3 = w.order in
      let x4 = w.high in
      let y1 = g.low in
      let y2 = g.order in
      let y3 = g.high in
      let y4 = g.resumes.order in
      let y5 = g.resumes.ends in
      let y6 = resumes_long g.t g.e (g.left ++ g.after) g.resumes in
      let y7 = long_as s r g.e y6 g.rest.front in
      let h1 : c.upto ≤ d.from = omega arith in
      let h2 : d.from ≤ length r = omega arith in
      let n1 = length-take-le d.from r h2 in
      let n2 = length-drop c.upto (take d.from r) in
      let n3 = length-append c.new (drop c.upto (take d.from r) ++ d.new) in
      let n4 = length-append (drop c.upto (take d.from r)) d.new in
      let z1 = g.gone_is in
      let z2 = g.come_is in
      let o1 : d.upto - c.from ≡ ((c.upto - c.from) + g.gone) + (g.kept + (d.from - c.upto)) = omega arith in
      let o2 : length (c.new ++ (drop c.upto (take d.from r) ++ d.new)) ≡ (length c.new + g.come) + (g.kept + (d.from - c.upto)) = omega arith in
      record {
        t = g.t;
        e = g.e;
        left = g.left;
        after = g.after;
        marks = g.marks;
        resumes = g.resumes;
        unz = λ x. g.unz (f.unz x);
        rest = g.rest;
        all = record { from = c.from; upto = d.upto; new = c.new ++ (drop c.upto (take d.from r) ++ d.new) };
        low = omega arith;
        order = omega arith;
        high = g.high;
        is = ap (λ (x : List ℕ). replaced x c) g.is ∙ joined r c.from c.upto d.from d.upto c.new d.new x3 h1 h2;
        gone = (c.upto - c.from) + g.gone;
        come = length c.new + g.come;
        kept = g.kept + (d.from - c.upto);
        gone_is = o1;
        come_is = o2;
        onto = λ s' j j' new l b.
            let u1 : j + ((c.upto - c.from) + g.gone) ≡ j + (c.upto - c.from) + g.gone = omega arith in
            let u2 : j' + (length c.new + g.come) ≡ j' + length c.new + g.come = omega arith in
            damage.struck j j' c (closed a e) k ms new l (g.onto s' (j + (c.upto - c.from)) (j' + length c.new) [] l (rw (u1, u2) at b));
      }

  -- what is found where such messages, the first of which begins at a, are hit as one
  chained : (q : ℕ) (before : List Extent) (a : ℕ) (ms : List Extent) (k : List Mark) → Begins v s q before a → last_closed true before ≡ true → (g : Chain v s q ms k) → a ≤ g.all.from
      → Found v s (damaged s k) q before ms k
  chained q before a ms k u c g h =
      let r : List ℕ = damaged s g.marks in
      let w : Within a g.t g.all = record { low = h; order = g.order; high = g.high } in
      let y : Renewed v s r (damaged s k) q g.e g.all before =
      subst (λ (x : List ℕ). Renewed v s r x q g.e g.all before) (sym g.is) (renewed v f s q before a g.t g.e (g.left ++ g.after) u g.resumes r g.rest.front g.all w c) in
      let x = resumes_long g.t g.e (g.left ++ g.after) g.resumes in
      let l : List Extent = messages_of v (drop g.e r) (segments_after v (drop g.e r) 0) in
      let m : g.left ++ g.rest.found ≡ map (moved g.e) l = sym g.rest.messages ∙ messages_from v r g.e (long_as s r g.e x g.rest.front) in
      let p = parted (moved g.e) g.left g.rest.found l m in
      let l1 : List Extent = map (moved y.to) p.front in
      let l2 : List Extent = map (moved y.to) p.back in
      let z1 = y.moves in
      let z2 = g.gone_is in
      let z3 = g.come_is in
      let z4 : y.to + g.gone ≡ g.e + g.come = omega arith in
      record {
        found = (y.between ++ l1) ++ l2;
        messages =
            y.messages
            ∙ ap (λ (x : List Extent). before ++ x)
            (ap (λ (x : List Extent). y.between ++ x) (ap (map (moved y.to)) p.is ∙ map-append (moved y.to) p.front p.back) ∙ sym (append_assoc y.between l1 l2));
        bytes_before = y.bytes_before;
        beside = g.onto (damaged s k) 0 0 (y.between ++ l1) l2 (beside_on s r (damaged s k) g.e y.to g.gone g.come z4 y.bytes_after g.rest.beside p.back p.ends _ _ refl refl);
        front = y.front;
        unz = λ x. y.unz (g.rest.unz (g.unz x));
      }

  -- ---- all of them
  left_closed : (left : List Extent) (m : Extent) → (left ≡ []) ⊎ (left ≡ m ∷ []) → is_closed m ≡ true → last_closed true left ≡ true
  unfolding last_of
  left_closed left m w u = ⊎_elim (λ d. ap (last_closed true) d) (λ d. ap (last_closed true) d ∙ u) w

  ends_term : (q : ℕ) (before : List Extent) (a z e : ℕ) (ms : List Extent) → Lies v s q before a e ms → z + 1 ≡ e → get_or s z 0 ≡ v.terminator
  ends_term q before a z e ms y n = let x = y.ends in let i : z ≡ y.last = omega arith in ap (λ (j : ℕ). get_or s j 0) i ∙ y.term

  -- what is said of messages and what befell them, by whether the message before them, whose UNT ends at z, was hit up to its end
  abbrev Outcome : Bool → Bool → List Extent → List Mark → Type 0
  Outcome b false ms k =
      (q : ℕ) → q ≤ length s → (before : List Extent) → messages_of v s (segments_after v s q) ≡ before ++ ms → (b ≡ true → last_closed true before ≡ true) → Found v s (damaged s k) q before ms k
  Outcome b true ms k = (z e : ℕ) → z + 1 ≡ e → e ≤ length s → get_or s z 0 ≡ v.terminator → messages_of v s (segments_after v s e) ≡ ms → Chain v s e ms k

  passed_all : (b : Bool) (m : Extent) (ms : List Extent) (k : List Mark) → Outcome (is_closed m) false ms k → Outcome b true (m ∷ ms) (next ∷ k)
  passed_all b m ms k o z e n h d w =
      let g : z < length s = omega arith in
      let y = beyond v s z g d m ms (ap (λ (i : ℕ). messages_of v s (segments_after v s i)) n ∙ w) in
      subst (λ (i : ℕ). Chain v s i (m ∷ ms) (next ∷ k)) n
      (next_chain z g m ms k y (o y.past (resumes_long z y.past (y.left ++ ms) y.resumes) y.left y.resumes.rest (left_closed y.left m y.is)))

  near_in : (q : ℕ) (before : List Extent) (a t z e : ℕ) (c : Stretch) (ms : List Extent) (k : List Mark) → z + 1 ≡ e → Before t z (segments_after v s a) → Within a t c → Outcome true false ms k
      → Lies v s q before a e ms → Chain v s q (closed a e ∷ ms) (hit c ∷ k)
  unfolding last_of
  near_in q before a t z e c ms k n p i o y = near_chain q before a t z e c ms k y n p i (o e (lies_long v s q before a e ms y) [] y.rest (λ x. refl))

  near_all : (b : Bool) (a t z e : ℕ) (c : Stretch) (ms : List Extent) (k : List Mark) → z + 1 ≡ e → Before t z (segments_after v s a) → Within a t c → Outcome true false ms k
      → Outcome true b (closed a e ∷ ms) (hit c ∷ k)
  unfolding near_in near_chain
  near_all false a t z e c ms k n p i o = λ q h before w u.
      let y = lies v s q h before a e ms w in
      chained q before a (closed a e ∷ ms) (hit c ∷ k) y.unh (u refl) (near_in q before a t z e c ms k n p i o y) i.low
  near_all true a t z e c ms k n p i o = λ x q j h d w. near_in q [] a t z e c ms k n p i o (lies v s q h [] a e ms w)

  far_in : (q : ℕ) (before : List Extent) (a z e : ℕ) (c : Stretch) (ms : List Extent) (k : List Mark) → z + 1 ≡ e → Within a z c → Outcome true true ms k
      → Lies v s q before a e ms → Chain v s q (closed a e ∷ ms) (hit c ∷ k)
  far_in q before a z e c ms k n i o y = far_chain q before a z e c ms k y n i (o z e n (lies_long v s q before a e ms y) (ends_term q before a z e ms y n) y.rest)

  far_all : (b : Bool) (a z e : ℕ) (c : Stretch) (ms : List Extent) (k : List Mark) → z + 1 ≡ e → Within a z c → Outcome true true ms k → Outcome true b (closed a e ∷ ms) (hit c ∷ k)
  unfolding far_in far_chain
  far_all false a z e c ms k n i o = λ q h before w u.
      let y = lies v s q h before a e ms w in
      chained q before a (closed a e ∷ ms) (hit c ∷ k) y.unh (u refl) (far_in q before a z e c ms k n i o y) i.low
  far_all true a z e c ms k n i o = λ x q j h d w. far_in q [] a z e c ms k n i o (lies v s q h [] a e ms w)

  all_found : {b d : Bool} {ms : List Extent} {k : List Mark} → Hits v s b d ms k → Outcome b d ms k
  all_found (damage.none b) = λ q h before w c. record { found = []; messages = w; bytes_before = refl; beside = damage.none 0 0; front = refl; unz = λ x. x }
  all_found (damage.spared b m ms k o) = λ q h before w c.
      spared_by (damaged s k) q before m ms k (all_found o q h (before ++ (m ∷ [])) (w ∙ sym (append_assoc before (m ∷ []) ms)) (λ x. last_snoc true before m ∙ x))
  all_found (damage.passed b m ms k o) = passed_all b m ms k (all_found o)
  all_found (damage.near b a t z e c ms k n p i o) = near_all b a t z e c ms k n p i (all_found o)
  all_found (damage.far b a z e c ms k n i o) = far_all b a z e c ms k n i (all_found o)

  pub found_all : (ms : List Extent) (k : List Mark) → Hits v s true false ms k → (q : ℕ) → q ≤ length s → messages_of v s (segments_after v s q) ≡ ms → Found v s (damaged s k) q [] ms k
  unfolding last_of
  found_all ms k o q h w = all_found o q h [] w (λ x. refl)
