-- The messages before and after a damaged one are found as before, over any fit service characters. Assumes nothing.
use Rattle.std.specs.Prelude.{ℕ, suc, ◌+◌, ◌-◌, ◌≤◌, ◌<◌, ◌≡◌, List, [], ◌∷◌, ◌++◌, map, true, false, length, get_or, take, drop}
use Rattle.std.proofs.Common.{add-one, arith, sym, ◌∙◌, ap, ap₂, subst, append_assoc, length-append, length-drop, take-append-drop, length-take-le, take-take, take-add, drop-drop, drop-cons, take-suc, take_at, get_or-drop}
use Rattle.std.proofs.lemmas.List.{append_cancel_right, take-append-le, drop-append-le}
use Rattle.service.specs.declared.Service.{Service}
use Rattle.service.specs.Service.{Fits}
use Rattle.segments.specs.declared.Piece.{Piece}
use Rattle.segments.specs.declared.Piece.TheVariants.{Finished as finished}
use Rattle.segments.specs.SegmentList.{gap, pieces, segments_after}
use Rattle.segments.specs.Sync.{run, shift, rel_after}
use Rattle.segments.specs.Laws.ResyncLaws.{gap_start, pieces_append, loose_before}
use Rattle.segments.specs.Laws.FitLaws.{fits_sound, fit_settles}
use Rattle.segments.specs.Laws.ClosedLaws.{segments_moved}
use Rattle.segments.specs.Laws.ClearLaws.{below}
use Rattle.interchange.specs.Messages.{Extent, bytes_of, messages_of}
use Rattle.interchange.specs.Envelope.{last_unz}
use Rattle.damage.specs.Damage.{last_closed, Stretch, replaced, Within}
use Rattle.damage.proofs.Laws.DamageLaws.{moved, beginning, messages_append, messages_moved}
use Rattle.damage.proofs.Laws.BeforeLaws.{stands, Agree, agree_both, begins_same, agree}
use Rattle.damage.proofs.Laws.TargetLaws.{none_open}
use Rattle.damage.proofs.Laws.ShiftLaws.{bytes_one, Until, bytes_until, begins_until}
use Rattle.damage.proofs.Laws.PlaceLaws.{Begins, Resumes}
use Rattle.damage.proofs.Laws.LastLaws.{last_moved, last_behind}

-- any bytes, a terminator, bytes u and a terminator
abbrev closing : Service → List ℕ → List ℕ → List ℕ
closing v u m = m ++ (v.terminator ∷ u) ++ (v.terminator ∷ [])

-- ---- a text x, from the place q on, that leaves nothing open; then any bytes that are so closed; then a text r
module _ (v : Service) (f : Fits v) (x u r : List ℕ) (q : ℕ) (h : q ≤ length x) (g : run v gap (drop q x) ≡ gap) (k : rel_after v false u ≡ false) where
  segments_front : (y : List ℕ) → segments_after v (x ++ y) q ≡ segments_after v x q ++ pieces v gap 0 (length x) y
  segments_front y =
      let d = length-drop q x in
      let n : q + length (drop q x) ≡ length x = omega arith in
      ap (pieces v gap q q) (drop-append-le q x y h)
      ∙ pieces_append v gap q q (drop q x) y g
      ∙ ap (λ (i : ℕ). segments_after v x q ++ pieces v gap 0 i y) n

  segments_text : (m : List ℕ)
      → segments_after v (x ++ (closing v u m ++ r)) q
      ≡ segments_after v x q ++ (pieces v gap 0 (length x) (closing v u m) ++ map (shift (length (x ++ closing v u m))) (segments_after v r 0))
  segments_text m =
      segments_front (closing v u m ++ r)
      ∙ ap (λ (l : List Piece). segments_after v x q ++ l)
      (pieces_append v gap 0 (length x) (closing v u m) r (fit_settles v f gap m u k)
      ∙ ap (λ (l : List Piece). pieces v gap 0 (length x) (closing v u m) ++ l)
      (ap (λ (i : ℕ). pieces v gap 0 i r) (sym (length-append x (closing v u m))) ∙ segments_moved v (length (x ++ closing v u m)) r))

  -- the messages that begin in x, those that begin in the middle, and those of r by itself, moved to where it stands
  messages_text : (m : List ℕ)
      → let s : List ℕ = x ++ (closing v u m ++ r) in
      let p : List Piece = pieces v gap 0 (length x) (closing v u m) in
      let z : List Piece = map (shift (length (x ++ closing v u m))) (segments_after v r 0) in
      messages_of v s (segments_after v s q)
      ≡ beginning v s (segments_after v x q) (p ++ z) ++ (beginning v s p z ++ map (moved (length (x ++ closing v u m))) (messages_of v r (segments_after v r 0)))
  messages_text m =
      let s : List ℕ = x ++ (closing v u m ++ r) in
      let p : List Piece = pieces v gap 0 (length x) (closing v u m) in
      let z : List Piece = map (shift (length (x ++ closing v u m))) (segments_after v r 0) in
      ap (messages_of v s) (segments_text m)
      ∙ messages_append v s (segments_after v x q) (p ++ z)
      ∙ ap (λ (l : List Extent). beginning v s (segments_after v x q) (p ++ z) ++ l)
      (messages_append v s p z
      ∙ ap (λ (l : List Extent). beginning v s p z ++ l)
      (ap (λ (y : List ℕ). messages_of v y z) (sym (append_assoc x (closing v u m) r)) ∙ messages_moved v (x ++ closing v u m) r (segments_after v r 0)))

-- ---- what is found where a stretch c was replaced in a text r that is s up to e: the messages before as in s, and those of r from e on, which now stand from another place on
pub record Renewed (v : Service) (s r s' : List ℕ) (q e : ℕ) (c : Stretch) (before : List Extent) : Type 0 where
  pub to : ℕ
  pub moves : to + (c.upto - c.from) ≡ e + length c.new
  pub between : List Extent
  pub messages : messages_of v s' (segments_after v s' q) ≡ before ++ (between ++ map (moved to) (messages_of v (drop e r) (segments_after v (drop e r) 0)))
  pub bytes_before : map (bytes_of s') before ≡ map (bytes_of s) before
  pub bytes_after : (m : Extent) → bytes_of s' (moved to m) ≡ bytes_of r (moved e m)
  pub front : take q s' ≡ take q s
  pub unz : last_unz v r false (segments_after v r e) ≡ true → last_unz v s' false (segments_after v s' q) ≡ true

-- the messages of a text from e on are those of the rest by itself, moved to where it stands
pub messages_from : (v : Service) (s : List ℕ) (e : ℕ) → e ≤ length s → messages_of v s (segments_after v s e) ≡ map (moved e) (messages_of v (drop e s) (segments_after v (drop e s) 0))
messages_from v s e h =
    let r = segments_after v (drop e s) 0 in
    let n : length (take e s) ≡ e = length-take-le e s h in
    ap (messages_of v s) (gap_start v e 0 e (drop e s) ∙ segments_moved v e (drop e s))
    ∙ ap (λ (y : List ℕ). messages_of v y (map (shift e) r)) (sym (take-append-drop e s))
    ∙ subst (λ (i : ℕ). messages_of v (take e s ++ drop e s) (map (shift i) r) ≡ map (moved i) (messages_of v (drop e s) r)) n (messages_moved v (take e s) (drop e s) r)

-- a text with the same first bytes is as long
pub long_as : (s r : List ℕ) (e : ℕ) → e ≤ length s → take e r ≡ take e s → e ≤ length r
long_as s r e h g =
    let x = ap length g ∙ length-take-le e s h in
    let y = ap length (take-append-drop e r) in
    let z = length-append (take e r) (drop e r) in
    omega arith

-- a stretch inside another is the other with its edges written again
widened : (s : List ℕ) (a p q t : ℕ) (d : List ℕ) → a ≤ p → q ≤ t → take p s ++ (d ++ drop q s) ≡ take a s ++ ((take (p - a) (drop a s) ++ (d ++ take (t - q) (drop q s))) ++ drop t s)
widened s a p q t d h g =
    let i : a + (p - a) ≡ p = omega arith in
    let j : q + (t - q) ≡ t = omega arith in
    let u : List ℕ = take (p - a) (drop a s) in
    let w : List ℕ = take (t - q) (drop q s) in
    let x : take p s ≡ take a s ++ u = ap (λ (n : ℕ). take n s) (sym i) ∙ take-add a (p - a) s in
    let y : drop q s ≡ w ++ drop t s = sym (take-append-drop (t - q) (drop q s)) ∙ ap (λ (l : List ℕ). w ++ l) (drop-drop (t - q) q s ∙ ap (λ (n : ℕ). drop n s) j) in
    let z : take a s ++ u ++ (d ++ (w ++ drop t s)) ≡ take a s ++ ((u ++ (d ++ w)) ++ drop t s) = simp append_assoc in
    ap₂ (λ (k l : List ℕ). k ++ (d ++ l)) x y ∙ z

-- ---- a closed message among the segments from a place q on
-- the bytes between the two terminators: the UNT
abbrev unt_bytes : List ℕ → ℕ → ℕ → List ℕ
unt_bytes s t z = take (z - (t + 1)) (drop (t + 1) s)

module _ (v : Service) (f : Fits v) (s : List ℕ) (q : ℕ) (before : List Extent) (a t e : ℕ) (after : List Extent) (unh : Begins v s q before a) (p : Resumes v s t e after) where
  length_front : length (take a s) ≡ a
  length_front = length-take-le a s unh.clear.high

  low_front : q ≤ length (take a s)
  low_front = let x = unh.clear.low in let y = length_front in omega arith

  run_front : run v gap (drop q (take a s)) ≡ gap
  run_front =
      let x = length-drop q (take a s) in
      let y = length_front in
      let n : length (drop q (take a s)) ≡ a - q = omega arith in
      let d : drop q s ≡ drop q (take a s) ++ drop a s = ap (drop q) (sym (take-append-drop a s)) ∙ drop-append-le q (take a s) (drop a s) low_front in
      sym (ap (run v gap) (ap (take (a - q)) d ∙ take_at (drop q (take a s)) (drop a s) (a - q) n)) ∙ unh.clear.clear

  -- from the first terminator on
  tail_is : drop t s ≡ v.terminator ∷ (unt_bytes s t p.last ++ (v.terminator ∷ drop e s))
  tail_is =
      let z = p.last in
      let o1 = p.order in
      let o2 = p.high in
      let o3 = p.ends in
      let i : t < length s = omega arith in
      let j : t + 1 + (z - (t + 1)) ≡ z = omega arith in
      let k : suc z ≡ e = omega arith in
      drop-cons s t 0 i
      ∙ ap₂ (λ (b : ℕ) (l : List ℕ). b ∷ l) p.term
      (ap (λ (n : ℕ). drop n s) (sym (add-one t))
      ∙ sym (take-append-drop (z - (t + 1)) (drop (t + 1) s))
      ∙ ap (λ (l : List ℕ). unt_bytes s t z ++ l)
      (drop-drop (z - (t + 1)) (t + 1) s
      ∙ ap (λ (n : ℕ). drop n s) j
      ∙ drop-cons s z 0 o2
      ∙ ap₂ (λ (b : ℕ) (l : List ℕ). b ∷ l) p.term_last (ap (λ (n : ℕ). drop n s) k)))

  run_unt : run v gap (unt_bytes s t p.last ++ (v.terminator ∷ [])) ≡ gap
  run_unt =
      let z = p.last in
      let o1 = p.order in
      let o2 = p.high in
      let n : z + 1 - (t + 1) ≡ suc (z - (t + 1)) = omega arith in
      let m = length-drop (t + 1) s in
      let i : z - (t + 1) < length (drop (t + 1) s) = omega arith in
      let j : t + 1 + (z - (t + 1)) ≡ z = omega arith in
      let b : get_or (drop (t + 1) s) (z - (t + 1)) 0 ≡ v.terminator = get_or-drop (t + 1) s (z - (t + 1)) 0 ∙ ap (λ (c : ℕ). get_or s c 0) j ∙ p.term_last in
      ap (run v gap)
      (ap (λ (c : ℕ). unt_bytes s t z ++ (c ∷ [])) (sym b)
      ∙ sym (take-suc (drop (t + 1) s) (z - (t + 1)) 0 i)
      ∙ ap (λ (c : ℕ). take c (drop (t + 1) s)) (sym n))
      ∙ p.clear_last.clear

  loose_unt : rel_after v false (unt_bytes s t p.last) ≡ false
  loose_unt = loose_before v (fits_sound v f) (unt_bytes s t p.last) v.terminator run_unt

  -- the first bytes, up to e
  long : e ≤ length s
  long = let o2 = p.high in let o3 = p.ends in omega arith

  length_first : length (take e s) ≡ e
  length_first = length-take-le e s long

  tail_first : drop t (take e s) ≡ v.terminator ∷ (unt_bytes s t p.last ++ (v.terminator ∷ []))
  tail_first =
      let o1 = p.order in
      let o3 = p.ends in
      let n = length_first in
      let g : t ≤ length (take e s) = omega arith in
      append_cancel_right (drop t (take e s)) (v.terminator ∷ (unt_bytes s t p.last ++ (v.terminator ∷ []))) (drop e s)
      (sym (drop-append-le t (take e s) (drop e s) g)
      ∙ ap (drop t) (take-append-drop e s)
      ∙ tail_is
      ∙ ap (λ (l : List ℕ). v.terminator ∷ l) (sym (append_assoc (unt_bytes s t p.last) (v.terminator ∷ []) (drop e s))))

  -- the segments before the UNH are those of the text up to it
  front_is : segments_after v (take a s) q ≡ unh.front
  front_is =
      append_cancel_right (segments_after v (take a s) q) unh.front (finished a unh.head ∷ unh.back)
      (ap (λ (l : List Piece). segments_after v (take a s) q ++ l) (sym (ap (λ (i : ℕ). pieces v gap 0 i (drop a s)) length_front ∙ gap_start v 0 a a (drop a s) ∙ unh.here))
      ∙ sym (segments_front v f (take a s) (unt_bytes s t p.last) (drop e s) q low_front run_front loose_unt (drop a s))
      ∙ ap (λ (y : List ℕ). segments_after v y q) (take-append-drop a s)
      ∙ unh.is)

  begins_front : beginning v s (segments_after v (take a s) q) (finished a unh.head ∷ unh.back) ≡ before
  begins_front = ap (λ (l : List Piece). beginning v s l (finished a unh.head ∷ unh.back)) front_is ∙ unh.begins

  until_front : Until (length (take a s)) before
  until_front =
      let x = length-drop q (take a s) in
      let y = length_front in
      let o = low_front in
      let i : q ≤ q = omega arith in
      let n : q + length (drop q (take a s)) ≡ a = omega arith in
      subst (λ (k : ℕ). Until k before) (sym length_front)
      (subst (Until a) begins_front (begins_until v s a unh.head unh.back unh.tag (segments_after v (take a s) q) (below v gap q q (drop q (take a s)) a i n)))

  -- ---- a text r with the same first bytes, in which a stretch c from a or after, up to t at most, is replaced
  module _ (r : List ℕ) (g : take e r ≡ take e s) (c : Stretch) (w : Within a t c) where
    long_new : e ≤ length r
    long_new = long_as s r e long g

    same_front : (i : ℕ) → i ≤ e → take i r ≡ take i s
    same_front i h = sym (take-take i e r h) ∙ ap (take i) g ∙ take-take i e s h

    -- what stands from a up to t
    abbrev mid : List ℕ
    mid = take (c.from - a) (drop a r) ++ (c.new ++ take (t - c.upto) (drop c.upto r))

    length_mid : length mid + (c.upto - c.from) ≡ (t - a) + length c.new
    length_mid =
        let o1 = p.order in
        let o2 = p.ends in
        let o3 = long_new in
        let w1 = w.low in
        let w2 = w.order in
        let w3 = w.high in
        let x1 = length-drop a r in
        let x2 = length-drop c.upto r in
        let h1 : c.from - a ≤ length (drop a r) = omega arith in
        let h2 : t - c.upto ≤ length (drop c.upto r) = omega arith in
        let y1 = length-take-le (c.from - a) (drop a r) h1 in
        let y2 = length-take-le (t - c.upto) (drop c.upto r) h2 in
        let z1 = length-append (take (c.from - a) (drop a r)) (c.new ++ take (t - c.upto) (drop c.upto r)) in
        let z2 = length-append c.new (take (t - c.upto) (drop c.upto r)) in
        omega arith

    abbrev text_new : List ℕ
    text_new = take a s ++ (closing v (unt_bytes s t p.last) mid ++ drop e r)

    tail_new : drop t r ≡ v.terminator ∷ (unt_bytes s t p.last ++ (v.terminator ∷ drop e r))
    tail_new =
        let o1 = p.order in
        let o2 = p.ends in
        let n = ap length g ∙ length_first in
        let h : t ≤ length (take e r) = omega arith in
        ap (drop t) (sym (take-append-drop e r))
        ∙ drop-append-le t (take e r) (drop e r) h
        ∙ ap (λ (y : List ℕ). drop t y ++ drop e r) g
        ∙ ap (λ (y : List ℕ). y ++ drop e r) tail_first
        ∙ ap (λ (l : List ℕ). v.terminator ∷ l) (append_assoc (unt_bytes s t p.last) (v.terminator ∷ []) (drop e r))

    new_is : replaced r c ≡ text_new
    new_is =
        let o1 = p.order in
        let o2 = p.ends in
        let o3 = w.low in
        let o4 = w.order in
        let o5 = w.high in
        let h : a ≤ e = omega arith in
        let y : closing v (unt_bytes s t p.last) mid ++ drop e r ≡ mid ++ (v.terminator ∷ (unt_bytes s t p.last ++ (v.terminator ∷ drop e r))) = simp append_assoc in
        widened r a c.from c.upto t c.new w.low w.high
        ∙ ap₂ (λ (i j : List ℕ). i ++ (mid ++ j)) (same_front a h) tail_new
        ∙ ap (λ (i : List ℕ). take a s ++ i) (sym y)

    -- where the byte at e of r stands now
    abbrev to : ℕ
    to = length (take a s ++ closing v (unt_bytes s t p.last) mid)

    moves : to + (c.upto - c.from) ≡ e + length c.new
    moves =
        let o1 = p.order in
        let o2 = p.ends in
        let o4 = p.high in
        let w1 = w.low in
        let w2 = w.order in
        let w3 = w.high in
        let x1 = length_mid in
        let x2 = length_front in
        let x3 = length-append (take a s) (closing v (unt_bytes s t p.last) mid) in
        let x4 = length-append (mid ++ (v.terminator ∷ unt_bytes s t p.last)) (v.terminator ∷ []) in
        let x5 = length-append mid (v.terminator ∷ unt_bytes s t p.last) in
        let x6 = length-drop (t + 1) s in
        let h : p.last - (t + 1) ≤ length (drop (t + 1) s) = omega arith in
        let x7 = length-take-le (p.last - (t + 1)) (drop (t + 1) s) h in
        omega arith

    module _ (b : last_closed true before ≡ true) where
      renewed_text : Renewed v s r text_new q e c before
      renewed_text =
          let x : List ℕ = take a s in
          let u : List ℕ = unt_bytes s t p.last in
          let y : List ℕ = closing v u mid ++ drop e r in
          let l : List Piece = segments_after v x q in
          let m : List Piece = pieces v gap 0 (length x) (closing v u mid) in
          let k : List Piece = map (shift to) (segments_after v (drop e r) 0) in
          let j : Agree v text_new s l = agree_both v text_new s x l (agree v x y q) (subst (λ (i : List ℕ). Agree v i x l) (take-append-drop a s) (agree v x (drop a s) q)) in
          let o : stands v s false l ≡ false = none_open v s a unh.head unh.back unh.tag l (ap (last_closed true) begins_front ∙ b) in
          let n : length (take e r) ≡ e = ap length g ∙ length_first in
          record {
            to = to;
            moves = moves;
            between = beginning v text_new m k;
            messages =
                messages_text v f x u (drop e r) q low_front run_front loose_unt mid
                ∙ ap (λ (i : List Extent). i ++ (beginning v text_new m k ++ map (moved to) (messages_of v (drop e r) (segments_after v (drop e r) 0))))
                (begins_same v text_new s (m ++ k) (finished a unh.head ∷ unh.back) false j o ∙ begins_front);
            bytes_before =
                bytes_until x y before until_front
                ∙ sym (ap (λ (i : List ℕ). map (bytes_of i) before) (sym (take-append-drop a s)) ∙ bytes_until x (drop a s) before until_front);
            bytes_after =
                λ (i : Extent).
                ap (λ (z : List ℕ). bytes_of z (moved to i)) (sym (append_assoc x (closing v u mid) (drop e r)))
                ∙ bytes_one (x ++ closing v u mid) (drop e r) i
                ∙ sym (ap₂ (λ (z : List ℕ) (h : ℕ). bytes_of z (moved h i)) (sym (take-append-drop e r)) (sym n) ∙ bytes_one (take e r) (drop e r) i);
            front =
                let h = low_front in
                take-append-le q x y h ∙ sym (take-append-le q x (drop a s) h) ∙ ap (take q) (take-append-drop a s);
            unz =
                λ h.
                let z : List Piece = segments_after v (drop e r) 0 in
                let i : last_unz v (drop e r) false z ≡ true =
                sym (last_moved v (take e r) (drop e r) false z)
                ∙ ap₂ (λ (h : List ℕ) (j : ℕ). last_unz v h false (map (shift j) z)) (take-append-drop e r) n
                ∙ ap (last_unz v r false) (sym (gap_start v e 0 e (drop e r) ∙ segments_moved v e (drop e r)))
                ∙ h in
                ap (last_unz v text_new false) (segments_text v f x u (drop e r) q low_front run_front loose_unt mid ∙ sym (append_assoc l m k))
                ∙ ap (λ (y : List ℕ). last_unz v y false (l ++ m ++ k)) (sym (append_assoc x (closing v u mid) (drop e r)))
                ∙ last_behind v (x ++ closing v u mid) (drop e r) false (l ++ m) z i;
          }

      pub renewed : Renewed v s r (replaced r c) q e c before
      renewed = subst (λ (y : List ℕ). Renewed v s r y q e c before) (sym new_is) renewed_text
