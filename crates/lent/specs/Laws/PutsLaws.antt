-- One put after another. Assumes nothing.
use Rattle.std.specs.Prelude.{ℕ, ◌+◌, ◌≤◌, ◌<◌, ◌≡◌, refl, List, [], ◌∷◌, ◌++◌, length, take, drop, set}
use Rattle.std.proofs.Common.{add-one, zero-add, add-zero, arith, sym, ◌∙◌, ap, subst, append_assoc, append-nil, length-append, length-set, take-append-drop, length-take-le, drop-drop, take_at, drop_at, lt-ltb, le-ltb}
use Rattle.std.proofs.lemmas.List.{set_split}
use Rattle.std.proofs.Math.Seq.{set_out}
use Rattle.lent.specs.Over.{over}
use Rattle.lent.specs.Forms.Puts.{Puts, Putting, past_one}

-- ---- nothing, one byte
pub puts_none : (j : ℕ) (o : List ℕ) → Puts j [] o o j
puts_none j o = record { long = refl; past = λ h. omega arith; is = λ h. rw (add-zero j) (sym (take-append-drop j o)) }

pub puts_set : (j b : ℕ) (o : List ℕ) → j < length o → Puts j (b ∷ []) o (set o j b) (j + 1)
puts_set j b o h = record { long = length-set o j b; past = λ g. refl; is = λ g. set_split o j b h ∙ rw (← add-one j) refl }

pub puts_full : (j b : ℕ) (o : List ℕ) → length o ≤ j → Puts j (b ∷ []) o o j
puts_full j b o h = record { long = refl; past = λ g. absurd (omega arith); is = λ g. absurd (omega arith) }

pub set_full : (j b : ℕ) (o : List ℕ) → length o ≤ j → o ≡ set o j b
set_full j b o h = sym (set_out o j b h)

pub past_set : (j room : ℕ) → j < room → j + 1 ≡ past_one j room
unfolding past_one
past_set j room h = simp (lt-ltb j room h)

pub past_full : (j room : ℕ) → room ≤ j → j ≡ past_one j room
unfolding past_one
past_full j room h = simp (le-ltb j room h)

-- ---- one list after another
module _ (j k n : ℕ) (l m a b c : List ℕ) (f : Puts j l a b k) (g : Puts k m b c n) where
  long_more : j + length (l ++ m) ≤ length a → (j + length l ≤ length a) × (k + length m ≤ length b) × (k ≡ j + length l)
  long_more h =
      let e = length-append l m in
      let x : j + length l ≤ length a = omega arith in
      let y = f.past x in
      let z = f.long in
      (x, omega arith, y)

  head_is : j ≤ length a → k ≡ j + length l → length (take j a ++ l) ≡ k
  head_is h e = let x = length-append (take j a) l in let y = length-take-le j a h in omega arith

  is_more : j + length (l ++ m) ≤ length a → c ≡ take j a ++ ((l ++ m) ++ drop (j + length (l ++ m)) a)
  is_more h =
      let w = long_more h in
      let u = w.0 in
      let e = w.2 in
      let i : j ≤ length a = omega arith in
      let q : length (take j a ++ l) ≡ k = head_is i e in
      let r : b ≡ (take j a ++ l) ++ drop (j + length l) a = f.is u ∙ sym (append_assoc (take j a) l (drop (j + length l) a)) in
      let p : take k b ≡ take j a ++ l = ap (take k) r ∙ take_at (take j a ++ l) (drop (j + length l) a) k q in
      let d : drop k b ≡ drop (j + length l) a = ap (drop k) r ∙ drop_at (take j a ++ l) (drop (j + length l) a) k q in
      let s = length-append l m in
      let t : j + length l + length m ≡ j + length (l ++ m) = omega arith in
      g.is w.1
      ∙ ap (λ (z : List ℕ). z ++ (m ++ drop (k + length m) b)) p
      ∙ ap (λ (z : List ℕ). (take j a ++ l) ++ (m ++ z))
      (sym (drop-drop (length m) k b) ∙ ap (drop (length m)) d ∙ drop-drop (length m) (j + length l) a ∙ ap (λ (z : ℕ). drop z a) t)
      ∙ append_assoc (take j a) l (m ++ drop (j + length (l ++ m)) a)
      ∙ ap (λ (z : List ℕ). take j a ++ z) (sym (append_assoc l m (drop (j + length (l ++ m)) a)))

  past_more : j + length (l ++ m) ≤ length a → n ≡ j + length (l ++ m)
  past_more h =
      let w = long_more h in
      let e = w.2 in
      let x = g.past w.1 in
      let s = length-append l m in
      omega arith

  pub puts_more : Puts j (l ++ m) a c n
  puts_more = record { long = g.long ∙ f.long; past = past_more; is = is_more }

pub puts_same : (j k : ℕ) (l m a b : List ℕ) → l ≡ m → Puts j l a b k → Puts j m a b k
puts_same j k l m a b e w = subst (λ (x : List ℕ). Puts j x a b k) e w

-- ---- a text, part by part
pub putting_start : (j : ℕ) (text o : List ℕ) → Putting j text o o j text
putting_start j text o = record { done = []; whole = refl; puts = puts_none j o }

module _ (j k : ℕ) (text o o' left : List ℕ) (w : Putting j text o o' k left) where
  pub putting_more : (l rest o'' : List ℕ) (n : ℕ) → left ≡ l ++ rest → Puts k l o' o'' n → Putting j text o o'' n rest
  putting_more l rest o'' n e p = record {
    done = w.done ++ l;
    whole = w.whole ∙ ap (λ (x : List ℕ). w.done ++ x) e ∙ sym (append_assoc w.done l rest);
    puts = puts_more j k n w.done l o o' o'' w.puts p;
  }

  pub putting_done : left ≡ [] → Puts j text o o' k
  putting_done e = puts_same j k w.done text o o' (sym (w.whole ∙ ap (λ (x : List ℕ). w.done ++ x) e ∙ append-nil w.done)) w.puts

  pub putting_same : (rest : List ℕ) → left ≡ rest → Putting j text o o' k rest
  putting_same rest e = record { done = w.done; whole = w.whole ∙ ap (λ (x : List ℕ). w.done ++ x) e; puts = w.puts }

-- ---- all of it, from the first place on
pub puts_over : (k : ℕ) (l o o' : List ℕ) → Puts 0 l o o' k → length l ≤ length o → o' ≡ over l o
unfolding over
puts_over k l o o' w h = let g : 0 + length l ≤ length o = omega arith in w.is g ∙ ap (λ (n : ℕ). l ++ drop n o) (zero-add (length l))

pub puts_length : (k : ℕ) (l o o' : List ℕ) → Puts 0 l o o' k → length l ≤ length o → k ≡ length l
puts_length k l o o' w h = let g : 0 + length l ≤ length o = omega arith in w.past g ∙ zero-add (length l)
