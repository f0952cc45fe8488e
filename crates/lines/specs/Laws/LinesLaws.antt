-- Lines put together. Assumes nothing.
use Rattle.std.specs.Prelude.{ℕ, ◌+◌, ◌*◌, ◌^◌, ◌≤◌, ◌<◌, ◌≡◌, refl, List, [], ◌∷◌, ◌++◌, length, take, drop, get_or, map, Result}
use Rattle.std.proofs.Common.{arith, add-one, sym, ◌∙◌, ap, ap₂, subst, drop-cons, append_assoc, append-nil, length-append, le-leb}
use Rattle.std.proofs.lemmas.List.{drop_all}
use Rattle.std.proofs.Math.Seq.{take_at}
use Rattle.std.proofs.lemmas.Bool.{lt-leb}
use Rattle.std.specs.Fmt.{decimal as decimal_of}
use Rattle.lent.specs.Over.{over}
use Rattle.values.specs.Text.{text}
use Rattle.interchange.specs.declared.Refusal.{Refusal}
use Rattle.report.specs.declared.Counts.{Counts}
use Rattle.lines.specs.Lines.{decimal, spaced, line, message_line_by, open_line, Lined}
use Rattle.lines.specs.Forms.Numbers.{numbers}
use Rattle.lines.specs.Laws.DecimalLaws.{decimal_same, decimal_short}

-- ---- numbers
pub numbers_none : (l : List ℕ) (i : ℕ) → length l ≤ i → numbers (drop i l) ≡ []
unfolding numbers
numbers_none l i h = rw (drop_all i l h) refl

pub numbers_more : (l : List ℕ) (i : ℕ) → i < length l → numbers (drop i l) ≡ 32 ∷ decimal (get_or l i 0) ++ numbers (drop (i + 1) l)
unfolding numbers text
numbers_more l i h = rw (drop-cons l i 0 h, add-one i) refl

module _ (l : List ℕ) (i : ℕ) (h : i < length l) (s : get_or l i 0 < 2 ^ 64) (k : ℕ) (x y z t w : List ℕ) where
  pub numbers_on : (x ++ numbers (drop i l) ≡ w) × (length x ≤ k + 21 * i) → y ≡ x ++ 32 ∷ [] → z ≡ y ++ t → t ≡ decimal_of (get_or l i 0)
      → (z ++ numbers (drop (i + 1) l) ≡ w) × (length z ≤ k + 21 * (i + 1))
  numbers_on e f g d =
      let r = numbers (drop (i + 1) l) in
      let q : t ≡ decimal (get_or l i 0) = d ∙ decimal_same (get_or l i 0) s in
      let m : length t ≤ 20 = rw q (decimal_short (get_or l i 0) s) in
      let n = ap length g ∙ length-append y t in
      let o = ap length f ∙ length-append x (32 ∷ []) in
      let u = e.1 in (
        ap (λ (a : List ℕ). a ++ r) g
            ∙ append_assoc y t r
            ∙ ap₂ (λ (a c : List ℕ). a ++ (c ++ r)) f q
            ∙ append_assoc x (32 ∷ []) (decimal (get_or l i 0) ++ r)
            ∙ ap (λ (a : List ℕ). x ++ a) (sym (numbers_more l i h))
            ∙ e.0,
        omega arith,
      )

pub numbers_all : (l : List ℕ) (i : ℕ) → length l ≤ i → (x w : List ℕ) → x ++ numbers (drop i l) ≡ w → x ≡ w
numbers_all l i h x w e = sym (append-nil x) ∙ ap (λ (a : List ℕ). x ++ a) (sym (numbers_none l i h)) ∙ e

-- ---- over the front of a room
pub show_long : (l o : List ℕ) → length o < length l → Lined l o o 0
show_long l o h = record { answer = simp (lt-leb (length l) (length o) h); room = simp (lt-leb (length l) (length o) h) }

pub show_fits : (l o : List ℕ) → length l ≤ length o → (m : List ℕ) → m ≡ l → Lined l o (m ++ drop (length l) o) (length l)
unfolding over
show_fits l o h m e = record {
  answer = simp (le-leb (length l) (length o) h);
  room = simp (le-leb (length l) (length o) h) (ap (λ (a : List ℕ). a ++ drop (length l) o) e);
}

-- ---- the end of a line
module _ (l x z : List ℕ) (e : z ≡ x ++ numbers l) where
  ended : z ++ 10 ∷ [] ≡ x ++ (numbers l ++ text "\n")
  unfolding text
  ended = ap (λ (a : List ℕ). a ++ 10 ∷ []) e ∙ append_assoc x (numbers l) (10 ∷ [])

  pub end_lined : (k s : List ℕ) → k ≡ z ++ 10 ∷ [] → s ≡ k → (o o' : List ℕ) (n : ℕ) → Lined s o o' n → Lined (x ++ (numbers l ++ text "\n")) o o' n
  end_lined k s f g o o' n w = subst (λ (a : List ℕ). Lined a o o' n) (g ∙ f ∙ ended) w

  pub end_short : length z < 128 → length (x ++ (numbers l ++ text "\n")) ≤ 128
  end_short h = let g = length-append z (10 ∷ []) in rw (← ended) (omega arith)

-- ---- the lines
numbers_spaced : (l : List ℕ) → numbers l ++ text "\n" ≡ spaced (map decimal l)
unfolding numbers spaced text
numbers_spaced [] = refl
numbers_spaced (n ∷ l) = append_assoc (32 ∷ decimal n) (numbers l) (10 ∷ []) ∙ ap (λ (a : List ℕ). 32 ∷ (decimal n ++ a)) (numbers_spaced l)

line_is : (w l : List ℕ) → w ++ (numbers l ++ text "\n") ≡ line (w ∷ map decimal l)
unfolding line
line_is w l = ap (λ (a : List ℕ). w ++ a) (numbers_spaced l)

module _ (p a b c : ℕ) (x y z : List ℕ) (q : x ≡ []) (f : y ≡ x ++ text "MSG") (g : z ≡ y ++ numbers (p ∷ [])) (v k : List ℕ) (h : k ≡ z ++ 32 ∷ v) where
  message_is : k ++ (numbers (a ∷ b ∷ c ∷ []) ++ text "\n") ≡ line (text "MSG" ∷ decimal p ∷ v ∷ decimal a ∷ decimal b ∷ decimal c ∷ [])
  unfolding numbers line spaced text
  message_is = rw (h, g, f, q) (rw (numbers_spaced (a ∷ b ∷ c ∷ []))
      (append_assoc (text "MSG" ++ numbers (p ∷ [])) (32 ∷ v) (spaced (map decimal (a ∷ b ∷ c ∷ [])))
      ∙ ap (λ (i : List ℕ). (text "MSG" ++ i) ++ ((32 ∷ v) ++ spaced (map decimal (a ∷ b ∷ c ∷ [])))) (append-nil (32 ∷ decimal p))))

  pub message_lined : (o o' : List ℕ) (n : ℕ) → Lined (k ++ (numbers (a ∷ b ∷ c ∷ []) ++ text "\n")) o o' n
      → Lined (line (text "MSG" ∷ decimal p ∷ v ∷ decimal a ∷ decimal b ∷ decimal c ∷ [])) o o' n
  message_lined o o' n w = subst (λ (i : List ℕ). Lined i o o' n) message_is w

  pub message_short : length (k ++ (numbers (a ∷ b ∷ c ∷ []) ++ text "\n")) ≤ 128 → length (line (text "MSG" ∷ decimal p ∷ v ∷ decimal a ∷ decimal b ∷ decimal c ∷ [])) ≤ 128
  message_short w = rw (← message_is) w

-- a message's, by its counts or its refusal
module _ (N : Type 0) (number : N → ℕ) (place : ℕ) (told u : Result Counts (Refusal N)) (e : told ≡ u) where
  pub told_lined : (o o' : List ℕ) (n : ℕ) → Lined (message_line_by number place u) o o' n → Lined (message_line_by number place told) o o' n
  told_lined o o' n w = subst (λ (x : Result Counts (Refusal N)). Lined (message_line_by number place x) o o' n) (sym e) w

  pub told_short : length (message_line_by number place u) ≤ 128 → length (message_line_by number place told) ≤ 128
  told_short w = subst (λ (x : Result Counts (Refusal N)). length (message_line_by number place x) ≤ 128) (sym e) w

-- a word and numbers
module _ (w l x y : List ℕ) (q : x ≡ []) (f : y ≡ x ++ w) where
  word_is : y ++ (numbers l ++ text "\n") ≡ line (w ∷ map decimal l)
  word_is = rw (f, q) (line_is w l)

  pub word_lined : (o o' : List ℕ) (n : ℕ) → Lined (y ++ (numbers l ++ text "\n")) o o' n → Lined (line (w ∷ map decimal l)) o o' n
  word_lined o o' n h = subst (λ (i : List ℕ). Lined i o o' n) word_is h

  pub word_short : length (y ++ (numbers l ++ text "\n")) ≤ 128 → length (line (w ∷ map decimal l)) ≤ 128
  word_short h = rw (← word_is) h

-- OPEN NO and a number
module _ (n : ℕ) (x y : List ℕ) (q : x ≡ []) (f : y ≡ x ++ text "OPEN NO") where
  open_is : y ++ (numbers (n ∷ []) ++ text "\n") ≡ open_line n
  unfolding line spaced text
  open_is = rw (f, q) (ap (λ (a : List ℕ). text "OPEN NO" ++ a) (numbers_spaced (n ∷ [])))

  pub open_lined : (o o' : List ℕ) (k : ℕ) → Lined (y ++ (numbers (n ∷ []) ++ text "\n")) o o' k → Lined (open_line n) o o' k
  open_lined o o' k h = subst (λ (i : List ℕ). Lined i o o' k) open_is h

  pub open_short : length (y ++ (numbers (n ∷ []) ++ text "\n")) ≤ 128 → length (open_line n) ≤ 128
  open_short h = rw (← open_is) h

-- ---- a line in a room of 128 bytes, which are enough for every line
module _ (l o new : List ℕ) (k : ℕ) (w : Lined l o new k) (h : length l ≤ 128) (e : 128 ≡ length o) where
  held_fits : length l ≤ length o
  held_fits = omega arith

  held_count : k ≡ length l
  held_count = simp (le-leb (length l) (length o) held_fits) at w.answer

  held_room : new ≡ over l o
  held_room = simp (le-leb (length l) (length o) held_fits) at w.room

  pub held_is : take k new ≡ l
  unfolding over
  held_is = ap (take k) held_room ∙ take_at l (drop (length l) o) k (sym held_count)

  pub held_length : k ≡ length (take k new)
  held_length = held_count ∙ ap length (sym held_is)

  pub held_within : k ≤ length new
  unfolding over
  held_within = let x = ap length held_room ∙ length-append l (drop (length l) o) in let y = held_count in omega arith
