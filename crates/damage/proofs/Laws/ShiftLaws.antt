-- Messages of a text and their bytes, where the text stands further on or another one follows. Assumes nothing.
use Rattle.std.specs.Prelude.{ℕ, ◌+◌, ◌-◌, ◌≤◌, ◌≡◌, refl, List, [], ◌∷◌, ◌++◌, map, length, take, drop}
use native.Mathlib.Omega.{arith}
use Rattle.std.proofs.Common.{◌∙◌, ap, ap₂, length-drop}
use Rattle.std.proofs.Math.Seq.{drop-append-add}
use Rattle.std.proofs.lemmas.List.{drop-append-le, take-append-le}
use Rattle.service.specs.declared.Service.{Service}
use Rattle.segments.specs.declared.Piece.{Piece}
use Rattle.segments.specs.declared.Piece.TheVariants.{Finished as finished}
use Rattle.segments.specs.Laws.ClearLaws.{Below, nil, fin, unf}
use Rattle.values.specs.Text.{text, same_list}
use Rattle.interchange.specs.Messages.{tag_at, start_of, past_of, kind_of, Extent, closed, unclosed, starts_at, ends_at, bytes_of, extent_by, extent_of, messages_by}
use Rattle.interchange.specs.declared.Kind.{Kind}
use Rattle.interchange.specs.declared.Kind.TheVariants.{Head as head, Trailer as trailer, Last as last, Other as other, Cut as cut}
use Rattle.interchange.specs.Laws.FindLaws.{extent_starts}
use Rattle.damage.proofs.Laws.DamageLaws.{moved, beginning}

-- ---- messages further on
pub start_moved : (k : ℕ) (m : Extent) → starts_at (moved k m) ≡ k + starts_at m
start_moved k (closed a e) = refl
start_moved k (unclosed a e) = refl

pub end_moved : (k : ℕ) (m : Extent) → ends_at (moved k m) ≡ k + ends_at m
end_moved k (closed a e) = refl
end_moved k (unclosed a e) = refl

pub bytes_one : (p r : List ℕ) (m : Extent) → bytes_of (p ++ r) (moved (length p) m) ≡ bytes_of r m
bytes_one p r m =
    let x = start_moved (length p) m in
    let y = end_moved (length p) m in
    let n : ends_at (moved (length p) m) - starts_at (moved (length p) m) ≡ ends_at m - starts_at m = omega arith in
    ap₂ (λ (i j : ℕ). take i (drop j (p ++ r))) n x ∙ ap (take (ends_at m - starts_at m)) (drop-append-add p r (starts_at m))

-- ---- messages that lie before a place
pub data Until (k : ℕ) : List Extent → Type 0 where
  empty : Until k []
  one : (m : Extent) (ms : List Extent) → starts_at m ≤ k → ends_at m ≤ k → Until k ms → Until k (m ∷ ms)

bytes_longer : (p r : List ℕ) (m : Extent) → starts_at m ≤ length p → ends_at m ≤ length p → bytes_of (p ++ r) m ≡ bytes_of p m
bytes_longer p r m h g =
    let n = length-drop (starts_at m) p in
    let x : ends_at m - starts_at m ≤ length (drop (starts_at m) p) = omega arith in
    ap (take (ends_at m - starts_at m)) (drop-append-le (starts_at m) p r h) ∙ take-append-le (ends_at m - starts_at m) (drop (starts_at m) p) r x

pub bytes_until : (p r : List ℕ) (l : List Extent) → Until (length p) l → map (bytes_of (p ++ r)) l ≡ map (bytes_of p) l
bytes_until p r l empty = refl
bytes_until p r l (one m ms h g w) = ap₂ (λ (x : List ℕ) (y : List (List ℕ)). x ∷ y) (bytes_longer p r m h g) (bytes_until p r ms w)

-- those that begin in segments before a UNH at a
module _ (v : Service) (s : List ℕ) (a b : ℕ) (r : List Piece) (h : tag_at v s a ≡ text "UNH") where
  until_by : (k : Kind) (p : Piece) (i : ℕ) (m : Extent) → start_of p ≤ a → past_of p ≤ a → ends_at m ≤ a → ends_at (extent_by k p i m) ≤ a
  until_by head p i m x y z = x
  until_by trailer p i m x y z = y
  until_by last p i m x y z = x
  until_by other p i m x y z = z
  until_by cut p i m x y z = z

  extent_until : (l : List Piece) → Below a l → (i : ℕ) → ends_at (extent_of v s i (l ++ (finished a b ∷ r))) ≤ a
  unfolding extent_of text same_list
  extent_until l nil i = rw h (omega arith)
  extent_until l (fin c t k x y w) i =
      let g : t + 1 ≤ a = omega arith in
      let f : c ≤ a = omega arith in
      until_by (kind_of v s (finished c t) (k ++ (finished a b ∷ r))) (finished c t) i _ f g (extent_until k w i)
  extent_until l (unf c e k x y w) i = extent_until k w i

  messages_until : (k : Kind) (m : Extent) (l : List Extent) → starts_at m ≤ a → ends_at m ≤ a → Until a l → Until a (messages_by k m l)
  messages_until head m l x y w = one m l x y w
  messages_until trailer m l x y w = w
  messages_until last m l x y w = w
  messages_until other m l x y w = w
  messages_until cut m l x y w = w

  pub begins_until : (l : List Piece) → Below a l → Until a (beginning v s l (finished a b ∷ r))
  unfolding beginning
  begins_until l nil = empty
  begins_until l (fin c t k x y w) =
      let q = extent_starts v s c (k ++ (finished a b ∷ r)) in
      let g : starts_at (extent_of v s c (k ++ (finished a b ∷ r))) ≤ a = omega arith in
      messages_until (kind_of v s (finished c t) (k ++ (finished a b ∷ r))) _ _ g (extent_until k w c) (begins_until k w)
  begins_until l (unf c e k x y w) = begins_until k w
