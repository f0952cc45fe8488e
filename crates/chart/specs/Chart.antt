-- Charts, and what a placement of a message's segments on one is. A segment is given by its tag, a row by its number. Any chart may be put in.
use Rattle.std.specs.Prelude.{◌≡◌, Bool, List, [], ◌∷◌, ◌++◌, ◌⊎◌, ℕ, zero, suc, ◌<◌, ◌≤◌, T, length, take}

-- 'A group holds rows, and a row may itself be a group': rows of a chart that stand side by side. The first of them has the number and the tag of the
-- first segment of an occurrence, whether it is required, how often it may come, and the other rows of its group (none for a segment); then the rest.
pub data Rows : Type 0 where
  none : Rows
  row : (num tag : ℕ) (req : Bool) (most : ℕ) (others rest : Rows) → Rows

mutual
  -- 'its other rows in chart order, each at most its number of times and, if required, at least once'
  pub data Placement : Rows → List ℕ → List ℕ → Type 0 where
    no_rows : Placement none [] []
    row_then : {num tag : ℕ} {req : Bool} {most : ℕ} {others rest : Rows} {n : ℕ} {ts us tags ns ms nos : List ℕ}
        → n ≤ most → (T req → 1 ≤ n) → Occurrences num tag others n ts ns → Placement rest us ms → tags ≡ ts ++ us → nos ≡ ns ++ ms
        → Placement (row num tag req most others rest) tags nos

  -- 'each occurrence of a group is its first segment once, then its other rows': n occurrences of a row, one after the other
  pub data Occurrences : ℕ → ℕ → Rows → ℕ → List ℕ → List ℕ → Type 0 where
    no_more : {num tag : ℕ} {others : Rows} → Occurrences num tag others zero [] []
    one_then : {num tag : ℕ} {others : Rows} {n : ℕ} {ts us tags ns ms nos : List ℕ}
        → Placement others ts ns → Occurrences num tag others n us ms → tags ≡ ts ++ us → nos ≡ ns ++ ms
        → Occurrences num tag others (suc n) (tag ∷ tags) (num ∷ nos)

-- 'comes first in dictionary order'
pub data Before : List ℕ → List ℕ → Type 0 where
  shorter : {y : ℕ} {ys : List ℕ} → Before [] (y ∷ ys)
  smaller : {x y : ℕ} {xs ys : List ℕ} → x < y → Before (x ∷ xs) (y ∷ ys)
  further : {x : ℕ} {xs ys : List ℕ} → Before xs ys → Before (x ∷ xs) (x ∷ ys)

-- 'If several exist, the reading is the one whose list of row numbers comes first in dictionary order'
pub record Reading (rows : Rows) (tags nos : List ℕ) : Type 0 where
  pub placement : Placement rows tags nos
  pub first : (others : List ℕ) → Placement rows tags others → (others ≡ nos) ⊎ Before nos others

-- 'no placement'
abbrev pub Unplaced : Rows → List ℕ → Type 0
Unplaced rows tags = (nos : List ℕ) → Placement rows tags nos → ⊥

-- a 'message allowed by the chart can begin' with these segments
pub record Begins (rows : Rows) (tags : List ℕ) : Type 0 where
  pub tail : List ℕ
  pub nos : List ℕ
  pub placement : Placement rows (tags ++ tail) nos

-- 'the first segment such that with the segments up to and including it no message allowed by the chart can begin': j segments stand before it
pub record FirstMisfit (rows : Rows) (tags : List ℕ) (j : ℕ) : Type 0 where
  pub within : j < length tags
  pub before : Begins rows (take j tags)
  pub misfit : Begins rows (take (suc j) tags) → ⊥

-- where a message that has no placement fails: at its first misfit, or, if it only begins a message, at its end
pub record FailsAt (rows : Rows) (tags : List ℕ) (j : ℕ) : Type 0 where
  pub unplaced : Unplaced rows tags
  pub place : FirstMisfit rows tags j ⊎ ((j ≡ length tags) × Begins rows tags)
