-- "Lent lists of 16-, 32- and 64-bit numbers", and an answer with what is left in them.
use Rattle.std.specs.Prelude.{ℕ, List}

-- the row and the start of every segment, and the total of every order
pub record Lists : Type 0 where
  pub rows : List ℕ
  pub starts : List ℕ
  pub totals : List ℕ

abbrev pub lists : List ℕ → List ℕ → List ℕ → Lists
lists r s t = record { rows = r; starts = s; totals = t }

-- an answer, and the lists after it
pub record Left (A : Type 0) : Type 0 where
  pub answer : A
  pub lists : Lists

abbrev pub left : {A : Type 0} → A → Lists → Left A
left a x = record { answer = a; lists = x }
