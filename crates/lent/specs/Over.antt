-- New entries written over the front of a list.
use Rattle.std.specs.Prelude.{ℕ, List, ◌++◌, length, drop}

-- the entries of new, then what is left of old: 'entries beyond these keep their content'
unfoldable pub over : List ℕ → List ℕ → List ℕ
over new old = new ++ drop (length new) old
