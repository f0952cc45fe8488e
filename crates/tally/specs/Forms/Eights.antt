-- Eight bytes looked at together.
use Rattle.std.specs.Prelude.{ℕ, ◌+◌, List, Bool, ◌||◌, get_or}
use Rattle.parts.specs.Parts.{is_strange}

-- whether no value may have one of the eight bytes of a text from i on
abbrev pub eight_strange : List ℕ → ℕ → Bool
eight_strange m i =
    is_strange (get_or m i 0) || is_strange (get_or m (i + 1) 0) || is_strange (get_or m (i + 2) 0) || is_strange (get_or m (i + 3) 0)
    || is_strange (get_or m (i + 4) 0) || is_strange (get_or m (i + 5) 0) || is_strange (get_or m (i + 6) 0) || is_strange (get_or m (i + 7) 0)
