-- Where a segment ends and where breaks end, as the loops find them.
use Rattle.std.specs.Prelude.{ℕ, suc, ◌-◌, List, [], ◌∷◌, Bool, true, false, eqb, ltb, get_or}
use Rattle.service.specs.declared.Service.{Service}
use Rattle.service.specs.Tests.{if}
use Rattle.segments.specs.declared.Class.{Class}
use Rattle.segments.specs.declared.Class.TheVariants.{Plain, Comp, Elem, Rel, Term}
use Rattle.std.specs.Prelude.{Option}
use Rattle.std.specs.Prelude.{Some, None}
use Rattle.segments.specs.Classes.{class_of}

-- by what the next byte is: the segment ends at i, or goes on after a release, or goes on
abbrev pub end_by : Class → ℕ → Option ℕ → Option ℕ → Option ℕ
end_by Plain i rel on = on
end_by Comp i rel on = on
end_by Elem i rel on = on
end_by Rel i rel on = rel
end_by Term i rel on = Some i

-- the release, or the terminator where the byte named as the release is none, by what that byte is
abbrev pub release_by : Class → Service → ℕ
release_by Plain v = v.terminator
release_by Comp v = v.terminator
release_by Elem v = v.terminator
release_by Rel v = v.release
release_by Term v = v.terminator

-- what an unreleased byte, if it is no terminator, equals exactly if it is a release
unfoldable pub release_of : Service → ℕ
release_of v = release_by (class_of v v.release) v

-- whether the byte before p, at or after i, is the one named as the release
unfoldable pub follows_release : Service → ℕ → ℕ → List ℕ → Bool
follows_release v i p s = if (ltb i p) (eqb (get_or s (p - 1) 0) v.release) false

-- the index of the first unreleased terminator of the bytes, the first of which stands at i and is released or not
unfoldable pub end_from : Service → Bool → ℕ → List ℕ → Option ℕ
end_from v r i [] = None
end_from v true i (b ∷ s) = end_from v false (suc i) s
end_from v false i (b ∷ s) = end_by (class_of v b) i (end_from v true (suc i) s) (end_from v false (suc i) s)

-- the index past the breaks that the bytes begin with
unfoldable pub past_breaks : ℕ → List ℕ → ℕ
past_breaks i [] = i
past_breaks i (b ∷ s) = if (eqb b 13) (past_breaks (suc i) s) (if (eqb b 10) (past_breaks (suc i) s) i)
