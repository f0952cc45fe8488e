-- Row 12 of document 01, "Cases", and a few beside it.
use Rattle.std.specs.Prelude.{ℕ, ◌≡◌, List, [], ◌∷◌}
use Rattle.service.specs.Service.{plain_service}
use Rattle.parts.specs.Trimmed.{values_from}
use Rattle.rewrite.specs.Plain.{plain}

-- segments and what they are in plain service characters
abbrev pub RewritesTo : List ℕ → List ℕ → Type 0
RewritesTo s r = plain (values_from plain_service s 0) ≡ r

-- `DTM+137:20020107:102::'` rewrites to `DTM+137:20020107:102'`, `RFF++:'` to `RFF'`
abbrev pub Row12 : Type 0
Row12 =
    RewritesTo (68 ∷ 84 ∷ 77 ∷ 43 ∷ 49 ∷ 51 ∷ 55 ∷ 58 ∷ 50 ∷ 48 ∷ 48 ∷ 50 ∷ 48 ∷ 49 ∷ 48 ∷ 55 ∷ 58 ∷ 49 ∷ 48 ∷ 50 ∷ 58 ∷ 58 ∷ 39 ∷ [])
    (68 ∷ 84 ∷ 77 ∷ 43 ∷ 49 ∷ 51 ∷ 55 ∷ 58 ∷ 50 ∷ 48 ∷ 48 ∷ 50 ∷ 48 ∷ 49 ∷ 48 ∷ 55 ∷ 58 ∷ 49 ∷ 48 ∷ 50 ∷ 39 ∷ [])
    × RewritesTo (82 ∷ 70 ∷ 70 ∷ 43 ∷ 43 ∷ 58 ∷ 39 ∷ []) (82 ∷ 70 ∷ 70 ∷ 39 ∷ [])

-- a segment that is only its terminator, and one of nothing but empties: `'` and `+:'` to `'` each
abbrev pub Empty : Type 0
Empty = RewritesTo (39 ∷ 43 ∷ 58 ∷ 39 ∷ []) (39 ∷ 39 ∷ [])

-- further components of the tag's own element stay: `A:B+C'`
abbrev pub Tag : Type 0
Tag = RewritesTo (65 ∷ 58 ∷ 66 ∷ 43 ∷ 67 ∷ 39 ∷ []) (65 ∷ 58 ∷ 66 ∷ 43 ∷ 67 ∷ 39 ∷ [])

-- a CR is released only where it begins a segment, breaks between segments are dropped: `?<CR>X'<CR><LF>:<CR>'` to `?<CR>X':<CR>'`
abbrev pub Break : Type 0
Break = RewritesTo (63 ∷ 13 ∷ 88 ∷ 39 ∷ 13 ∷ 10 ∷ 58 ∷ 13 ∷ 39 ∷ []) (63 ∷ 13 ∷ 88 ∷ 39 ∷ 58 ∷ 13 ∷ 39 ∷ [])

-- a released letter needs no release, the four bytes do: `?A??'` to `A??'`
abbrev pub Release : Type 0
Release = RewritesTo (63 ∷ 65 ∷ 63 ∷ 63 ∷ 39 ∷ []) (65 ∷ 63 ∷ 63 ∷ 39 ∷ [])

pub record Cases : Type 0 where
  pub twelve : Row12
  pub empty : Empty
  pub tag : Tag
  pub break : Break
  pub release : Release
