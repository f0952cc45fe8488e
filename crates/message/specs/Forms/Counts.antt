-- Counts that stop, at two or at the end of 64 bits, and whether one came.
use Rattle.std.specs.Prelude.{ℕ, ◌+◌, min, Bool, true}
use Rattle.service.specs.Tests.{if}
use Rattle.message.specs.Segs.{Seg}

-- where a count of 64 bits stops; no number that a value writes is as high (`writes_capped` of ValueLaws)
abbrev pub most : ℕ
most = 18446744073709551615

-- none, one, or more
abbrev pub more_if : Bool → ℕ → ℕ
more_if t n = if t (min (n + 1) 2) n

unfoldable pub cap_step : (Seg → Bool) → ℕ → Seg → ℕ
cap_step t n s = more_if (t s) n

unfoldable pub some_step : (Seg → Bool) → Bool → Seg → Bool
some_step t b s = if (t s) true b
