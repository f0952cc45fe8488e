-- What a byte is to a reader of segments, as document 01, "Bytes to segments", says.
use Rattle.std.specs.Prelude.{ℕ, Bool, true, eqb}
use Rattle.service.specs.declared.Service.{Service}
use Rattle.service.specs.Tests.{if}
use Rattle.segments.specs.declared.Class.{Class}
use Rattle.segments.specs.declared.Class.TheVariants.{Plain, Comp, Elem, Rel, Term}

-- "component separator, element separator, .. release, .. terminator": what a byte is where no release stands before it
unfoldable pub class_of : Service → ℕ → Class
class_of v b =
    if (eqb b v.terminator) Term
    (if (eqb b v.element) Elem
    (if (eqb b v.component) Comp
    (if v.releases (if (eqb b v.release) Rel Plain) Plain)))

-- "CR and LF directly after a terminator or after UNA belong to nothing"
abbrev pub is_break : ℕ → Bool
is_break b = if (eqb b 13) true (eqb b 10)
