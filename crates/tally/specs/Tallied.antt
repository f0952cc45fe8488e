-- What one reading of a message's bytes finds: the first byte that no value may have, and the segments, LIN, SEQ and UNT counted and found.
use Rattle.std.specs.Prelude.{ℕ, ◌+◌, ◌-◌, List, [], ◌∷◌, Bool, true, false, not, take, drop, eqb, Option, Some, None}
use Rattle.service.specs.declared.Service.{Service}
use Rattle.segments.specs.declared.Piece.{Piece}
use Rattle.segments.specs.declared.Piece.TheVariants.{Finished as finished, Unfinished as unfinished}
use Rattle.parts.specs.Written.{strange_places}
use Rattle.values.specs.Numbers.{value_from}
use Rattle.values.specs.Forms.Values.{code_of}
use Rattle.values.specs.Forms.Codes.{LIN, SEQ, UNT}
use Rattle.faults.specs.Firsts.{lesser, place_unless}
use Rattle.tally.specs.declared.Tally.{Tally}

-- the first of some places
abbrev pub first_place : List ℕ → Option ℕ
first_place [] = None
first_place (p ∷ l) = Some p

-- 10: "under 10 the first such byte": of the bytes of a text from a up to but excluding e, the first that no value may have
abbrev pub bad_between : List ℕ → ℕ → ℕ → Option ℕ
bad_between m a e = first_place (strange_places a (take (e - a) (drop a m)))

abbrev pub one_if : Bool → ℕ
one_if true = 1
one_if false = 0

-- what one segment adds, by its tag; an unfinished one is no segment yet, but its bytes count under 10
abbrev pub finished_one : List ℕ → ℕ → ℕ → ℕ → Tally
finished_one m a e g = record { bad = bad_between m a e; segments = 1; orders = one_if (eqb g LIN); payments = one_if (eqb g SEQ); unt = place_unless (not (eqb g UNT)) a }

abbrev pub unfinished_one : List ℕ → ℕ → ℕ → Tally
unfinished_one m a e = record { bad = bad_between m a e; segments = 0; orders = 0; payments = 0; unt = None }

abbrev pub nothing : Tally
nothing = record { bad = None; segments = 0; orders = 0; payments = 0; unt = None }

-- two tallies together: counts added, the first of the places
abbrev pub together : Tally → Tally → Tally
together t u = record {
  bad = lesser t.bad u.bad;
  segments = t.segments + u.segments;
  orders = t.orders + u.orders;
  payments = t.payments + u.payments;
  unt = lesser t.unt u.unt;
}

-- the tally of segments
unfoldable pub tally_of : Service → List ℕ → List Piece → Tally
tally_of v m [] = nothing
tally_of v m (finished a e ∷ l) = together (finished_one m a e (code_of (value_from v a m))) (tally_of v m l)
tally_of v m (unfinished a e ∷ l) = together (unfinished_one m a e) (tally_of v m l)
