-- The service characters of an interchange, as document 01, "Bytes to segments", says.
use Rattle.std.specs.Prelude.{ℕ, ◌≡◌, List, [], ◌∷◌, Bool, true, false, not, ◌&&◌, ◌||◌, Option, Some, None, length, get_or, eqb, leb}
use Rattle.service.specs.declared.Service.{Service}
use Rattle.service.specs.declared.Characters.{Characters}
use Rattle.service.specs.Tests.{if}

-- "Without UNA they are `:` `+` `,` `?` space `'`." The mark serves no segment, so it is not kept.
abbrev pub plain_service : Service
plain_service = record { component = 58; element = 43; release = 63; releases = true; terminator = 39 }

-- a byte from a to z
abbrev pub within : ℕ → ℕ → ℕ → Bool
within a z b = leb a b && leb b z

-- a letter or a digit: 0 to 9, A to Z, a to z
unfoldable pub is_alphanumeric : ℕ → Bool
is_alphanumeric b = within 48 57 b || (within 65 90 b || within 97 122 b)

-- "The separators, terminator and release lie in 0x21 to 0x7E and are no letter or digit"
unfoldable pub serves : ℕ → Bool
serves b = within 33 126 b && not (is_alphanumeric b)

-- "release may instead be a space and then there is none"
unfoldable pub is_none : ℕ → Bool
is_none r = eqb r 32

-- "The mark is a comma or a dot."
unfoldable pub is_mark : ℕ → Bool
is_mark b = eqb b 44 || eqb b 46

-- whether a byte is one of a list, and whether the bytes of a list all differ
unfoldable pub among : ℕ → List ℕ → Bool
among b [] = false
among b (x ∷ l) = eqb b x || among b l

unfoldable pub distinct : List ℕ → Bool
distinct [] = true
distinct (x ∷ l) = not (among x l) && distinct l

-- those present: component separator, element separator, mark, release (unless there is none), terminator
abbrev pub present_by : Bool → ℕ → ℕ → ℕ → ℕ → ℕ → List ℕ
present_by true c e m r t = c ∷ e ∷ m ∷ t ∷ []
present_by false c e m r t = c ∷ e ∷ m ∷ r ∷ t ∷ []

-- "The separators, terminator and release lie in .. Those present all differ": the six bytes after UNA are fit, the fifth a space
unfoldable pub fit : ℕ → ℕ → ℕ → ℕ → ℕ → ℕ → Bool
fit c e m r p t =
    eqb p 32
    && (is_mark m
    && (serves c && (serves e && (serves t && (is_none r || serves r))))
    && distinct (present_by (is_none r) c e m r t))

-- the characters that serve an interchange, and the length of the UNA that names them, 9, or 0 without UNA; or none that a reader may go by
abbrev pub Fit : Service → ℕ → Option Characters
Fit v una = Some (record { service = v; una = una })

pattern abbrev pub Unfit : Option Characters
Unfit = None

-- the characters that six bytes name
abbrev pub service_of : ℕ → ℕ → ℕ → ℕ → Service
service_of c e r t = record { component = c; element = e; release = r; releases = not (is_none r); terminator = t }

-- "service characters break the rule above" (number 2) where they are not fit; UNA and they are nine bytes
unfoldable pub named_by : ℕ → ℕ → ℕ → ℕ → ℕ → ℕ → Option Characters
named_by c e m r p t = if (fit c e m r p t) (Fit (service_of c e r t) 9) Unfit

-- what characters are that a reader may go by: each fit by itself, those present all different
abbrev pub serving_by : Bool → Service → List ℕ
serving_by true v = v.component ∷ v.element ∷ v.release ∷ v.terminator ∷ []
serving_by false v = v.component ∷ v.element ∷ v.terminator ∷ []

pub record Fits (v : Service) : Type 0 where
  pub component : serves v.component ≡ true
  pub element : serves v.element ≡ true
  pub terminator : serves v.terminator ≡ true
  pub release : v.releases ≡ true → serves v.release ≡ true
  pub differ : distinct (serving_by v.releases v) ≡ true

-- the same as a test: "service characters break the rule above" (number 2) where it fails. Where there is no release, that byte does not matter.
unfoldable pub fitting : Service → Bool
fitting v =
    (serves v.component && (serves v.element && (serves v.terminator && (not v.releases || serves v.release))))
    && distinct (serving_by v.releases v)

-- whether bytes begin with UNA (past the end of a list, 0 is read)
unfoldable pub begins_una : List ℕ → Bool
begins_una s = eqb (get_or s 0 0) 85 && (eqb (get_or s 1 0) 78 && eqb (get_or s 2 0) 65)

-- "An interchange may begin with UNA and six bytes: component separator, element separator, decimal mark, release, a space, terminator."
-- Fewer than six are cut short (number 2).
unfoldable pub characters_of : List ℕ → Option Characters
characters_of s =
    if (begins_una s)
    (if (leb 9 (length s)) (named_by (get_or s 3 0) (get_or s 4 0) (get_or s 5 0) (get_or s 6 0) (get_or s 7 0) (get_or s 8 0)) Unfit)
    (Fit plain_service 0)
