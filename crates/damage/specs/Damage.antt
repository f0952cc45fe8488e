-- Damage to messages of an interchange: what the theorem `damage` of `DamageTheorem` says.
use Rattle.std.specs.Prelude.{ℕ, ◌+◌, ◌-◌, ◌≤◌, ◌≡◌, List, [], ◌∷◌, ◌++◌, map, Bool, true, false, length, take, drop}
use Rattle.service.specs.declared.Service.{Service}
use Rattle.service.specs.Tests.{last_of}
use Rattle.segments.specs.declared.Piece.{Piece}
use Rattle.segments.specs.declared.Piece.TheVariants.{Finished as finished}
use Rattle.segments.specs.SegmentList.{segments_after}
use Rattle.interchange.specs.Messages.{Extent, closed, is_closed, starts_at, ends_at, bytes_of}

-- whether the last of some messages is closed, or, of none, what is given
abbrev pub last_closed : Bool → List Extent → Bool
last_closed b l = last_of b (map is_closed l)

-- ---- what is damaged
-- "any stretch of that message", from one place up to but excluding another, and the "other bytes of whatever number" in its place
pub record Stretch : Type 0 where
  pub from : ℕ
  pub upto : ℕ
  pub new : List ℕ

-- what befell a message: it is whole, or whole but next to one that was hit up to the end of its UNT, or a stretch of it was replaced
pub data Mark : Type 0 where
  whole next : Mark
  hit : Stretch → Mark

-- s with such a stretch replaced
abbrev pub replaced : List ℕ → Stretch → List ℕ
replaced s c = take c.from s ++ (c.new ++ drop c.upto s)

-- s after the damage to its messages, one mark for each, in order. The places are those of s: what stands behind is replaced first.
abbrev pub damaged : List ℕ → List Mark → List ℕ
damaged s [] = s
damaged s (whole ∷ k) = damaged s k
damaged s (next ∷ k) = damaged s k
damaged s (hit c ∷ k) = replaced (damaged s k) c

-- two finished segments one after the other: the terminator of the first at t, that of the second at z
pub data Before (t z : ℕ) : List Piece → Type 0 where
  here : (b u : ℕ) (l : List Piece) → Before t z (finished b t ∷ finished u z ∷ l)
  later : (p : Piece) (l : List Piece) → Before t z l → Before t z (p ∷ l)

-- a stretch from a or after, up to but excluding t at most
pub record Within (a t : ℕ) (c : Stretch) : Type 0 where
  pub low : a ≤ c.from
  pub order : c.from ≤ c.upto
  pub high : c.upto ≤ t

-- messages of s and what befell each. The first `Bool`: the message before them has its own UNT, or there is none before them. The second: that message was hit up to the end of its UNT, so that the
-- first of them may be lost.
pub data Hits (v : Service) (s : List ℕ) : Bool → Bool → List Extent → List Mark → Type 0 where
  none : (b : Bool) → Hits v s b false [] []
  spared : (b : Bool) (m : Extent) (ms : List Extent) (k : List Mark) → Hits v s (is_closed m) false ms k → Hits v s b false (m ∷ ms) (whole ∷ k)
  -- "the message directly after may be lost"
  passed : (b : Bool) (m : Extent) (ms : List Extent) (k : List Mark) → Hits v s (is_closed m) false ms k → Hits v s b true (m ∷ ms) (next ∷ k)
  -- "a message in it that has its own UNT, as has the message before it, if there is one", hit "from its UNH up to but excluding the terminator before its UNT", t;
  -- the UNT's own terminator is z
  near : (b : Bool) (a t z e : ℕ) (c : Stretch) (ms : List Extent) (k : List Mark) → z + 1 ≡ e → Before t z (segments_after v s a) → Within a t c → Hits v s true false ms k
      → Hits v s true b (closed a e ∷ ms) (hit c ∷ k)
  -- such a message, hit "up to but excluding the terminator of the UNT itself, and the message is not the last": the one after it, which may be lost, is `passed`, or is hit too; it is not `none`
  far : (b : Bool) (a z e : ℕ) (c : Stretch) (ms : List Extent) (k : List Mark) → z + 1 ≡ e → Within a z c → Hits v s true true ms k → Hits v s true b (closed a e ∷ ms) (hit c ∷ k)

-- ---- what is left
-- what there was of each message, and what there is after the damage, where n bytes before it all became n': to each whole message belongs its like, in the same order;
-- in the place of any other stands whatever there is
pub data Beside {A : Type 0} (Alike : ℕ → ℕ → A → A → Type 0) : ℕ → ℕ → List Mark → List A → List A → Type 0 where
  none : (n n' : ℕ) → Beside Alike n n' [] [] []
  spared : (n n' : ℕ) (x x' : A) (k : List Mark) (l l' : List A) → Alike n n' x x' → Beside Alike n n' k l l' → Beside Alike n n' (whole ∷ k) (x ∷ l) (x' ∷ l')
  struck : (n n' : ℕ) (c : Stretch) (x : A) (k : List Mark) (l new l' : List A) → Beside Alike (n + (c.upto - c.from)) (n' + length c.new) k l l'
      → Beside Alike n n' (hit c ∷ k) (x ∷ l) (new ++ l')
  passed : (n n' : ℕ) (x : A) (k : List Mark) (l new l' : List A) → Beside Alike n n' k l l' → Beside Alike n n' (next ∷ k) (x ∷ l) (new ++ l')

-- a message of s, and one of s' that is closed as it was, whose start and end are "shifted by the difference", and whose bytes are the same
pub record Stays (s s' : List ℕ) (n n' : ℕ) (m m' : Extent) : Type 0 where
  pub closes : is_closed m' ≡ is_closed m
  pub start : starts_at m' + n ≡ starts_at m + n'
  pub end : ends_at m' + n ≡ ends_at m + n'
  pub bytes : bytes_of s' m' ≡ bytes_of s m
