-- A walk over an interchange, call by call.
use Rattle.std.specs.Prelude.{ℕ, ◌≡◌, List, [], ◌∷◌}
use Rattle.service.specs.declared.Service.{Service}
use Rattle.interchange.specs.Messages.{Extent, starts_at, ends_at, bytes_of}
use Rattle.lent.specs.Lists.{Lists, Left}
use Rattle.report.specs.Answers.{Report}
use Rattle.report.specs.Reported.{Reported}
use Rattle.walk.specs.Steps.{Message, Nothing}
use Rattle.walk.specs.Frame.{message, nothing, step_from}
use Rattle.walk.specs.Walks.{Walks}

-- what one call gives: where the message lies, its report, and the lists after the call
pub record Visit : Type 0 where
  pub start : ℕ
  pub end : ℕ
  pub given : Left Report

-- calls of the walk from a position on, each at the end of the message before, each with lists of the same content, until none is left
pub data Run (b : List ℕ) (x : Lists) : ℕ → List Visit → Type 0 where
  done : (at : ℕ) (x' : Lists) → Walks b at x x' Nothing → Run b x at []
  next : (at : ℕ) (w : Visit) (l : List Visit) → Walks b at x w.given.lists (Message w.start w.end w.given.answer) → Run b x w.end l → Run b x at (w ∷ l)

-- the messages that such calls find, their reports aside
pub data Steps (b : List ℕ) : ℕ → List Extent → Type 0 where
  done : (at : ℕ) → step_from b at ≡ nothing → Steps b at []
  next : (at : ℕ) (m : Extent) (ms : List Extent) → step_from b at ≡ message (starts_at m) (ends_at m) → Steps b (ends_at m) ms → Steps b at (m ∷ ms)

-- and each is found at its own first byte
pub data Owned (b : List ℕ) : List Extent → Type 0 where
  none : Owned b []
  also : (m : Extent) (ms : List Extent) → step_from b (starts_at m) ≡ message (starts_at m) (ends_at m) → Owned b ms → Owned b (m ∷ ms)

-- what is given of these messages, one by one: the report that demand 2 gives to the message's own bytes
pub record Told (v : Service) (b : List ℕ) (x : Lists) (m : Extent) (w : Visit) : Type 0 where
  pub start : w.start ≡ starts_at m
  pub end : w.end ≡ ends_at m
  pub report : Reported v (bytes_of b m) x w.given.lists w.given.answer

pub data Over (v : Service) (b : List ℕ) (x : Lists) : List Extent → List Visit → Type 0 where
  none : Over v b x [] []
  also : (m : Extent) (w : Visit) (ms : List Extent) (l : List Visit) → Told v b x m w → Over v b x ms l → Over v b x (m ∷ ms) (w ∷ l)
