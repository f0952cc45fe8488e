-- Demand 3: damage to messages of an interchange leaves every other message, and what is told of it, as it was.
use Rattle.std.specs.Prelude.{ℕ, ◌+◌, ◌≤◌, ◌≡◌, List, ◌∷◌, ◌++◌, map, true, false, length}
use Rattle.service.specs.declared.Service.{Service}
use Rattle.segments.specs.SegmentList.{segments_after}
use Rattle.interchange.specs.Messages.{Extent, closed, starts_at, ends_at, messages_of}
use Rattle.interchange.specs.Envelope.{body_of}
use Rattle.interchange.specs.Opened.{Opened}
use Rattle.damage.specs.Damage.{last_closed, Before, Mark, whole, damaged, Hits, Beside, Stays}
use Rattle.lent.specs.Lists.{Lists, Left}
use Rattle.report.specs.Answers.{Report}
use Rattle.walk.specs.Steps.{Message}
use Rattle.walk.specs.Walks.{Walks, Judges}
use Rattle.demands.specs.Runs.{Visit, Run, Steps, Owned, Over}

-- "Take an interchange that opens and a message in it that has its own UNT, as has the message before it, if there is one", or several such messages. "Replace any stretch of that message,
-- from its UNH up to but excluding the terminator before its UNT, by other bytes of whatever number, the whole staying within the length limit", or up to but excluding the terminator of
-- the UNT itself (`Hits`)
pub record Chosen (s : List ℕ) (v : Service) (first : ℕ) (k : List Mark) : Type 0 where
  pub opens : Opened s v first
  pub hits : Hits v s true false (messages_of v s (body_of v s first)) k
  pub short : length (damaged s k) ≤ 1048576

-- a call that finds the message m of s, and one that finds the message m' of s', from whatever position: with lists of the same content both give the same report
-- and leave the same in the lists
abbrev pub SameReport : List ℕ → List ℕ → Extent → Extent → Type 0
SameReport s s' m m' =
    (x : Lists) (at at' : ℕ) (g g' : Left Report) → Walks s at x g.lists (Message (starts_at m) (ends_at m) g.answer)
    → Walks s' at' x g'.lists (Message (starts_at m') (ends_at m') g'.answer) → g ≡ g'

-- and where either is found by a call for several positions, both are judged alike
abbrev pub SameJudged : List ℕ → List ℕ → Extent → Extent → Type 0
SameJudged s s' m m' = (at at' : ℕ) (y y' : Report) → Judges s at (Message (starts_at m) (ends_at m) y) → Judges s' at' (Message (starts_at m') (ends_at m') y') → y ≡ y'

-- a message that is found still, and of which the same is told, where n bytes before it became n'
pub record Unhurt (s s' : List ℕ) (n n' : ℕ) (m m' : Extent) : Type 0 where
  pub stays : Stays s s' n n' m m'
  pub report : SameReport s s' m m'
  pub judged : SameJudged s s' m m'

-- a call of a walk, and the one that gives the same after the damage, the place moved
pub record Again (n n' : ℕ) (w w' : Visit) : Type 0 where
  pub start : w'.start + n ≡ w.start + n'
  pub end : w'.end + n ≡ w.end + n'
  pub given : w'.given ≡ w.given

-- "Each other message is still found, in the same order, and with the same lent room its report is the one demand 2 gives to its own bytes."
pub record Unharmed (v : Service) (s s' : List ℕ) (first : ℕ) (k : List Mark) : Type 0 where
  -- the interchange opens as it did
  pub opens : Opened s' v first
  -- the walk from the first byte on finds these, and then that none is left
  pub found : List Extent
  pub steps : Steps s' 0 found
  -- each is found at its own first byte too
  pub owned : Owned s' found
  -- whatever the calls give, it is what demand 2 gives to each message's own bytes
  pub told : (x : Lists) (l : List Visit) → Run s' x 0 l → Over v s' x found l
  -- each other message is among them, in the same order, and the same is told of it: call by call, and over two whole walks
  pub each : Beside (Unhurt s s') 0 0 k (messages_of v s (body_of v s first)) found
  pub same : (x : Lists) (l l' : List Visit) → Run s x 0 l → Run s' x 0 l' → Beside Again 0 0 k l l'

-- ---- one message
-- "a message in it that has its own UNT, as has the message before it, if there is one": from a up to e, with the messages before and after it; t is the terminator before its UNT, z the
-- UNT's own
pub record One (s : List ℕ) (v : Service) (first : ℕ) (before : List Extent) (a t z e : ℕ) (after : List Extent) : Type 0 where
  pub opens : Opened s v first
  pub messages : messages_of v s (body_of v s first) ≡ before ++ (closed a e ∷ after)
  pub closes : last_closed true before ≡ true
  pub precedes : Before t z (segments_after v s a)
  pub ends : z + 1 ≡ e

-- the marks of all messages where those before and after some are whole
abbrev pub only : List Extent → List Mark → List Extent → List Mark
only before k after = map (λ (m : Extent). whole) before ++ (k ++ map (λ (m : Extent). whole) after)
