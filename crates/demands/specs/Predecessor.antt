-- Why demand 3 asks that the message before has its own UNT: without that, what the damage leaves is taken in by the message before, which then ends elsewhere.
use Rattle.std.specs.Prelude.{ℕ, ◌≡◌, List, [], ◌∷◌}
use Rattle.service.specs.Service.{plain_service}
use Rattle.segments.specs.SegmentList.{segments_after}
use Rattle.values.specs.Text.{text}
use Rattle.interchange.specs.Messages.{Extent, closed, unclosed, messages_of}
use Rattle.interchange.specs.Envelope.{body_of}
use Rattle.interchange.specs.Opened.{Opened}
use Rattle.damage.specs.Damage.{Before, Stretch, hit, next, replaced, Within}
use Rattle.demands.specs.OtherMessages.{Unharmed, only}

-- four messages, the first without a UNT
abbrev pub four : List ℕ
four = text "UNB+UNOA:3+A+B+1:1+R'UNH+1'UNH+2'BGM'UNT+3+2'UNH+3'UNT+2+3'UNH+4'UNT+2+4'UNZ+4+R'"

abbrev pub four_messages : List Extent
four_messages = unclosed 21 27 ∷ closed 27 45 ∷ closed 45 59 ∷ closed 59 73 ∷ []

-- the second from its UNH up to the terminator before its UNT, and up to its UNT's own
abbrev pub nearer : Stretch
nearer = record { from = 27; upto = 36; new = text "FTX" }

abbrev pub farther : Stretch
farther = record { from = 27; upto = 44; new = text "FTX" }

pub record Predecessor : Type 0 where
  -- all that `One` asks for of the second message, but for the message before it
  pub opens : Opened four plain_service 0
  pub was : messages_of plain_service four (body_of plain_service four 0) ≡ four_messages
  pub precedes : Before 36 44 (segments_after plain_service four 27)
  pub near : Within 27 36 nearer
  pub far : Within 27 44 farther
  -- the first message now ends with the second's UNT
  pub near_opens : Opened (replaced four nearer) plain_service 0
  pub near_is : messages_of plain_service (replaced four nearer) (body_of plain_service (replaced four nearer) 0) ≡ closed 21 39 ∷ closed 39 53 ∷ closed 53 67 ∷ []
  pub near_harmed : Unharmed plain_service four (replaced four nearer) 0 (only (unclosed 21 27 ∷ []) (hit nearer ∷ []) (closed 45 59 ∷ closed 59 73 ∷ [])) → ⊥
  -- or before the third's UNH
  pub far_opens : Opened (replaced four farther) plain_service 0
  pub far_is : messages_of plain_service (replaced four farther) (body_of plain_service (replaced four farther) 0) ≡ unclosed 21 31 ∷ closed 31 45 ∷ closed 45 59 ∷ []
  pub far_harmed : Unharmed plain_service four (replaced four farther) 0 (only (unclosed 21 27 ∷ []) (hit farther ∷ next ∷ []) (closed 59 73 ∷ [])) → ⊥
