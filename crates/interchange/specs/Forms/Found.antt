-- The message that begins at a UNH, as the loop that looks for its end finds it.
use Rattle.std.specs.Prelude.{ℕ, List}
use Rattle.service.specs.declared.Service.{Service}
use Rattle.segments.specs.declared.Piece.{Piece}
use Rattle.interchange.specs.Answers.{Found}
use Rattle.interchange.specs.Messages.{extent_of, found_one}

-- the message that begins at a, sought among the segments that follow its UNH
unfoldable pub end_found : Service → List ℕ → ℕ → List Piece → Found
end_found v s a l = found_one (extent_of v s a l) l
