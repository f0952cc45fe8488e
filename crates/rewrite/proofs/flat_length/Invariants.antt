-- flat_length: what its loop keeps.
use Rattle.std.proofs.Common.{length}
use Rattle.parts.specs.Tokens.{tokens, tokens_left}
use Rattle.rewrite.specs.Forms.Flat.{flat}
use Rattle.rewrite.proofs.flat_length.Given as goal
use Rattle.rewrite.specs.Laws.LengthLaws.{Counted}

abbrev pub invariant-loop-part : goal.invariant-loop-part
invariant-loop-part l = Counted (length (flat 0 0 (tokens l.fn.text l.at))) l.n l.elements l.components (tokens_left l.part-iterator)
