-- put_flat: what its loop keeps.
use Rattle.parts.specs.Tokens.{tokens, tokens_left}
use Rattle.rewrite.specs.Forms.Flat.{flat}
use Rattle.rewrite.proofs.put_flat.Given as goal
use Rattle.rewrite.specs.Laws.WriteLaws.{Flowing}

abbrev pub invariant-loop-part : goal.invariant-loop-part
invariant-loop-part l = Flowing l.fn.text.bytes.now l.from (flat 0 0 (tokens l.fn.text l.at)) l.initial.out l.out l.j l.elements l.components (tokens_left l.part-iterator)
