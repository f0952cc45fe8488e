-- The tokens of a text from a place on, and those that a reader of them has left.
use Rattle.std.specs.Prelude.{ℕ, List, false, drop}
use Rattle.segments.specs.declared.Text.{Text}
use Rattle.parts.specs.declared.Part.{Part}
use Rattle.parts.specs.declared.Part.TheVariants as part
use Rattle.parts.specs.declared.Tokens.{Tokens}
use Rattle.parts.specs.Parts.{Tok, byte, comp, elem, lex}

abbrev pub tokens : Text → ℕ → List Tok
tokens t i = lex t.service false (drop i t.bytes.now)

-- what a reader of tokens gives for one
abbrev pub tok : Part → Tok
tok (part.Byte b) = byte b
tok part.Comp = comp
tok part.Elem = elem

abbrev pub tokens_left : Tokens → List Tok
tokens_left r = tokens r.text r.at
