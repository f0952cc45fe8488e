-- Row 12 of the cases holds, and those beside it. Assumes nothing.
use Rattle.std.specs.Prelude.{refl}
use Rattle.service.specs.Service.{among}
use Rattle.segments.specs.Classes.{class_of}
use Rattle.segments.specs.SegmentList.{pieces}
use Rattle.parts.specs.Parts.{lex, elements}
use Rattle.parts.specs.Trimmed.{trim, trimmed, values_in}
use Rattle.rewrite.specs.Plain.{is_released, plain_byte, plain_value, behind, plain_element, plain_elements, plain_segment, plain}
use Rattle.rewrite.specs.Cases.{Cases}

pub cases : Cases
unfolding among class_of pieces lex elements trim trimmed values_in is_released plain_byte plain_value behind plain_element plain_elements plain_segment plain
cases = record { twelve = (refl, refl); empty = refl; tag = refl; break = refl; release = refl }
