-- A UNZ that others follow is any other segment.
use Rattle.interchange.specs.Laws.KindLaws.{tag_inner, tag_other}
use Rattle.interchange.proofs.kind_at.Goals.{else-tag-eq-UNZ-via-then-tag-eq-UNZ+else-text-rest, else-tag-eq-UNZ-via-else-tag-eq-UNZ}
use Rattle.interchange.proofs.kind_at.Goals as goal

pub returns-else-tag-eq-UNZ : goal.returns-else-tag-eq-UNZ
returns-else-tag-eq-UNZ c =
    elim c.else-tag-eq-UNZ.branch [
      | else-tag-eq-UNZ-via-then-tag-eq-UNZ+else-text-rest w ↦ tag_inner _ _ c.tag_at-tag.ensures c.if-tag-eq-UNH.false c.if-tag-eq-UNT.false _ _ _ w.if-text-rest.false
      | else-tag-eq-UNZ-via-else-tag-eq-UNZ w ↦ tag_other _ _ c.tag_at-tag.ensures c.if-tag-eq-UNH.false c.if-tag-eq-UNT.false _ _ _ w.if-tag-eq-UNZ.false
    ]
