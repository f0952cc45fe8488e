-- The last segment that the reader gives is the last of the list.
use Rattle.std.proofs.Common.{◌∙◌, sym, Some, None}
use Rattle.interchange.specs.Laws.NearLaws.{last_given}
use Rattle.interchange.proofs.ends_with_unz.Goals as goal

pub returns-in-Some : goal.returns-in-Some
returns-in-Some c =
    c.is_unz.ensures ∙ last_given _ _ _ _ c.segments.ensures.left (Some _) c.in-Some.ensures.ran ∙ sym c.near_end.ensures

pub returns-in-None : goal.returns-in-None
returns-in-None c = last_given _ _ _ _ c.segments.ensures.left None c.in-None.ensures.ran ∙ sym c.near_end.ensures
