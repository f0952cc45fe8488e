use Rattle.rewrite.specs.Laws.WriteLaws.{segment_put}
use Rattle.std.proofs.Common.{rules}
use Rattle.rewrite.proofs.put_segment.Goals as goal

pub returns : goal.returns
returns c = search (segment_put, rules)
