use Rattle.std.proofs.Common.{refl, sym, length-take-le}
use Rattle.payreport.specs.Laws.PrintedLaws.{at_call, took_made}
use Rattle.payreport.proofs.put_line.Goals as goal

pub slice_bounds-room-end : goal.slice_bounds-room-end
slice_bounds-room-end g c = (c.requires.line _ _ _ refl (at_call _ _ _ _ _ c.make-n.ensures)).0

pub slice_bounds-write_line-end : goal.slice_bounds-write_line-end
slice_bounds-write_line-end g c = sym (length-take-le _ _ (c.requires.line _ _ _ refl (at_call _ _ _ _ _ c.make-n.ensures)).0)

pub write_line-requires : goal.write_line-requires
write_line-requires g c = (c.requires.line _ _ _ refl (at_call _ _ _ _ _ c.make-n.ensures)).1

pub returns : goal.returns
returns g c = took_made _ _ _ _ _ _ _ refl (at_call _ _ _ _ _ c.make-n.ensures) c.write_line.ensures
