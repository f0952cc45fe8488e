use Prim.Native.Nat.{zero, suc, ◌+◌, ◌<◌}
use native.Mathlib.Omega.{arith}
use Rattle.std.proofs.Common.{refl}
use Rattle.listing.proofs.Segments.{listing_first, listing_next, listing_room_rows, listing_room_starts, listing_done}
use Rattle.listing.proofs.put_lists.Goals as goal

pub loop-k-init : goal.loop-k-init
loop-k-init c = rw (c.into_iter-k-iterator.ensures.into_iter_gives, c.enumerate-k-items.ensures.source, c.enumerate-k-items.ensures.count, c.take.ensures.source, c.take.ensures.count, c.segments.ensures.left)
    (listing_first _ _ _ _ _ _ _ _, (refl, refl, refl), omega arith)

pub put_segment-requires-clause-k_in_bounds : goal.put_segment-requires-clause-k_in_bounds
put_segment-requires-clause-k_in_bounds c =
    let q = c.loop-k.invariant.2 in
    let u = c.in-Some.ensures.steps.0.1 in
    listing_room_rows _ _ _ _ _ _ _ _ _ _ _ _ _ _ _ c.loop-k.invariant.0 c.if-lists-segments.false c.if-lists-segments-2.false c.if-lists-orders.false (omega arith) _ c.in-Some.ensures.steps.1

pub put_segment-requires-clause-k_in_bounds_2 : goal.put_segment-requires-clause-k_in_bounds_2
put_segment-requires-clause-k_in_bounds_2 c =
    let q = c.loop-k.invariant.2 in
    let u = c.in-Some.ensures.steps.0.1 in
    listing_room_starts _ _ _ _ _ _ _ _ _ _ _ _ _ _ _ c.loop-k.invariant.0 c.if-lists-segments.false c.if-lists-segments-2.false c.if-lists-orders.false (omega arith) _ c.in-Some.ensures.steps.1

pub loop-k-preserved : goal.loop-k-preserved
loop-k-preserved c =
    let q = c.loop-k.invariant.2 in
    let u = c.in-Some.ensures.steps.0.1 in
    let w = c.in-Some.ensures.steps.2 in (
      listing_next _ _ _ _ _ _ _ _ _ _ _ _ _ _ _ c.loop-k.invariant.0 c.if-lists-segments.false c.if-lists-segments-2.false c.if-lists-orders.false (omega arith)
          _ _ c.in-Some.ensures.steps.0.0.yields _ c.start-at.ensures _ c.code_at.ensures _ c.next_row-row.ensures _ _ c.in-Some.ensures.steps.1 w _ _ _ _ c.put_segment.ensures c.put_total-n.ensures,
      c.loop-k.invariant.1,
      omega arith,
    )

pub returns-clause-after : goal.returns-clause-after
returns-clause-after c =
    listing_done _ _ _ _ _ _ _ _ _ _ _ _ _ _ _ c.loop-k.invariant.0 c.if-lists-segments.false c.if-lists-segments-2.false c.if-lists-orders.false _ c.loop-k.invariant.2
    (λ some. (c.in-None.ensures.steps.0 some).yields.0)

pub returns-clause-same_references : goal.returns-clause-same_references
returns-clause-same_references c = c.loop-k.invariant.1
