-- A turn keeps the bytes of one read more.
use Rattle.std.proofs.Common.{arith}
use Rattle.listing.proofs.Input.{came_next}
use Rattle.listing.proofs.read_full.Goals as goal

pub loop-size-preserved : goal.loop-size-preserved
loop-size-preserved g c =
    let here = c.loop-size.invariant in
    let read = c.in_ok-count.ensures in
    (omega arith, came_next _ _ _ _ _ _ _ here.0 (omega arith) here.1 read.bytes.0)
