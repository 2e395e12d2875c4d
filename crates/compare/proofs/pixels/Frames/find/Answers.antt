-- The steps of `Reached`: no line yet, one more.
-- Assumes nothing.
use Rattle.std.proofs.Common.{arith}
use Rattle.compare.proofs.LinesFound.{none, few, next}
use Rattle.compare.proofs.pixels.Frames.find.Goals as goal

pub loop-number-init : goal.loop-number-init
loop-number-init c =
    let a = c.args in
    none a.self.first.now a.self.second.now a.line_counts.now a.cells.now c.nothing-found.result c.requires.line_counts_len c.requires.cells_value c.nothing-found.ensures

pub with_line-found-requires-clause-left_le_line_length : goal.with_line-found-requires-clause-left_le_line_length
with_line-found-requires-clause-left_le_line_length c = (few _ _ _ _ _ _ c.loop-number.invariant).0

pub with_line-found-requires-clause-pixels_bound : goal.with_line-found-requires-clause-pixels_bound
with_line-found-requires-clause-pixels_bound c = (few _ _ _ _ _ _ c.loop-number.invariant).1

pub with_line-found-requires-clause-cells_bound : goal.with_line-found-requires-clause-cells_bound
with_line-found-requires-clause-cells_bound c = (few _ _ _ _ _ _ c.loop-number.invariant).2

pub loop-number-preserved : goal.loop-number-preserved
loop-number-preserved c =
    let counted = c.differing_pixels-pixels in
    let found = c.with_line-found in
    next _ _ _ _ _ _ c.loop-number.invariant (omega arith) counted.result found.result found.new.cells counted.ensures found.ensures.value found.ensures.cells_after
