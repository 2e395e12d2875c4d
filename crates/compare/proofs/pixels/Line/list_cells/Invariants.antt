-- The cells before a column are counted and listed.
-- Assumes nothing.
use Rattle.compare.proofs.CellsListed.{Reached}
use Rattle.compare.proofs.pixels.Line.list_cells.Given as goal

abbrev pub invariant-loop-column : goal.invariant-loop-column
invariant-loop-column l = Reached l.self.frames.first.now l.self.frames.second.now l.self.number l.before l.fn.cells l.count l.cells l.column
