-- The lines before one are found, counted and listed.
-- Assumes nothing.
use Rattle.compare.proofs.LinesFound.{Reached}
use Rattle.compare.proofs.pixels.Frames.find.Given as goal

abbrev pub invariant-loop-number : goal.invariant-loop-number
invariant-loop-number l = Reached l.self.first.now l.self.second.now l.line_counts l.cells l.found l.number
