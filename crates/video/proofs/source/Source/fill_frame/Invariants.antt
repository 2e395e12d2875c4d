-- Before each turn the lines before a line are painted and counted, and their addresses marked where that is asked for.
use Rattle.std.proofs.Common.{not, eqb}
use Rattle.video.proofs.FillFrame.{Reached, Marked}
use Rattle.video.proofs.source.Source.fill_frame.Given as goal

abbrev pub invariant-loop-line : goal.invariant-loop-line
invariant-loop-line g l = record {
  done : Reached l.self.block.now l.self.state l.frame l.registers l.screen l.character l.line;
  marks : Marked l.self.block.now l.self.state (not (eqb g.row.MARKED 0)) l.line l.fn.marks l.marks;
}
