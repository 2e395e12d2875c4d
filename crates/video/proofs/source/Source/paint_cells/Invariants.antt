-- Before each turn the cells before a column are painted and counted, and their addresses marked where that is asked for.
use Rattle.std.proofs.Common.{not, eqb}
use Rattle.video.specs.Internal.{block_ram}
use Rattle.video.proofs.Columns.{Reached, Marked}
use Rattle.video.proofs.source.Source.paint_cells.Given as goal

abbrev pub invariant-loop-column : goal.invariant-loop-column
invariant-loop-column g l =
    let ram = block_ram l.self.block.now in
    let counter = l.self.state.counter in
    let mode = l.fn.before.mode in record {
      done : Reached ram counter l.line.number mode l.cells l.registers l.screen l.character l.column;
      marks : Marked ram counter l.line.number mode (not (eqb g.row.MARKED 0)) l.column l.fn.marks l.marks;
    }
