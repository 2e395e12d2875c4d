-- The steps of `Reached`: no column yet, one more.
-- Assumes nothing.
use Rattle.std.proofs.Common.{sym, ◌∙◌, arith}
use Rattle.compare.proofs.CellsListed.{none, few, next_listed, next_equal}
use Rattle.compare.proofs.pixels.Line.list_cells.Goals.{then-cell_differs, else-cell_differs}
use Rattle.compare.proofs.pixels.Line.list_cells.Goals as goal

pub loop-column-init : goal.loop-column-init
loop-column-init c =
    let a = c.args in
    none a.self.frames.first.now a.self.frames.second.now a.self.number a.before a.cells.now

pub overflow_add-count : goal.overflow_add-count
overflow_add-count c = omega (arith, few _ _ _ _ _ _ _ _ c.loop-column.invariant c.requires)

pub loop-column-preserved : goal.loop-column-preserved
loop-column-preserved c =
    elim c.if-cell_differs.branch [
      | then-cell_differs w ↦
          rw (w.cells-is, w.list_cell.ensures, w.count-is)
          (next_listed _ _ _ _ _ _ _ _ c.loop-column.invariant (omega arith) (sym c.cell_differs.ensures ∙ w.if-cell_differs.true))
      | else-cell_differs w ↦
          rw (w.cells-is, w.count-is)
          (next_equal _ _ _ _ _ _ _ _ c.loop-column.invariant (omega arith) (sym c.cell_differs.ensures ∙ w.if-cell_differs.false))
    ]
