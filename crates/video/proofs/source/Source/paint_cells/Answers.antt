-- `video::source::Source::paint_cells` meets its contract: one cell more is painted, and marked where that is asked for, in each turn.
use Rattle.std.proofs.Common.{◌≡◌, cond, not, eqb, is_some, ap, ◌∙◌, arith}
use Rattle.std.specs.Int.{from_bool}
use borrow.Author.Tests.{eq-eqb, ne_eqb}
use Rattle.machine.specs.Sizes.{columns}
use Rattle.used_map.specs.Map.{marked}
use Rattle.video.specs.Internal.{used_by}
use Rattle.video.proofs.Columns.{none, none_marked, next, next_marked, few, all}
use Rattle.video.proofs.source.Source.paint_cells.Goals.{then-this-ne0, else-this-ne0}
use Rattle.video.proofs.source.Source.paint_cells.Goals as goal

pub loop-column-init : goal.loop-column-init
loop-column-init g c = record {
  done = none _ _ _ _ c.args.cells.now c.line_reset-registers.result (omega arith) c.line_reset-registers.ensures;
  marks = none_marked _ _ _ _ (not (eqb g.row.MARKED 0)) c.args.marks.now (λ k. (c.type_inv.marks k).fits);
}

pub overflow_add-character : goal.overflow_add-character
overflow_add-character g c =
    let cell = c.paint_cell-cell in
    let grown = next _ _ _ _ _ _ _ _ _ c.loop-column.invariant.done cell.result cell.ensures (omega arith) in
    let counted : c.from-character.result ≡ from_bool (is_some cell.result.character) = c.from-character.ensures ∙ ap from_bool c.is_some.ensures in
    record { fits = rw counted (omega (arith, few _ _ _ _ _ _ _ _ _ grown)) }

pub loop-column-preserved : goal.loop-column-preserved
loop-column-preserved g c =
    let here = c.loop-column in
    let cell = c.paint_cell-cell in
    let counted : c.from-character.result ≡ from_bool (is_some cell.result.character) = c.from-character.ensures ∙ ap from_bool c.is_some.ensures in
    let after : c.if-this-ne0.marks ≡ cond (not (eqb g.row.MARKED 0)) (marked here.marks (used_by cell.result)) here.marks =
    elim c.if-this-ne0.branch [
      | then-this-ne0 w ↦ w.marks-is ∙ w.mark_cell.ensures ∙ simp (ne_eqb g.row.MARKED 0 w.if-this-ne0.true)
      | else-this-ne0 w ↦ w.marks-is ∙ simp (eq-eqb g.row.MARKED 0 w.if-this-ne0.false)
    ] in record {
      done = rw counted (next _ _ _ _ _ _ _ _ _ here.invariant.done cell.result cell.ensures (omega arith));
      marks = next_marked _ _ _ _ _ _ _ _ _ here.invariant.done cell.result cell.ensures (not (eqb g.row.MARKED 0)) _ here.marks _ here.invariant.marks after;
    }

pub returns-clause-value : goal.returns-clause-value
returns-clause-value g c = (all _ _ _ _ _ _ _ _ _ c.loop-column.invariant.done (omega arith)).0

pub returns-clause-cells_after : goal.returns-clause-cells_after
returns-clause-cells_after g c = (all _ _ _ _ _ _ _ _ _ c.loop-column.invariant.done (omega arith)).1

pub returns-clause-marks_after : goal.returns-clause-marks_after
returns-clause-marks_after g c = let end : c.loop-column.column ≡ columns = omega arith in rw end at c.loop-column.invariant.marks
