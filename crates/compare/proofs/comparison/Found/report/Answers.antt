-- The sides are the definition's.
-- Assumes nothing.
use Rattle.std.proofs.Common.{ℕ, ◌≡◌, Bool, cond, eqb, sym, ap, ◌∙◌}
use borrow.Author.Tests.{eq-eqb, ne_eqb}
use Rattle.compare.specs.Internal.{reported}
use Rattle.compare.proofs.comparison.Found.report.Goals.{then-empty, else-empty}
use Rattle.compare.proofs.comparison.Found.report.Goals as goal

pub returns : goal.returns
unfolding reported
returns c =
    let found = c.args.self in
    let empty = eqb found.pixels 0 in
    let chosen : Bool → ℕ × ℕ = λ t. (cond t 0 found.left, cond t 0 found.top) in
    let sides : c.if-empty.first_x ≡ chosen empty =
    elim c.if-empty.branch [ then-empty w ↦ w.first_x-is ∙ ap chosen (sym (eq-eqb found.pixels 0 w.if-empty.true)) | else-empty w ↦ w.first_x-is ∙ ap chosen (sym (ne_eqb found.pixels 0 w.if-empty.false)) ] in
    rw sides
