-- `video::source::Source::fill_line` meets its contract: the pixels are the joined colours of the line's cells.
use Rattle.std.proofs.Common.{◌≡◌, ℕ, List, [], ◌∷◌, ◌++◌, refl, ap, ◌∙◌}
use Rattle.std.specs.List.{flat_map}
use mathlib.Core.List.{flatten}
use Rattle.video.specs.Cell.{pixels}
use Rattle.video.proofs.source.Source.fill_line.Goals as goal

flattened : (xs : List (List ℕ)) → flat_map (λ (x : List ℕ). x) xs ≡ flatten xs
unfolding flatten
flattened [] = refl
flattened (x ∷ xs) = ap (λ (l : List ℕ). x ++ l) (flattened xs)

pub returns-clause-output_after : goal.returns-clause-output_after
unfolding pixels
returns-clause-output_after g c =
    let cells = c.paint_cells-painted.new.cells in
    c.copy_from_slice.ensures.after ∙ c.as_flattened.ensures.value ∙ flattened cells ∙ ap flatten c.paint_cells-painted.ensures.cells_after
