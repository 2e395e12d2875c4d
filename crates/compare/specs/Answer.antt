-- What a comparison answers, and what it leaves in the two lists that are lent to it, for every input.
-- Assumes nothing.
use Rattle.std.specs.Prelude.{ℕ, false, List, [], ◌∷◌, ◌++◌, map, eqb, length, take, replicate}
use Rattle.machine.specs.Lists.{gather}
use Rattle.machine.specs.Refusal.{refusal, if_done, output_check}
use Rattle.machine.specs.Sizes.{lines, frame_length}
use Rattle.machine.specs.Numbers.{least, greatest}
use Rattle.compare.specs.Places.{x_of, line_of, differences, on_line, differing_cells}
use Rattle.compare.specs.declared.comparison.Comparison.{Comparison}

-- the cells that are listed
abbrev pub list_length : ℕ
list_length = 64

-- stands in a place of the list that is not used
abbrev pub no_cell : ℕ
no_cell = 65535

-- the number of pixels, the smallest rectangle that holds them, and the number of cells
unfoldable pub report : List ℕ → Comparison
report places = record {
  status = 0;
  empty = eqb (length places) 0;
  first_x = least (map x_of places);
  last_x = greatest (map x_of places);
  first_line = least (map line_of places);
  last_line = greatest (map line_of places);
  pixels = length places;
  cells = length (differing_cells places);
}

-- how many of some places stand on each line
unfoldable pub line_counts : List ℕ → List ℕ
line_counts places = gather (λ (line : ℕ). length (on_line places line) ∷ []) lines

-- the first 64 cells; what is left of the list holds 65,535
unfoldable pub listed : List ℕ → List ℕ
listed cells = take list_length (cells ++ replicate list_length no_cell)

-- what a refused comparison answers: no rectangle, and not an empty one
abbrev pub uncompared : ℕ → Comparison
uncompared status = record {
  status = status;
  empty = false;
  first_x = 0;
  last_x = 0;
  first_line = 0;
  last_line = 0;
  pixels = 0;
  cells = 0;
}

-- the lengths of two frames, the line counts and the list of cells: 2 for each
abbrev pub compare_refusal : ℕ → ℕ → ℕ → ℕ → ℕ
compare_refusal first second counts cells =
    refusal (output_check frame_length first ∷ output_check frame_length second ∷ output_check lines counts ∷ output_check list_length cells ∷ [])

module _ (first second counts cells : List ℕ) where
  abbrev pub status_of : ℕ
  status_of = compare_refusal (length first) (length second) (length counts) (length cells)

  unfoldable pub compare_answer : Comparison
  compare_answer = if_done status_of (report (differences first second)) (uncompared status_of)

  unfoldable pub counts_left : List ℕ
  counts_left = if_done status_of (line_counts (differences first second)) counts

  unfoldable pub cells_left : List ℕ
  cells_left = if_done status_of (listed (differing_cells (differences first second))) cells
