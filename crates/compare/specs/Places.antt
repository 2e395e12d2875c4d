-- The places of a frame, those at which two frames differ, and the lines and cells that have one of them.
-- Assumes nothing.
use Rattle.std.specs.Prelude.{ℕ, ◌+◌, ◌*◌, ◌/◌, ◌%◌, Bool, not, List, eqb, ltb, length, get_or}
use Rattle.machine.specs.Sizes.{cell_length, columns, lines, line_length, frame_length}
use Rattle.machine.specs.Numbers.{passing, passing_from}

-- a place is 240 x line + x
abbrev pub x_of : ℕ → ℕ
x_of place = place % line_length

abbrev pub line_of : ℕ → ℕ
line_of place = place / line_length

-- the number of the cell, of which each line has forty
abbrev pub cell_of : ℕ → ℕ
cell_of place = columns * line_of place + x_of place / cell_length

-- two frames have not the same byte at a place
abbrev pub differs : List ℕ → List ℕ → ℕ → Bool
differs first second place = not (eqb (get_or first place 0) (get_or second place 0))

-- the places at which two frames differ, in rising order
abbrev pub differences : List ℕ → List ℕ → List ℕ
differences first second = passing_from (differs first second) 0 frame_length

-- those of some places that stand on a line
abbrev pub on_line : List ℕ → ℕ → List ℕ
on_line places line = passing (λ (place : ℕ). eqb (line_of place) line) places

-- those of some places that stand in a cell
abbrev pub in_cell : List ℕ → ℕ → List ℕ
in_cell places cell = passing (λ (place : ℕ). eqb (cell_of place) cell) places

-- a differing cell is one with such a place in it
abbrev pub cell_differs : List ℕ → ℕ → Bool
cell_differs places cell = ltb 0 (length (in_cell places cell))

-- the cells that differ, in rising order
abbrev pub differing_cells : List ℕ → List ℕ
differing_cells places = passing_from (cell_differs places) 0 (columns * lines)
