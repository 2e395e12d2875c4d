-- A line: the registers' path along it, and its forty cells from left to right.
-- Assumes nothing.
use Rattle.std.specs.Prelude.{ℕ, zero, suc, List, [], ◌∷◌}
use Rattle.machine.specs.Lists.{gather}
use Rattle.machine.specs.Sizes.{columns}
use Rattle.video.specs.Cell.{Cell, cell, screen_byte, registers_after}
use Rattle.video.specs.Ram.{Ram}
use Rattle.video.specs.Registers.{line_reset}
use Rattle.video.specs.declared.registers.Registers.{Registers}

-- the registers before the cell at a column, by the screen bytes to its left alone
unfoldable pub registers_before : Ram → ℕ → ℕ → ℕ → Registers
registers_before ram line mode zero = line_reset mode
registers_before ram line mode (suc column) =
    let before = registers_before ram line mode column in
    registers_after before (screen_byte ram line column before.mode)

-- the cell at a column of a line that begins in the given mode
unfoldable pub cell_at : Ram → ℕ → ℕ → ℕ → ℕ → Cell
cell_at ram counter line mode column = cell ram counter line column (registers_before ram line mode column)

-- the first n cells of a line
unfoldable pub first_cells : Ram → ℕ → ℕ → ℕ → ℕ → List Cell
first_cells ram counter line mode n = gather (λ (column : ℕ). cell_at ram counter line mode column ∷ []) n

-- a line is forty cells
abbrev pub line_cells : Ram → ℕ → ℕ → ℕ → List Cell
line_cells ram counter line mode = first_cells ram counter line mode columns

-- the mode that a line leaves
abbrev pub mode_after_line : Ram → ℕ → ℕ → ℕ
mode_after_line ram line mode = (registers_before ram line mode columns).mode
