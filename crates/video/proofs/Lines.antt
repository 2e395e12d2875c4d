-- The registers' path along a line, and the sizes of its first n cells.
-- Assumes nothing.
use Prim.Native.Nat.{ℕ, zero, suc, ◌+◌, ◌<◌, ◌≤◌}
use mathlib.Core.List.{List, [], ◌∷◌, ◌++◌, map}
use mathlib.Core.Path.{◌≡◌, refl, ap, ◌∙◌}
use native.Mathlib.Numerals.{add-one}
use native.Mathlib.Omega.{arith}
use lib.ListN.{length, length-map}
use Rattle.machine.specs.Lists.{gather, Each}
use Rattle.machine.specs.Sizes.{cell_length, columns, line_length, last_mode}
use Rattle.machine.proofs.Each.{each_none, each_cons, each_gather, each_map}
use Rattle.machine.proofs.Lists.{gather_next, singles_length, flatten_length}
use Rattle.video.specs.Cell.{Cell, cell, pixels, mode_left}
use Rattle.video.specs.Laws.{LineUsesScreenBytes}
use Rattle.video.specs.Line.{registers_before, cell_at, first_cells, line_cells}
use Rattle.video.specs.Ram.{Ram}
use Rattle.video.proofs.Cells.{Coloured, after_coloured, after_mode, cell_six}
use Rattle.video.proofs.Readings.{mode_left_append, screens_length}
use Rattle.video.specs.declared.registers.Registers.{Registers}

-- a list of six colours
abbrev pub Six : List ℕ → Type 0
Six colours = length colours ≡ cell_length

module _ (ram : Ram) (counter line mode : ℕ) where
  abbrev cells_at : ℕ → List Cell
  cells_at column = cell_at ram counter line mode column ∷ []

  pub cells_next : (n : ℕ) → first_cells ram counter line mode (n + 1) ≡ first_cells ram counter line mode n ++ (cell_at ram counter line mode n ∷ [])
  unfolding first_cells
  cells_next n = gather_next cells_at n

  pub cells_length : (n : ℕ) → length (first_cells ram counter line mode n) ≡ n
  unfolding first_cells
  cells_length n = singles_length (cell_at ram counter line mode) n

  -- a cell leaves the registers before the next
  pub registers_next : (n : ℕ) → registers_before ram line mode (n + 1) ≡ (cell_at ram counter line mode n).registers
  unfolding registers_before cell_at cell
  registers_next n = ap (registers_before ram line mode) (add-one n)

  pub mode_after : (n : ℕ) → mode_left mode (first_cells ram counter line mode n) ≡ (registers_before ram line mode n).mode
  unfolding first_cells gather mode_left registers_before cell_at cell
  mode_after zero = refl
  mode_after (suc n) = mode_left_append mode (first_cells ram counter line mode n) (cells_at n)

module _ (ram : Ram) (line mode : ℕ) where
  pub registers_coloured : (n : ℕ) → Coloured (registers_before ram line mode n)
  unfolding registers_before
  registers_coloured zero = record { ink = omega arith; paper = omega arith }
  registers_coloured (suc n) = after_coloured (registers_before ram line mode n) _ (registers_coloured n)

  -- the mode is 0 to 7 where it was before the line
  pub mode_small : mode ≤ last_mode → (n : ℕ) → (registers_before ram line mode n).mode ≤ last_mode
  unfolding registers_before
  mode_small h zero = h
  mode_small h (suc n) = after_mode (registers_before ram line mode n) _ (mode_small h n)

-- what holds of the cell at each column holds of each cell of the line
pub each_of_line : (P : Cell → Type 0) (ram : Ram) (counter line mode : ℕ)
    → ((column : ℕ) → column < columns → (before : Registers) → Coloured before → P (cell ram counter line column before))
    → Each P (line_cells ram counter line mode)
unfolding first_cells cell_at
each_of_line P ram counter line mode p =
    each_gather P _ columns (λ column h. each_cons P _ []
    (p column h (registers_before ram line mode column) (registers_coloured ram line mode column)) (each_none P))

-- a line is forty times six colours
pub line_sixes : (ram : Ram) (counter line mode : ℕ) → Each Six (map (λ (c : Cell). c.colours) (line_cells ram counter line mode))
line_sixes ram counter line mode =
    each_map Six (λ (c : Cell). c.colours) _
    (each_of_line (λ (c : Cell). Six c.colours) ram counter line mode (λ column h before coloured.
    cell_six ram counter line column before))

pub line_pixels : (ram : Ram) (counter line mode : ℕ) → length (pixels (line_cells ram counter line mode)) ≡ line_length
unfolding pixels
line_pixels ram counter line mode =
    flatten_length cell_length _ (line_sixes ram counter line mode)
    ∙ omega (arith, length-map (line_cells ram counter line mode) (λ (c : Cell). c.colours), cells_length ram counter line mode columns)

pub line_uses_screen_bytes : LineUsesScreenBytes
line_uses_screen_bytes ram counter line mode =
    screens_length (line_cells ram counter line mode) ∙ cells_length ram counter line mode columns
