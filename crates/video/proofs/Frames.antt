-- The mode's path down the lines of a frame, and the sizes of its first n lines.
-- Assumes nothing.
use Prim.Native.Nat.{ℕ, zero, suc, ◌+◌, ◌*◌, ◌<◌, ◌≤◌}
use mathlib.Core.List.{◌++◌}
use mathlib.Core.Path.{◌≡◌, refl, ap, ◌∙◌}
use native.Mathlib.Numerals.{add-one}
use native.Mathlib.Omega.{arith}
use lib.Dec.{leb-zero}
use lib.ListN.{length}
use Rattle.machine.specs.Image.{Image}
use Rattle.machine.specs.Lists.{gather, Each}
use Rattle.machine.specs.Sizes.{columns, lines, last_mode}
use Rattle.machine.proofs.Each.{each_gather}
use Rattle.machine.proofs.Lists.{gather_next, gather_length}
use Rattle.video.specs.Cell.{Cell, cell, character_addresses, mode_left}
use Rattle.video.specs.Frame.{mode_after_lines, mode_before, line_of, first_lines, frame_cells}
use Rattle.video.specs.Laws.{FrameUsesScreenBytes}
use Rattle.video.specs.Line.{mode_after_line}
use Rattle.video.specs.Ram.{Ram, ram_of}
use Rattle.video.proofs.Cells.{Coloured}
use Rattle.video.proofs.Lines.{cells_length, mode_after, mode_small, each_of_line}
use Rattle.video.proofs.Readings.{mode_left_append, screens_length, characters_most}
use Rattle.video.specs.declared.registers.Registers.{Registers}
use Rattle.video.specs.declared.state.State.{State}

-- a line leaves the mode before the next
pub mode_suc : (ram : Ram) (mode n : ℕ) → mode_before ram mode (suc n) ≡ mode_after_line ram n (mode_before ram mode n)
unfolding mode_after_lines
mode_suc ram mode n = simp leb-zero

pub mode_next : (ram : Ram) (mode n : ℕ) → mode_before ram mode (n + 1) ≡ mode_after_line ram n (mode_before ram mode n)
mode_next ram mode n = ap (mode_before ram mode) (add-one n) ∙ mode_suc ram mode n

-- the mode is 0 to 7 where it was before the frame
pub modes_small : (ram : Ram) (mode : ℕ) → mode ≤ last_mode → (n : ℕ) → mode_before ram mode n ≤ last_mode
unfolding mode_after_lines
modes_small ram mode h zero = h
modes_small ram mode h (suc n) = simp leb-zero (mode_small ram n (mode_before ram mode n) (modes_small ram mode h n) columns)

module _ (ram : Ram) (counter mode : ℕ) where
  pub lines_next : (n : ℕ) → first_lines ram counter mode (n + 1) ≡ first_lines ram counter mode n ++ line_of ram counter mode n
  unfolding first_lines
  lines_next n = gather_next (line_of ram counter mode) n

  pub line_length_lem : (line : ℕ) → length (line_of ram counter mode line) ≡ columns
  line_length_lem line = cells_length ram counter line (mode_before ram mode line) columns

  pub lines_length : (n : ℕ) → length (first_lines ram counter mode n) ≡ columns * n
  unfolding first_lines
  lines_length n = gather_length (line_of ram counter mode) columns line_length_lem n

  pub characters_down : (n : ℕ) → length (character_addresses (first_lines ram counter mode n)) ≤ columns * n
  characters_down n = omega (arith, characters_most (first_lines ram counter mode n), lines_length n)

  pub mode_down : (n : ℕ) → mode_left mode (first_lines ram counter mode n) ≡ mode_before ram mode n
  unfolding first_lines gather mode_left mode_after_lines
  mode_down zero = refl
  mode_down (suc n) =
      mode_left_append mode (first_lines ram counter mode n) (line_of ram counter mode n)
      ∙ ap (λ (m : ℕ). mode_left m (line_of ram counter mode n)) (mode_down n)
      ∙ mode_after ram counter n (mode_before ram mode n) columns
      ∙ simp leb-zero

pub frame_uses_screen_bytes : FrameUsesScreenBytes
frame_uses_screen_bytes image state =
    screens_length (frame_cells image state) ∙ lines_length (ram_of image state) state.counter state.mode lines

-- what holds of the cell at each line and column holds of each cell of the frame
pub each_of_frame : (P : Cell → Type 0) (image : Image) (state : State)
    → ((line column : ℕ) → line < lines → column < columns → (before : Registers) → Coloured before → P (cell (ram_of image state) state.counter line column before))
    → Each P (frame_cells image state)
unfolding first_lines
each_of_frame P image state p =
    each_gather P _ lines (λ line hl. each_of_line P (ram_of image state) state.counter line _ (λ column hc. p line column hl hc))
