-- A frame: the mode's path down its lines, and its 224 lines of cells.
-- Assumes nothing.
use Rattle.std.specs.Prelude.{ℕ, zero, suc, cond, List, leb}
use Rattle.machine.specs.Image.{Image}
use Rattle.machine.specs.Lists.{gather}
use Rattle.machine.specs.Sizes.{lines}
use Rattle.video.specs.Cell.{Cell}
use Rattle.video.specs.Line.{line_cells, mode_after_line}
use Rattle.video.specs.Ram.{Ram, ram_of}
use Rattle.video.specs.declared.state.State.{State}

-- the mode after lines a to b, b left out, of which the first begins in the given mode
unfoldable pub mode_after_lines : Ram → ℕ → ℕ → ℕ → ℕ
mode_after_lines ram mode a zero = mode
mode_after_lines ram mode a (suc b) = cond (leb a b) (mode_after_line ram b (mode_after_lines ram mode a b)) mode

-- the mode before a line of a frame that begins in the given mode
abbrev pub mode_before : Ram → ℕ → ℕ → ℕ
mode_before ram mode line = mode_after_lines ram mode 0 line

-- the cells of a line of a frame
abbrev pub line_of : Ram → ℕ → ℕ → ℕ → List Cell
line_of ram counter mode line = line_cells ram counter line (mode_before ram mode line)

-- the cells of the first n lines of a frame
unfoldable pub first_lines : Ram → ℕ → ℕ → ℕ → List Cell
first_lines ram counter mode n = gather (line_of ram counter mode) n

-- a frame is 224 lines
abbrev pub frame_cells : Image → State → List Cell
frame_cells image state = first_lines (ram_of image state) state.counter state.mode lines
