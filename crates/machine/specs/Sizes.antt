-- The sizes of a frame, and the limits of the numbers that are handed in.
-- Assumes nothing.
use Rattle.std.specs.Prelude.{ℕ, ◌*◌}

-- a cell is six pixels
abbrev pub cell_length : ℕ
cell_length = 6

-- a line is forty cells
abbrev pub columns : ℕ
columns = 40

-- a frame is 224 lines
abbrev pub lines : ℕ
lines = 224

-- 240 bytes, one a pixel
abbrev pub line_length : ℕ
line_length = cell_length * columns

-- 53,760 bytes
abbrev pub frame_length : ℕ
frame_length = line_length * lines

-- modes are 0 to 7
abbrev pub last_mode : ℕ
last_mode = 7

-- flash counts are 0 to 31
abbrev pub last_count : ℕ
last_count = 31

-- controller kinds are 0 to 2
abbrev pub last_kind : ℕ
last_kind = 2

-- profiles are 0, the 48K machine, and 1, the 16K machine
abbrev pub last_profile : ℕ
last_profile = 1

-- a trace has at most 1,024 records
abbrev pub longest_trace : ℕ
longest_trace = 1024
