-- Where the screen bytes of each line begin, and the card that technicians carry (document 02).
-- Assumes nothing.
use Rattle.std.specs.Prelude.{ℕ, ◌+◌, ◌*◌, ◌/◌, cond, List, [], ◌∷◌, ◌++◌, ltb}
use Rattle.machine.specs.Lists.{gather}
use Rattle.machine.specs.Sizes.{columns, lines}

-- lines 0 to 199 can show a bitmap
abbrev pub bitmap_lines : ℕ
bitmap_lines = 200

-- where the screen bytes of a line begin in text: eight lines share a row
abbrev pub text_start : ℕ → ℕ
text_start line = 0xBB80 + columns * (line / 8)

-- and in hires: lines 200 to 223 are as text
abbrev pub hires_start : ℕ → ℕ
hires_start line = cond (ltb line bitmap_lines) (0xA000 + columns * line) (text_start line)

-- a number for each line, from line 0 on
abbrev pub per_line : (ℕ → ℕ) → List ℕ
per_line start = gather (λ (line : ℕ). start line ∷ []) lines

-- the address of column 0 of each line in text, then of each in hires, none folded
unfoldable pub card : List ℕ
card = per_line text_start ++ per_line hires_start
