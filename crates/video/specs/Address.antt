-- Where the bytes of a cell are.
-- Assumes nothing.
use Rattle.std.specs.Prelude.{ℕ, ◌+◌, ◌*◌, ◌/◌, ◌%◌, Bool, cond, ◌&&◌, ltb}
use Rattle.machine.specs.Bits.{bit}
use Rattle.machine.specs.Image.{folded}
use Rattle.card.specs.Card.{bitmap_lines, text_start, hires_start}

-- all used bytes lie in the block from 8000 to BFFF
abbrev pub video_block : ℕ
video_block = 0x8000

-- bit 2 of the mode chooses hires, else text
abbrev pub is_hires : ℕ → Bool
is_hires mode = bit 4 mode

-- lines that can show a bitmap show their screen bytes as patterns in hires
abbrev pub is_bitmap : ℕ → ℕ → Bool
is_bitmap line mode = ltb line bitmap_lines && is_hires mode

-- the address of a cell's screen byte, folded
abbrev pub screen_address : ℕ → ℕ → ℕ → ℕ → ℕ
screen_address profile line column mode = folded profile (cond (is_hires mode) (hires_start line) (text_start line) + column)

-- the character sets of text and of hires
abbrev pub text_characters : ℕ
text_characters = 0xB400

abbrev pub hires_characters : ℕ
hires_characters = 0x9800

-- the address of the character set, where one is used
abbrev pub character_set : ℕ → ℕ
character_set mode = cond (is_hires mode) hires_characters text_characters

-- how far behind the standard set the characters begin: bit 0 of the style chooses the alternate set
abbrev pub alternate_offset : ℕ → ℕ
alternate_offset style = cond (bit 1 style) 0x400 0

-- the row of a character that a line shows: bit 1 of the style is double height
abbrev pub character_row : ℕ → ℕ → ℕ
character_row line style = cond (bit 2 style) (line / 2 % 8) (line % 8)

-- the address of a character byte, folded
abbrev pub character_address : ℕ → ℕ → ℕ → ℕ → ℕ → ℕ
character_address profile line mode style code =
    folded profile (character_set mode + alternate_offset style + 8 * code + character_row line style)
