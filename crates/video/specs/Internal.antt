-- What only the contracts of functions inside the crate cite; no promise to others rests on this page.
-- Assumes nothing.
use Rattle.std.specs.Prelude.{ℕ, zero, suc, ◌+◌, ◌*◌, ◌/◌, ◌%◌, cond, length, take, drop, Option, None, Some}
use Rattle.std.specs.Option.{option_to_list}
use mathlib.Core.List.{List, [], ◌∷◌, ◌++◌, map}
use Rattle.std.proofs.Math.Option as maybe
use Rattle.machine.specs.Bits.{bit}
use Rattle.machine.specs.Image.{Image, block_length, folded}
use Rattle.machine.specs.Sizes.{columns}
use Rattle.used_map.specs.Map.{byte_bits}
use Rattle.video.specs.Address.{video_block}
use Rattle.video.specs.Cell.{Cell, screen_addresses, character_addresses}
use Rattle.video.specs.Line.{registers_before, line_cells}
use Rattle.video.specs.Pattern.{pattern_weights, pattern_colours, complemented}
use Rattle.video.specs.Ram.{Ram}
use Rattle.video.specs.Registers.{shown_ink}
use Rattle.video.specs.State.{with_mode}
use Rattle.video.specs.declared.answer.Painted.{Painted}
use Rattle.video.specs.declared.cell.PaintedCell.{PaintedCell}
use Rattle.video.specs.declared.line.PaintedLine.{PaintedLine}
use Rattle.video.specs.declared.registers.Registers.{Registers}
use Rattle.video.specs.declared.state.State.{State}

-- the block of an image that video reads
abbrev pub block_of : ℕ → Image → Image
block_of profile image = take block_length (drop (folded profile video_block) image)

-- the RAM that is painted from: that block, as the image of a 16K machine
abbrev pub block_ram : Image → Ram
block_ram block = record { profile = 1; image = block }

-- the six pixels of a pattern under a screen byte
abbrev pub shown : Registers → ℕ → ℕ → ℕ → List ℕ
shown registers counter byte pattern =
    map (complemented byte) (pattern_colours (shown_ink registers counter) registers.paper pattern)

-- an address, if there is one, as the program holds it
abbrev pub optional : maybe.Option ℕ → Option ℕ
optional maybe.none = None
optional (maybe.some address) = Some address

-- what is handed back of a cell
abbrev pub painted_cell : Cell → PaintedCell
painted_cell c =
    record {
      registers = c.registers;
      colours = c.colours;
      screen = c.screen;
      character = optional c.character;
    }

-- the addresses that a cell used, read off that
abbrev pub used_by : PaintedCell → List ℕ
used_by painted = painted.screen ∷ option_to_list painted.character

-- what is handed back of a line that begins in the given mode
abbrev pub painted_line : Ram → ℕ → ℕ → ℕ → PaintedLine
painted_line ram counter line mode =
    let cells = line_cells ram counter line mode in
    record {
      registers = registers_before ram line mode columns;
      screen = length (screen_addresses cells);
      character = length (character_addresses cells);
    }

-- the answer of a painting that left this mode and used so many bytes
abbrev pub answered : State → ℕ → ℕ → ℕ → Painted
answered state mode screen character =
    record { status = 0; state = with_mode mode state; screen = screen; character = character }

-- the lowest n bytes of a word, the lowest first
abbrev pub low_bytes : ℕ → ℕ → List ℕ
low_bytes zero word = []
low_bytes (suc n) word = word % 256 ∷ low_bytes n (word / 256)

-- the word of bytes, the lowest first
abbrev pub word_of : List ℕ → ℕ
word_of [] = 0
word_of (byte ∷ bytes) = byte + 256 * word_of bytes

-- six pixels with the gap after the fourth: a byte of 0
abbrev pub gapped : List ℕ → List ℕ
gapped pixels = take 4 pixels ++ (0 ∷ drop 4 pixels)

-- the six bytes of a word about the gap
abbrev pub pixel_bytes : ℕ → List ℕ
pixel_bytes word = let bytes = low_bytes 7 word in take 4 bytes ++ drop 5 bytes

-- the word of a pattern: a byte of 1 for each pixel that is set, the leftmost pixel lowest
abbrev pub spread_word : ℕ → ℕ
spread_word pattern = word_of (gapped (map (λ (weight : ℕ). cond (bit weight pattern) 1 0) pattern_weights))

-- the bytes of a map that have the bits of the block
abbrev pub block_marks : ℕ
block_marks = block_length / byte_bits
