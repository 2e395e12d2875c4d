-- One cell, and what is read off a list of cells: pixels, used addresses, the mode that is left.
-- Assumes nothing.
use Rattle.std.specs.Prelude.{ℕ, ◌%◌, cond, ◌||◌, replicate}
use mathlib.Core.List.{List, [], ◌∷◌, map, flat_map, flatten, Option-to_list}
use Rattle.std.proofs.Math.Option.{Option, none, some}
use Rattle.machine.specs.Image.{Image, byte_at}
use Rattle.machine.specs.Sizes.{cell_length}
use Rattle.video.specs.Address.{is_bitmap, screen_address, character_address}
use Rattle.video.specs.Pattern.{pattern_colours, complemented}
use Rattle.video.specs.Ram.{Ram}
use Rattle.video.specs.Registers.{is_attribute, latched, shown_ink}
use Rattle.video.specs.declared.registers.Registers.{Registers}

-- the screen byte of a cell; the mode is the one in force, before the byte is read
unfoldable pub screen_byte : Ram → ℕ → ℕ → ℕ → ℕ
screen_byte ram line column mode = byte_at ram.image (screen_address ram.profile line column mode)

-- the registers that a screen byte leaves: an attribute changes one, a picture none
unfoldable pub registers_after : Registers → ℕ → Registers
registers_after before byte = cond (is_attribute byte) (latched before byte) before

-- the address of the character byte that a cell uses, if it uses one: a picture outside hires lines 0 to 199
unfoldable pub character_used : ℕ → ℕ → Registers → ℕ → Option ℕ
character_used profile line before byte =
    cond (is_attribute byte || is_bitmap line before.mode) none
    (some (character_address profile line before.mode before.style (byte % 128)))

-- a picture's pattern: of its character byte if it uses one, else of the screen byte itself
abbrev pub pattern : Image → ℕ → Option ℕ → ℕ
pattern image byte none = byte % 64
pattern image byte (some address) = byte_at image address % 64

-- the six colours of a cell: six of paper, the new one, for an attribute; else the pattern; complemented last
unfoldable pub colours_of : Ram → ℕ → ℕ → Registers → ℕ → List ℕ
colours_of ram counter line before byte =
    map (complemented byte)
    (cond (is_attribute byte) (replicate cell_length (registers_after before byte).paper)
    (pattern_colours (shown_ink before counter) before.paper (pattern ram.image byte (character_used ram.profile line before byte))))

-- a painted cell: its line, the mode in force (document 01), the addresses that it used, its colours and the registers that it leaves
pub record Cell : Type 0 where
  pub line : ℕ
  pub mode : ℕ
  pub screen : ℕ
  pub character : Option ℕ
  pub colours : List ℕ
  pub registers : Registers

-- the cell at a column, from the registers before it
unfoldable pub cell : Ram → ℕ → ℕ → ℕ → Registers → Cell
cell ram counter line column before =
    let byte = screen_byte ram line column before.mode in
    record {
      line = line;
      mode = before.mode;
      screen = screen_address ram.profile line column before.mode;
      character = character_used ram.profile line before byte;
      colours = colours_of ram counter line before byte;
      registers = registers_after before byte;
    }

-- the pixels of cells, in order
unfoldable pub pixels : List Cell → List ℕ
pixels cells = flatten (map (λ (c : Cell). c.colours) cells)

-- the addresses of the screen bytes that cells used
unfoldable pub screen_addresses : List Cell → List ℕ
screen_addresses cells = map (λ (c : Cell). c.screen) cells

-- the addresses of the character bytes that cells used
unfoldable pub character_addresses : List Cell → List ℕ
character_addresses cells = flat_map (λ (c : Cell). Option-to_list c.character) cells

-- the used addresses in painting order (document 01: used addresses, painting order)
unfoldable pub used : List Cell → List ℕ
used cells = flat_map (λ (c : Cell). c.screen ∷ Option-to_list c.character) cells

-- the mode that the last of the cells left, the given one where there is none
unfoldable pub mode_left : ℕ → List Cell → ℕ
mode_left mode [] = mode
mode_left mode (c ∷ cells) = mode_left c.registers.mode cells
