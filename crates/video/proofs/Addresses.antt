-- Every address that a cell uses lies in the block from 8000 to BFFF, and folded inside the image: by lines 0 to 199 or below them, text
-- or hires.
-- Assumes nothing.
use Prim.Native.Nat.{ℕ, ◌+◌, ◌<◌, ◌≤◌, ◌/◌, ◌%◌}
use mathlib.Core.Bool.{Bool, true, false}
use mathlib.Core.Path.{◌≡◌, refl}
use native.Mathlib.Omega.{arith}
use lib.Dec.{ltb}
use borrow.Author.Tests.{ltb-true, ltb-false}
use Rattle.machine.specs.Bits.{bit}
use Rattle.machine.specs.Image.{is_16k, block_length, image_length, folded}
use Rattle.machine.specs.Sizes.{columns, lines}
use Rattle.machine.proofs.Choice.{cond_all, cond_most, cond_both}
use Rattle.machine.proofs.Folding.{folded_most, folded_inside}
use Rattle.card.specs.Card.{bitmap_lines}
use Rattle.video.specs.Address.{video_block, is_hires, screen_address, text_characters, hires_characters, character_set, alternate_offset, character_row, character_address}

-- the block from 8000 to BFFF, in which all used addresses of the table lie
abbrev pub InBlock : ℕ → Type 0
InBlock address = (video_block ≤ address) × (address < 0xC000)

-- folding moves the block as a whole: an address is as far from its start as before
pub block_moved : (profile address : ℕ) → InBlock address → folded profile address ≡ folded profile video_block + folded 1 address
block_moved profile address h =
    cond_both (λ (n base : ℕ). n ≡ base + address % block_length) (is_16k profile) (address % block_length) address (video_block % block_length) video_block
    (omega arith) (omega arith)

module _ (profile line column mode : ℕ) (hl : line < lines) (hc : column < columns) where
  screen_case : (upper hires : Bool) → ltb line bitmap_lines ≡ upper → is_hires mode ≡ hires → InBlock (screen_address 0 line column mode)
  screen_case true true u h = simp (u, h) (omega (arith, ltb-true line bitmap_lines u))
  screen_case true false u h = simp (u, h) (omega (arith, ltb-true line bitmap_lines u))
  screen_case false true u h = simp (u, h) (omega (arith, ltb-false line bitmap_lines u))
  screen_case false false u h = simp (u, h) (omega (arith, ltb-false line bitmap_lines u))

  -- the screen byte of a cell
  pub screen_in_block : InBlock (screen_address 0 line column mode)
  screen_in_block = screen_case (ltb line bitmap_lines) (is_hires mode) refl refl

  pub screen_below : screen_address profile line column mode < 0xC000
  screen_below = omega (arith, folded_most profile (screen_address 0 line column mode), screen_in_block)

  pub screen_inside : screen_address profile line column mode < image_length profile
  screen_inside = folded_inside profile (screen_address 0 line column mode) (omega (arith, screen_in_block))

-- both sets lie in the block
pub set_in : (mode : ℕ) → (hires_characters ≤ character_set mode) × (character_set mode ≤ text_characters)
set_in mode =
    cond_all (λ (n : ℕ). (hires_characters ≤ n) × (n ≤ text_characters)) (is_hires mode) hires_characters text_characters (omega arith) (omega arith)

pub row_most : (line style : ℕ) → character_row line style ≤ 7
row_most line style = cond_most (bit 2 style) (line / 2 % 8) (line % 8) (omega arith) (omega arith)

pub offset_most : (style : ℕ) → alternate_offset style ≤ 0x400
offset_most style = cond_most (bit 1 style) 0x400 0 (omega arith) (omega arith)

module _ (profile line mode style code : ℕ) (hc : code < 128) where
  -- any character byte of a set
  pub characters_in_block : InBlock (character_address 0 line mode style code)
  characters_in_block = omega (arith, set_in mode, row_most line style, offset_most style)

  pub characters_inside : character_address profile line mode style code < image_length profile
  characters_inside = folded_inside profile (character_address 0 line mode style code) (omega (arith, characters_in_block))
