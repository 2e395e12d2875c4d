-- The registers hold colours, and a cell is six of them: its pattern, painted with the registers that it leaves.
-- Assumes nothing.
use Prim.Native.Nat.{ℕ, ◌%◌, ◌≤◌}
use Rattle.std.specs.Prelude.{None, Some, unwrap_or}
use mathlib.Core.Bool.{Bool, true, false, cond}
use mathlib.Core.List.{List, map}
use mathlib.Core.Option.{none, some}
use mathlib.Core.Path.{◌≡◌, refl, ap}
use native.Mathlib.Omega.{arith}
use lib.Dec.{ltb}
use lib.ListN.{length, length-map}
use Rattle.machine.specs.Bits.{bit}
use Rattle.machine.specs.Image.{byte_at}
use Rattle.machine.specs.Lists.{Each}
use Rattle.machine.specs.Sizes.{cell_length, last_mode}
use Rattle.machine.proofs.Choice.{cond_all, cond_most}
use Rattle.machine.proofs.Each.{each_replicate, each_map}
use Rattle.video.specs.Address.{is_bitmap, screen_address, character_address}
use Rattle.video.specs.Cell.{cell, screen_byte, registers_after, character_used, pattern, colours_of}
use Rattle.video.specs.Internal.{optional, painted_cell, shown}
use Rattle.video.specs.Pattern.{pattern_colour, pattern_weights, complemented}
use Rattle.video.specs.Ram.{Ram}
use Rattle.video.specs.Registers.{is_attribute, latched, shown_ink}
use Rattle.video.proofs.Choice.{shown_most, complemented_most}
use Rattle.video.proofs.Words.{low_six}
use Rattle.video.specs.declared.cell.PaintedCell.{PaintedCell}
use Rattle.video.specs.declared.registers.Registers.{Registers}

-- ink and paper are colours
pub record Coloured (registers : Registers) : Type 0 where
  pub ink : registers.ink ≤ 7
  pub paper : registers.paper ≤ 7

pub latched_coloured : (before : Registers) (byte : ℕ) → Coloured before → Coloured (latched before byte)
unfolding latched
latched_coloured before byte h =
    cond_all Coloured (ltb (byte % 32) 8) _ _ (record { ink = omega arith; paper = omega arith })
    (cond_all Coloured (ltb (byte % 32) 16) _ _ (record { ink = omega arith; paper = omega arith })
    (cond_all Coloured (ltb (byte % 32) 24) _ _ (record { ink = omega arith; paper = omega arith }) (record { ink = omega arith; paper = omega arith })))

pub after_coloured : (before : Registers) (byte : ℕ) → Coloured before → Coloured (registers_after before byte)
unfolding registers_after
after_coloured before byte h = cond_all Coloured (is_attribute byte) (latched before byte) before (latched_coloured before byte h) h

-- a mode that is set is 0 to 7
pub after_mode : (before : Registers) (byte : ℕ) → before.mode ≤ last_mode → (registers_after before byte).mode ≤ last_mode
unfolding registers_after latched
after_mode before byte h =
    let Small : Registers → Type 0 = λ (r : Registers). r.mode ≤ last_mode in
    cond_all Small (is_attribute byte) _ before
    (cond_all Small (ltb (byte % 32) 8) _ _ h (cond_all Small (ltb (byte % 32) 16) _ _ h (cond_all Small (ltb (byte % 32) 24) _ _ h (omega arith))))
    h

-- a cell is six colours
pub cell_six : (ram : Ram) (counter line column : ℕ) (before : Registers) → length (cell ram counter line column before).colours ≡ cell_length
unfolding cell colours_of
cell_six ram counter line column before =
    let byte = screen_byte ram line column before.mode in
    simp length-map (cond_all (λ (l : List ℕ). length l ≡ cell_length) (is_attribute byte) _ _ refl refl)

-- each is 0 to 7
pub colours_most : (ram : Ram) (counter line : ℕ) (before : Registers) (byte : ℕ) → Coloured before
    → Each (λ (pixel : ℕ). pixel ≤ 7) (colours_of ram counter line before byte)
unfolding colours_of registers_after
colours_most ram counter line before byte h =
    let Small : ℕ → Type 0 = λ (pixel : ℕ). pixel ≤ 7 in
    let after = after_coloured before byte h in
    let ink = shown_most before counter h.ink h.paper in
    let shown = pattern ram.image byte (character_used ram.profile line before byte) in
    each_map Small (complemented byte) _ (λ pixel m. complemented_most byte pixel
    (cond_all (Each Small) (is_attribute byte) _ _ (each_replicate Small 6 after.paper)
    (each_map Small (pattern_colour (shown_ink before counter) before.paper shown) pattern_weights
    (λ weight m. cond_most (bit weight shown) (shown_ink before counter) before.paper ink h.paper)) pixel m))

-- a cell as the program paints it, from the byte that it read
module _ (ram : Ram) (counter line column : ℕ) (before : Registers) where
  abbrev byte : ℕ
  byte = screen_byte ram line column before.mode

  abbrev screen : ℕ
  screen = screen_address ram.profile line column before.mode

  -- an attribute shows pattern 0 with the registers that it leaves
  pub attribute_painted : is_attribute byte ≡ true
      → let after = latched before byte in
      ◌≡◌ {A = PaintedCell}
      (record { registers = after; colours = shown after counter byte 0; screen = screen; character = None })
      (painted_cell (cell ram counter line column before))
  unfolding cell colours_of registers_after character_used
  attribute_painted attribute = simp attribute

  -- where a picture's character byte is, if it uses one
  abbrev pub definition : ℕ
  definition = character_address ram.profile line before.mode before.style (byte % 128)

  -- where its pattern is read
  abbrev pub pattern_address : ℕ
  pattern_address = unwrap_or (cond (is_bitmap line before.mode) None (Some definition)) screen

  -- it is in the low six bits of the byte there
  pictured : (bitmap : Bool) → is_bitmap line before.mode ≡ bitmap → is_attribute byte ≡ false
      → pattern ram.image byte (character_used ram.profile line before byte) ≡ byte_at ram.image pattern_address % 64
  unfolding character_used screen_byte
  pictured true e picture = simp (picture, e)
  pictured false e picture = simp (picture, e)

  -- outside bitmaps it is a character byte
  used_outside : (bitmap : Bool) (address : ℕ) → cond bitmap None (Some address) ≡ optional (cond bitmap none (some address))
  used_outside true address = refl
  used_outside false address = refl

  picture_colours : is_attribute byte ≡ false → colours_of ram counter line before byte ≡ shown before counter byte (byte_at ram.image pattern_address)
  unfolding colours_of
  picture_colours picture =
      simp (picture, pictured (is_bitmap line before.mode) refl picture)
      (ap (map (complemented byte)) (low_six (shown_ink before counter) before.paper (byte_at ram.image pattern_address)))

  pub picture_painted : is_attribute byte ≡ false
      → ◌≡◌ {A = PaintedCell}
      (record {
        registers = before;
        colours = shown before counter byte (byte_at ram.image pattern_address);
        screen = screen;
        character = cond (is_bitmap line before.mode) None (Some definition);
      })
      (painted_cell (cell ram counter line column before))
  unfolding cell registers_after character_used
  picture_painted picture =
      rw (picture_colours picture) (simp picture (rw (used_outside (is_bitmap line before.mode) definition) refl))
