-- What holds of each screen address and of each character address holds of the used addresses of a line and of a frame.
-- Assumes nothing.
use Prim.Native.Nat.{ℕ, ◌<◌, ◌%◌}
use mathlib.Core.Bool.{Bool, true, false, cond, ◌||◌}
use mathlib.Core.List.{[], ◌∷◌, Option-to_list}
use mathlib.Core.Option.{none, some}
use mathlib.Core.Path.{◌≡◌, refl}
use native.Mathlib.Omega.{arith}
use Rattle.machine.specs.Image.{Image}
use Rattle.machine.specs.Lists.{Each}
use Rattle.machine.specs.Sizes.{columns, lines}
use Rattle.machine.proofs.Each.{each_none, each_cons, each_head, each_flat_map}
use Rattle.video.specs.Address.{is_bitmap, screen_address, character_address}
use Rattle.video.specs.Answer.{cells_of_line}
use Rattle.video.specs.Cell.{Cell, cell, screen_byte, character_used, used}
use Rattle.video.specs.Frame.{frame_cells}
use Rattle.video.specs.Ram.{ram_of}
use Rattle.video.specs.Registers.{is_attribute}
use Rattle.video.proofs.Cells.{Coloured}
use Rattle.video.proofs.Frames.{each_of_frame}
use Rattle.video.proofs.Lines.{each_of_line}
use Rattle.video.specs.declared.registers.Registers.{Registers}
use Rattle.video.specs.declared.state.State.{State}

-- the character byte of a cell, if it uses one, is that of a picture which shows no bitmap
pub character_each : (Q : ℕ → Type 0) (profile line : ℕ) (before : Registers) (byte : ℕ)
    → (is_bitmap line before.mode ≡ false → Q (character_address profile line before.mode before.style (byte % 128)))
    → Each Q (Option-to_list (character_used profile line before byte))
unfolding character_used Option-to_list
character_each Q profile line before byte q = go (is_attribute byte) (is_bitmap line before.mode) refl
  where
    go : (attribute bitmap : Bool) → is_bitmap line before.mode ≡ bitmap
        → Each Q (Option-to_list (cond (attribute || bitmap) none (some (character_address profile line before.mode before.style (byte % 128)))))
    go true bitmap e = each_none Q
    go false true e = each_none Q
    go false false e = each_cons Q _ [] (q e) (each_none Q)

-- what holds of it, if there is one, holds where the cell is neither an attribute nor of a bitmap
pub each_character : (Q : ℕ → Type 0) (profile line : ℕ) (before : Registers) (byte : ℕ)
    → Each Q (Option-to_list (character_used profile line before byte)) → (is_attribute byte || is_bitmap line before.mode) ≡ false
    → Q (character_address profile line before.mode before.style (byte % 128))
unfolding character_used Option-to_list
each_character Q profile line before byte all e = each_head Q _ [] (simp e at all)

-- what holds of every screen address and of every character address holds of the used addresses of a line and of a frame
module _ (Q : ℕ → Type 0) (image : Image) (state : State)
    (screens : (line column mode : ℕ) → line < lines → column < columns → Q (screen_address state.profile line column mode))
    (characters : (line mode style code : ℕ) → code < 128 → Q (character_address state.profile line mode style code)) where
  abbrev UsedBy : Cell → Type 0
  UsedBy c = Each Q (c.screen ∷ Option-to_list c.character)

  used_by_cell : (line column : ℕ) → line < lines → column < columns → (before : Registers) → Coloured before
      → UsedBy (cell (ram_of image state) state.counter line column before)
  unfolding cell
  used_by_cell line column hl hc before coloured =
      let byte = screen_byte (ram_of image state) line column before.mode in
      each_cons Q _ _ (screens line column before.mode hl hc)
      (character_each Q state.profile line before byte (λ none. characters line before.mode before.style (byte % 128) (omega arith)))

  pub used_of_line : (line : ℕ) → line < lines → Each Q (used (cells_of_line image state line))
  unfolding used
  used_of_line line hl =
      each_flat_map Q _ _ (each_of_line UsedBy (ram_of image state) state.counter line state.mode (λ column. used_by_cell line column hl))

  pub used_of_frame : Each Q (used (frame_cells image state))
  unfolding used
  used_of_frame = each_flat_map Q _ _ (each_of_frame UsedBy image state used_by_cell)
