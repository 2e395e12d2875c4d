-- The lines and frames of a machine are those of the 16K machine whose RAM is its block from 8000 to BFFF, but for the addresses. Each
-- byte that the one reads is the byte that the other reads; what is read off the cells does not go by their addresses.
-- Assumes nothing.
use Prim.Native.Nat.{ℕ, ◌+◌, ◌<◌, ◌%◌}
use mathlib.Core.Bool.{Bool, true, false, cond, ◌||◌}
use mathlib.Core.List.{List, [], ◌∷◌, ◌++◌, map, map-append, flat_map, flatten, Option-to_list}
use mathlib.Core.Option
use mathlib.Core.Option.{Option, none, some}
use mathlib.Core.Path.{◌≡◌, refl, sym, ap, ap₂, ◌∙◌}
use native.Mathlib.Omega.{arith}
use lib.ListN.{length, length-append, length-map}
use Rattle.machine.specs.Image.{Image, is_16k, block_length, folded, byte_at}
use Rattle.machine.specs.Sizes.{columns, lines}
use Rattle.machine.proofs.Choice.{cond_all}
use Rattle.video.specs.Address.{video_block, is_bitmap, screen_address, character_address}
use Rattle.video.specs.Answer.{painted}
use Rattle.video.specs.Cell.{Cell, cell, screen_byte, character_used, pixels, screen_addresses, character_addresses, used, mode_left}
use Rattle.video.specs.Internal.{block_ram}
use Rattle.video.specs.Laws.{folded_cell, StandsIn, FrameFolds}
use Rattle.video.specs.Line.{line_cells}
use Rattle.video.specs.Ram.{Ram, ram_of}
use Rattle.video.specs.Registers.{is_attribute}
use Rattle.video.proofs.Addresses.{InBlock, screen_in_block, characters_in_block}
use Rattle.video.proofs.Agreement.{SameBytes, cell_read, line_changed, frame_changed}
use Rattle.video.proofs.Readings.{screens_length}
use Rattle.video.specs.declared.registers.Registers.{Registers}
use Rattle.video.specs.declared.state.State.{State}

-- what a profile has folded first, the 16K machine folds to the same
pub folded_twice : (profile address : ℕ) → folded 1 (folded profile address) ≡ folded 1 address
folded_twice profile address =
    cond_all (λ (n : ℕ). folded 1 n ≡ folded 1 address) (is_16k profile) (address % block_length) address (omega arith) refl

character_folded : (profile line : ℕ) (before : Registers) (byte : ℕ)
    → character_used 1 line before byte ≡ Option.map (folded 1) (character_used profile line before byte)
unfolding character_used
character_folded profile line before byte = go (is_attribute byte || is_bitmap line before.mode)
  where
    address : ℕ → ℕ
    address profile = character_address profile line before.mode before.style (byte % 128)

    go : (none-used : Bool) → cond none-used none (some (address 1)) ≡ Option.map (folded 1) (cond none-used none (some (address profile)))
    go true = refl
    go false = ap some (sym (folded_twice profile (address 0)))

module _ (small large : Image) (state : State) (stands : StandsIn state.profile small large) where
  abbrev plain : Ram
  plain = ram_of large state

  abbrev folding : Ram
  folding = block_ram small

  -- a byte of the block, where the profile has it and where the 16K machine has it
  at_folded : (address : ℕ) → InBlock address → byte_at large (folded state.profile address) ≡ byte_at small (folded 1 address)
  at_folded address h =
      let place : address ≡ video_block + address % block_length = omega arith in
      ap (λ (n : ℕ). byte_at large (folded state.profile n)) place ∙ stands (address % block_length) (omega arith)

  same_bytes : (line column : ℕ) (before : Registers) → line < lines → column < columns → SameBytes plain folding line column before
  unfolding screen_byte
  same_bytes line column before hl hc =
      let byte = screen_byte plain line column before.mode in
      record {
        screen = at_folded (screen_address 0 line column before.mode) (screen_in_block 0 line column before.mode hl hc);
        character = λ used.
            at_folded (character_address 0 line before.mode before.style (byte % 128))
            (characters_in_block 0 line before.mode before.style (byte % 128) (omega arith));
      }

  cell_folded : (line column : ℕ) (before : Registers) → SameBytes plain folding line column before
      → cell folding state.counter line column before ≡ folded_cell 1 (cell plain state.counter line column before)
  unfolding cell
  cell_folded line column before same =
      cell_read plain folding state.counter line column before same
      ∙ rw (
        character_folded state.profile line before (screen_byte plain line column before.mode),
        folded_twice state.profile (screen_address 0 line column before.mode),
      )

  -- a line
  pub line_folded : (line mode : ℕ) → line < lines
      → line_cells folding state.counter line mode ≡ map (folded_cell 1) (line_cells plain state.counter line mode)
  line_folded line mode hl =
      line_changed plain folding (folded_cell 1) state.counter cell_folded line mode (λ column hc. same_bytes line column _ hl hc)

pub frame_folds : FrameFolds
frame_folds small large state stands =
    frame_changed (ram_of large state) (block_ram small) (folded_cell 1) state.counter (cell_folded small large state stands) state.mode
    (λ line column hl hc. same_bytes small large state stands line column _ hl hc)

-- what is read off cells does not go by their addresses
module _ (profile : ℕ) where
  abbrev folded_cells : List Cell → List Cell
  folded_cells = map (folded_cell profile)

  pub pixels_folded : (cells : List Cell) → pixels (folded_cells cells) ≡ pixels cells
  unfolding pixels flatten
  pixels_folded [] = refl
  pixels_folded (c ∷ cells) = ap (λ (l : List ℕ). c.colours ++ l) (pixels_folded cells)

  one_folded : (character : Option ℕ) → Option-to_list (Option.map (folded profile) character) ≡ map (folded profile) (Option-to_list character)
  unfolding Option-to_list
  one_folded none = refl
  one_folded (some address) = refl

  pub used_folded : (cells : List Cell) → used (folded_cells cells) ≡ map (folded profile) (used cells)
  unfolding used flat_map
  used_folded [] = refl
  used_folded (c ∷ cells) =
      ap (λ (l : List ℕ). folded profile c.screen ∷ l)
      (ap₂ ◌++◌ (one_folded c.character) (used_folded cells) ∙ sym (map-append (folded profile) (Option-to_list c.character) (used cells)))

  mode_folded : (mode : ℕ) (cells : List Cell) → mode_left mode (folded_cells cells) ≡ mode_left mode cells
  unfolding mode_left
  mode_folded mode [] = refl
  mode_folded mode (c ∷ cells) = mode_folded c.registers.mode cells

  screens_folded : (cells : List Cell) → length (screen_addresses (folded_cells cells)) ≡ length (screen_addresses cells)
  screens_folded cells = screens_length (folded_cells cells) ∙ length-map cells (folded_cell profile) ∙ sym (screens_length cells)

  characters_folded : (cells : List Cell) → length (character_addresses (folded_cells cells)) ≡ length (character_addresses cells)
  unfolding character_addresses flat_map
  characters_folded [] = refl
  characters_folded (c ∷ cells) =
      simp length-append
      (ap₂ ◌+◌ (ap length (one_folded c.character) ∙ length-map (Option-to_list c.character) (folded profile)) (characters_folded cells))

  -- and so it is with what a painting answers
  pub painted_folded : (state : State) (cells : List Cell) → painted state (folded_cells cells) ≡ painted state cells
  painted_folded state cells = rw (mode_folded state.mode cells, screens_folded cells, characters_folded cells)
