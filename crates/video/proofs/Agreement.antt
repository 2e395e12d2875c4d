-- Two RAMs that hold the same bytes where a frame of the first is read paint the same cells, but for the addresses if their profiles
-- differ. The registers' paths depend on screen bytes alone and come first; then each cell is the same, and so is the frame.
-- Assumes nothing.
use Prim.Native.Nat.{ℕ, zero, suc, ◌<◌, ◌≤◌, ◌%◌}
use mathlib.Core.Bool.{Bool, true, false, cond, ◌||◌}
use mathlib.Core.List.{[], ◌∷◌, map}
use mathlib.Core.Option.{none, some}
use mathlib.Core.Path.{◌≡◌, refl, sym, ap, ◌∙◌}
use native.Mathlib.Omega.{arith}
use Rattle.machine.specs.Image.{byte_at}
use Rattle.machine.specs.Sizes.{columns, lines}
use Rattle.machine.proofs.Lists.{gather_mapped}
use Rattle.video.specs.Address.{is_bitmap, screen_address, character_address}
use Rattle.video.specs.Cell.{Cell, cell, screen_byte, registers_after, character_used, colours_of, pattern}
use Rattle.video.specs.Frame.{mode_after_lines, mode_before, line_of, first_lines}
use Rattle.video.specs.Line.{registers_before, cell_at, first_cells, line_cells, mode_after_line}
use Rattle.video.specs.Ram.{Ram}
use Rattle.video.specs.Registers.{is_attribute}
use Rattle.video.proofs.Frames.{mode_suc}
use Rattle.video.specs.declared.registers.Registers.{Registers}

module _ (first second : Ram) where
  -- the same screen byte at a cell
  abbrev SameScreen : ℕ → ℕ → ℕ → Type 0
  SameScreen line column mode = screen_byte first line column mode ≡ screen_byte second line column mode

  -- the same character byte for a code
  abbrev SameCharacter : ℕ → ℕ → ℕ → ℕ → Type 0
  SameCharacter line mode style code =
      byte_at first.image (character_address first.profile line mode style code)
      ≡ byte_at second.image (character_address second.profile line mode style code)

  -- the same bytes where a cell is read, from the registers before it
  pub record SameBytes (line column : ℕ) (before : Registers) : Type 0 where
    pub screen : SameScreen line column before.mode
    pub character : let byte = screen_byte first line column before.mode in
        (is_attribute byte || is_bitmap line before.mode) ≡ false → SameCharacter line before.mode before.style (byte % 128)

  -- the registers before a cell, by the screen bytes to its left
  path_line : (line mode n : ℕ) → ((column : ℕ) → column < n → SameScreen line column (registers_before first line mode column).mode)
      → registers_before second line mode n ≡ registers_before first line mode n
  unfolding registers_before
  path_line line mode zero same = refl
  path_line line mode (suc n) same =
      ap (λ (r : Registers). registers_after r (screen_byte second line n r.mode)) (path_line line mode n (λ column h. same column (omega arith)))
      ∙ ap (registers_after (registers_before first line mode n)) (sym (same n (omega arith)))

  -- the mode before a line
  pub path_lines : (mode : ℕ)
      → ((line column : ℕ) → line < lines → column < columns → SameScreen line column (registers_before first line (mode_before first mode line) column).mode)
      → (n : ℕ) → n ≤ lines → mode_before second mode n ≡ mode_before first mode n
  unfolding mode_after_lines
  path_lines mode same zero h = refl
  path_lines mode same (suc n) h =
      mode_suc second mode n
      ∙ ap (mode_after_line second n) (path_lines mode same n (omega arith))
      ∙ ap (λ (r : Registers). r.mode) (path_line n (mode_before first mode n) columns (λ column hc. same n column (omega arith) hc))
      ∙ sym (mode_suc first mode n)

  colours_same : (counter line : ℕ) (before : Registers) (byte : ℕ)
      → ((is_attribute byte || is_bitmap line before.mode) ≡ false → SameCharacter line before.mode before.style (byte % 128))
      → colours_of second counter line before byte ≡ colours_of first counter line before byte
  unfolding colours_of character_used
  colours_same counter line before byte same = rw (go (is_attribute byte || is_bitmap line before.mode) refl)
    where
      address : Ram → ℕ
      address ram = character_address ram.profile line before.mode before.style (byte % 128)

      go : (none-used : Bool) → (is_attribute byte || is_bitmap line before.mode) ≡ none-used
          → pattern second.image byte (cond none-used none (some (address second)))
          ≡ pattern first.image byte (cond none-used none (some (address first)))
      go true e = refl
      go false e = ap (λ (b : ℕ). b % 64) (sym (same e))

  -- a cell of the second from the bytes of the first: the addresses alone are its own
  pub cell_read : (counter line column : ℕ) (before : Registers) → SameBytes line column before
      → let byte = screen_byte first line column before.mode in
      cell second counter line column before
      ≡ record {
        line = line;
        mode = before.mode;
        screen = screen_address second.profile line column before.mode;
        character = character_used second.profile line before byte;
        colours = colours_of first counter line before byte;
        registers = registers_after before byte;
      }
  unfolding cell
  cell_read counter line column before same =
      rw (← same.screen)
      (rw (colours_same counter line before (screen_byte first line column before.mode) same.character))

  -- the cells of a line and of a frame, each changed in the same way
  module _ (change : Cell → Cell) (counter : ℕ)
      (changed : (line column : ℕ) (before : Registers) → SameBytes line column before
      → cell second counter line column before ≡ change (cell first counter line column before)) where
    pub line_changed : (line mode : ℕ) → ((column : ℕ) → column < columns → SameBytes line column (registers_before first line mode column))
        → line_cells second counter line mode ≡ map change (line_cells first counter line mode)
    unfolding first_cells cell_at
    line_changed line mode same =
        gather_mapped change _ _ columns (λ column hc.
        let before = path_line line mode column (λ k hk. (same k (omega arith)).screen) in
        ap (λ (r : Registers). cell second counter line column r ∷ []) before
        ∙ ap (λ (c : Cell). c ∷ []) (changed line column _ (same column hc)))

    pub frame_changed : (mode : ℕ)
        → ((line column : ℕ) → line < lines → column < columns → SameBytes line column (registers_before first line (mode_before first mode line) column))
        → first_lines second counter mode lines ≡ map change (first_lines first counter mode lines)
    unfolding first_lines
    frame_changed mode same =
        gather_mapped change (line_of first counter mode) (line_of second counter mode) lines (λ line hl.
        ap (line_cells second counter line) (path_lines mode (λ line column hl hc. (same line column hl hc).screen) line (omega arith))
        ∙ line_changed line (mode_before first mode line) (λ column hc. same line column hl hc))
