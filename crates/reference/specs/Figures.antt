-- The bench figures that are proved, in one table, for every profile. Where a figure speaks of a byte at a place, it is
-- stated for every memory that holds that byte there.
-- Assumes nothing.
use Rattle.std.specs.Prelude.{ℕ, ◌<◌, ◌≡◌, true, false, List, [], ◌∷◌, replicate}
use Rattle.std.proofs.Math.Option.{some}
use Rattle.machine.specs.Image.{folded}
use Rattle.card.specs.Card.{bitmap_lines}
use Rattle.video.specs.Address.{is_hires, screen_address}
use Rattle.video.specs.Registers.{is_attribute}
use Rattle.video.specs.Cell.{screen_byte}
use Rattle.video.specs.Line.{registers_before, cell_at}
use Rattle.video.specs.Ram.{Ram}
use Rattle.bus.specs.Latch.{fresh_latches}
use Rattle.bus.specs.Place.{target_number, place, via, basic_rom, overlay_ram}
use Rattle.bus.specs.declared.place.Target.TheVariants as Target

-- the mode is text
abbrev pub Text : ℕ → Type 0
Text mode = is_hires mode ≡ false

-- the mode is hires
abbrev pub Hires : ℕ → Type 0
Hires mode = is_hires mode ≡ true

-- any cell of the line that has this code, in text or hires and with this style before it, uses this character byte
abbrev pub Uses : (ℕ → Type 0) → ℕ → ℕ → ℕ → ℕ → Type 0
Uses Mode style line code address =
    (ram : Ram) (counter mode column : ℕ)
    → let before = registers_before ram line mode column in
    Mode before.mode → before.style ≡ style → screen_byte ram line column before.mode ≡ code
    → (cell_at ram counter line mode column).character ≡ some (folded ram.profile address)

-- a line that begins with this byte shows these colours in its first cell
abbrev pub FirstShows : (ℕ → ℕ → Type 0) → ℕ → List ℕ → Type 0
FirstShows Where byte colours =
    (ram : Ram) (counter line mode : ℕ) → Where line mode → screen_byte ram line 0 mode ≡ byte
    → (cell_at ram counter line mode 0).colours ≡ colours

-- any line in any mode; a line that shows a bitmap
abbrev pub Anywhere : ℕ → ℕ → Type 0
Anywhere line mode = Unit {0}

abbrev pub InBitmap : ℕ → ℕ → Type 0
InBitmap line mode = (line < bitmap_lines) × Hires mode

-- a bitmap line that begins with these two bytes shows this colour six times in its second cell
abbrev pub SecondShows : ℕ → ℕ → ℕ → ℕ → Type 0
SecondShows counter first second colour =
    (ram : Ram) (line mode : ℕ) → InBitmap line mode → screen_byte ram line 0 mode ≡ first → screen_byte ram line 1 mode ≡ second
    → (cell_at ram counter line mode 1).colours ≡ replicate 6 colour

pub record Figures : Type 0 where
  pub text_first : (profile mode : ℕ) → Text mode → screen_address profile 0 0 mode ≡ folded profile 0xBB80
  pub text_last : (profile mode : ℕ) → Text mode → screen_address profile 223 39 mode ≡ folded profile 0xBFDF
  pub hires_last : (profile mode : ℕ) → Hires mode → screen_address profile 199 39 mode ≡ folded profile 0xBF3F
  pub hires_bottom : (profile mode : ℕ) → Hires mode → screen_address profile 200 0 mode ≡ folded profile 0xBF68
  pub code_65_line_3 : Uses Text 0 3 65 0xB60B
  pub code_65_double_line_3 : Uses Text 2 3 65 0xB609
  pub code_65_double_line_11 : Uses Text 2 11 65 0xB60D
  pub code_32_alternate_line_200 : Uses Hires 1 200 32 0x9D00
  pub byte_11 : FirstShows Anywhere 0x11 (replicate 6 1)
  pub byte_91 : FirstShows Anywhere 0x91 (replicate 6 6)
  pub byte_61 : FirstShows InBitmap 0x61 (7 ∷ 0 ∷ 0 ∷ 0 ∷ 0 ∷ 7 ∷ [])
  pub byte_e1 : FirstShows InBitmap 0xE1 (0 ∷ 7 ∷ 7 ∷ 7 ∷ 7 ∷ 0 ∷ [])
  pub byte_20 : FirstShows InBitmap 0x20 (7 ∷ 0 ∷ 0 ∷ 0 ∷ 0 ∷ 0 ∷ [])
  pub byte_20_is_a_picture : is_attribute 0x20 ≡ false
  pub flash_shown : SecondShows 15 0x0C 0x7F 7
  pub flash_hidden : SecondShows 16 0x0C 0x7F 0
  pub flash_hidden_inverse : SecondShows 16 0x0C 0xFF 7
  pub mode_change : (ram : Ram) (counter mode : ℕ) → Hires (registers_before ram 0 mode 5).mode
      → screen_byte ram 0 5 (registers_before ram 0 mode 5).mode ≡ 0x1A
      → ((cell_at ram counter 0 mode 6).screen ≡ folded ram.profile 0xBB86) × ((cell_at ram counter 0 mode 6).mode ≡ 2)
  pub microdisc_fd : (profile second : ℕ) → place profile (record { kind = 1; first = 0xFD; second = second }) 0xC000 ≡ overlay_ram 0xC000
  pub microdisc_00_c000 : (profile second : ℕ) → place profile (record { kind = 1; first = 0x00; second = second }) 0xC000 ≡ overlay_ram 0xC000
  pub microdisc_00_e000 : (profile second : ℕ) → place profile (record { kind = 1; first = 0x00; second = second }) 0xE000 ≡ record { target = Target.BootEprom; number = 0 }
  pub microdisc_02 : (profile second : ℕ) → place profile (record { kind = 1; first = 0x02; second = second }) 0xC000 ≡ basic_rom 0xC000
  pub boot_eprom_is_5 : target_number Target.BootEprom ≡ 5
  pub folded_48k : (address : ℕ) → folded 0 address ≡ address
  pub folded_16k_bb80 : folded 1 0xBB80 ≡ 0x3B80
  pub folded_16k_b400 : folded 1 0xB400 ≡ 0x3400
  pub folded_16k_9800 : folded 1 0x9800 ≡ 0x1800
  pub ram_is_0 : target_number Target.Ram ≡ 0
  pub ram_16k_4300 : place 1 fresh_latches 0x4300 ≡ record { target = Target.Ram; number = 0x300 }
  pub ram_16k_8300 : place 1 fresh_latches 0x8300 ≡ record { target = Target.Ram; number = 0x300 }
  pub via_16k_0300 : place 1 fresh_latches 0x0300 ≡ via 0x0300
  pub basic_16k_c000 : place 1 fresh_latches 0xC000 ≡ basic_rom 0xC000
