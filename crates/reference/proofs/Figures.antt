-- The table of figures holds: each by computing with the rules' definitions, for every memory that holds the bytes named.
-- Assumes nothing.
use Prim.Native.Nat.{ℕ}
use mathlib.Core.Path.{◌≡◌, refl}
use borrow.Author.Tests.{lt-ltb}
use Rattle.machine.specs.Image.{folded}
use Rattle.card.specs.Card.{bitmap_lines}
use Rattle.video.specs.Registers.{latched}
use Rattle.video.specs.Cell.{cell, screen_byte, registers_after, character_used, colours_of}
use Rattle.video.specs.Line.{registers_before, cell_at}
use Rattle.video.specs.Ram.{Ram}
use Rattle.video.proofs.Lines.{registers_next}
use Rattle.bus.specs.Place.{place}
use Rattle.reference.specs.Figures.{Figures, Hires}

mode_change : (ram : Ram) (counter mode : ℕ) → Hires (registers_before ram 0 mode 5).mode
    → screen_byte ram 0 5 (registers_before ram 0 mode 5).mode ≡ 0x1A
    → ((cell_at ram counter 0 mode 6).screen ≡ folded ram.profile 0xBB86) × ((cell_at ram counter 0 mode 6).mode ≡ 2)
unfolding cell_at cell registers_after latched
mode_change ram counter mode hires byte =
    let next : (registers_before ram 0 mode 6).mode ≡ 2 = rw (registers_next ram counter 0 mode 5) (simp byte) in
    (rw next, next)

pub figures : Figures
unfolding cell_at cell character_used colours_of registers_after registers_before latched place
figures =
    record {
      text_first = λ profile mode text. simp text;
      text_last = λ profile mode text. simp text;
      hires_last = λ profile mode hires. simp hires;
      hires_bottom = λ profile mode hires. simp hires;
      code_65_line_3 = λ ram counter mode column text style code. simp (code, text, style);
      code_65_double_line_3 = λ ram counter mode column text style code. simp (code, text, style);
      code_65_double_line_11 = λ ram counter mode column text style code. simp (code, text, style);
      code_32_alternate_line_200 = λ ram counter mode column hires style code. simp (code, hires, style);
      byte_11 = λ ram counter line mode any byte. simp byte;
      byte_91 = λ ram counter line mode any byte. simp byte;
      byte_61 = λ ram counter line mode bitmap byte. simp (byte, lt-ltb line bitmap_lines bitmap.0, bitmap.1);
      byte_e1 = λ ram counter line mode bitmap byte. simp (byte, lt-ltb line bitmap_lines bitmap.0, bitmap.1);
      byte_20 = λ ram counter line mode bitmap byte. simp (byte, lt-ltb line bitmap_lines bitmap.0, bitmap.1);
      byte_20_is_a_picture = refl;
      flash_shown = λ ram line mode bitmap first second. simp (first, second, lt-ltb line bitmap_lines bitmap.0, bitmap.1);
      flash_hidden = λ ram line mode bitmap first second. simp (first, second, lt-ltb line bitmap_lines bitmap.0, bitmap.1);
      flash_hidden_inverse = λ ram line mode bitmap first second. simp (first, second, lt-ltb line bitmap_lines bitmap.0, bitmap.1);
      mode_change = mode_change;
      microdisc_fd = λ profile second. refl;
      microdisc_00_c000 = λ profile second. refl;
      microdisc_00_e000 = λ profile second. refl;
      microdisc_02 = λ profile second. refl;
      boot_eprom_is_5 = refl;
      folded_48k = λ address. refl;
      folded_16k_bb80 = refl;
      folded_16k_b400 = refl;
      folded_16k_9800 = refl;
      ram_is_0 = refl;
      ram_16k_4300 = refl;
      ram_16k_8300 = refl;
      via_16k_0300 = refl;
      basic_16k_c000 = refl;
    }
