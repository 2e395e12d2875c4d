-- What holds of every line and every frame and the painter's proofs rest on, stated over the rules alone; the proofs are in proofs/.
-- Assumes nothing.
use Rattle.std.specs.Prelude.{ℕ, ◌+◌, ◌*◌, ◌<◌, map, ◌≡◌, length}
use Rattle.std.proofs.Math.Option
use Rattle.machine.specs.Image.{Image, image_length, folded, byte_at}
use Rattle.machine.specs.Sizes.{columns, lines}
use Rattle.video.specs.Address.{video_block}
use Rattle.video.specs.Cell.{Cell, screen_addresses}
use Rattle.video.specs.Frame.{frame_cells}
use Rattle.video.specs.Line.{line_cells}
use Rattle.video.specs.Ram.{Ram}
use Rattle.video.specs.State.{with_profile}
use Rattle.video.specs.declared.state.State.{State}

-- a line uses 40 screen bytes
abbrev pub LineUsesScreenBytes : Type 0
LineUsesScreenBytes = (ram : Ram) (counter line mode : ℕ) → length (screen_addresses (line_cells ram counter line mode)) ≡ columns

-- a frame uses 8,960 screen bytes
abbrev pub FrameUsesScreenBytes : Type 0
FrameUsesScreenBytes = (image : Image) (state : State) → length (screen_addresses (frame_cells image state)) ≡ columns * lines

-- a cell with its addresses folded
abbrev pub folded_cell : ℕ → Cell → Cell
folded_cell profile c =
    record {
      line = c.line;
      mode = c.mode;
      screen = folded profile c.screen;
      character = Option.map (folded profile) c.character;
      colours = c.colours;
      registers = c.registers;
    }

-- the image of a 16K machine stands in that of a machine of some profile from 8000 to BFFF
abbrev pub StandsIn : ℕ → Image → Image → Type 0
StandsIn profile small large =
    (place : ℕ) → place < image_length 1 → byte_at large (folded profile (video_block + place)) ≡ byte_at small place

-- then both paint the same cells, but for the addresses, which the 16K machine folds
abbrev pub FrameFolds : Type 0
FrameFolds =
    (small large : Image) (state : State) → StandsIn state.profile small large
    → frame_cells small (with_profile 1 state) ≡ map (folded_cell 1) (frame_cells large state)
