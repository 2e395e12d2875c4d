-- Each cell of a frame stands in its place and in its regions and shows colours, and the mode in force is carried along.
-- Assumes nothing.
use Prim.Native.Nat.{ℕ, zero, suc, ◌<◌, ◌%◌}
use mathlib.Core.List.{List, [], ◌∷◌, ◌++◌, map}
use mathlib.Core.Path.{sym, subst, ◌∙◌}
use native.Mathlib.Omega.{arith}
use lib.ListN.{length-map}
use Rattle.std.proofs.lemmas.List.{get_or-map}
use Rattle.machine.specs.Image.{image_length}
use Rattle.machine.specs.Lists.{gather, Each}
use Rattle.machine.specs.Sizes.{cell_length, columns, lines}
use Rattle.machine.proofs.Each.{each_map, each_flatten}
use Rattle.machine.proofs.Lists.{flatten_at, gather_at, singles_at}
use Rattle.video.specs.Cell.{Cell, cell, screen_byte, pixels, mode_left}
use Rattle.video.specs.Frame.{mode_before, line_of, first_lines}
use Rattle.video.specs.Line.{cell_at, first_cells}
use Rattle.video.specs.Ram.{Ram, ram_of}
use Rattle.video.proofs.Addresses.{screen_below, screen_inside, characters_inside}
use Rattle.video.proofs.Cells.{colours_most, cell_six}
use Rattle.video.proofs.Frames.{line_length_lem, mode_down, each_of_frame}
use Rattle.video.proofs.Lines.{Six, mode_after, each_of_line}
use Rattle.video.proofs.Used.{character_each, used_of_frame}
use Rattle.video_laws.specs.Laws.{Placed, InForce, Colour, RegionsHold, ModesCarry, UsedBelowOverlay, UsedInImage, LineOfColours, FrameOfColours, CellOfFrame, PixelOfCell, CellsOfSix}
use Rattle.video_laws.specs.Region.{In, folded_region, definition_region}
use Rattle.video_laws.proofs.Regions.{screen_in_region, characters_below, definition_in_region}

pub cell_of_frame : CellOfFrame
unfolding first_lines first_cells
cell_of_frame image state line column other hl hc =
    let ram = ram_of image state in
    let cells = line_of ram state.counter state.mode in
    gather_at cells columns (line_length_lem ram state.counter state.mode) lines line column other hl hc
    ∙ singles_at (cell_at ram state.counter line (mode_before ram state.mode line)) columns column other hc

pub regions_hold : RegionsHold
unfolding cell
regions_hold image state =
    let profile = state.profile in
    each_of_frame (Placed profile) image state (λ line column hl hc before coloured.
    let byte = screen_byte (ram_of image state) line column before.mode in (
      screen_in_region profile line column before.mode hl hc,
      character_each (In (folded_region profile (definition_region line before.mode))) profile line before byte
          (definition_in_region profile line before.mode before.style (byte % 128) (omega arith)),
    ))

pub used_below_overlay : UsedBelowOverlay
used_below_overlay image state =
    used_of_frame _ image state (λ line column mode hl hc. omega (arith, screen_below state.profile line column mode hl hc))
    (λ line mode style code h. omega (arith, characters_below state.profile line mode style code h))

pub used_in_image : UsedInImage
used_in_image image state =
    used_of_frame (λ (address : ℕ). address < image_length state.profile) image state (screen_inside state.profile) (characters_inside state.profile)

-- the pixels of cells that show colours are colours
pixels_coloured : (cells : List Cell) → Each (λ (c : Cell). Each Colour c.colours) cells → Each Colour (pixels cells)
unfolding pixels
pixels_coloured cells p = each_flatten Colour _ (each_map (Each Colour) (λ (c : Cell). c.colours) cells p)

pub line_of_colours : LineOfColours
unfolding cell
line_of_colours ram counter line mode =
    pixels_coloured _ (each_of_line (λ (c : Cell). Each Colour c.colours) ram counter line mode (λ column hc before coloured.
    colours_most ram counter line before (screen_byte ram line column before.mode) coloured))

pub frame_of_colours : FrameOfColours
unfolding cell
frame_of_colours image state =
    pixels_coloured _ (each_of_frame (λ (c : Cell). Each Colour c.colours) image state (λ line column hl hc before coloured.
    colours_most (ram_of image state) state.counter line before (screen_byte (ram_of image state) line column before.mode) coloured))

pub cells_of_six : CellsOfSix
cells_of_six image state =
    each_of_frame (λ (c : Cell). Six c.colours) image state (λ line column hl hc before coloured.
    cell_six (ram_of image state) state.counter line column before)

pub pixel_of_cell : PixelOfCell
unfolding pixels
pixel_of_cell cells i k other sixes hi hk =
    let colours : Cell → List ℕ = λ (c : Cell). c.colours in
    flatten_at cell_length (map colours cells) (each_map Six colours cells sixes) i k 0 (rw (length-map cells colours) hi) hk
    ∙ rw (get_or-map colours cells i other [] hi)

-- the mode in force, along joined cells
force_append : (mode : ℕ) (xs ys : List Cell) → InForce mode xs → InForce (mode_left mode xs) ys → InForce mode (xs ++ ys)
unfolding mode_left
force_append mode [] ys fx fy = fy
force_append mode (x ∷ xs) ys fx fy = (fx.0, force_append x.registers.mode xs ys fx.1 fy)

force_line : (ram : Ram) (counter line mode n : ℕ) → InForce mode (first_cells ram counter line mode n)
unfolding first_cells gather cell_at cell
force_line ram counter line mode zero = tt
force_line ram counter line mode (suc n) =
    force_append mode (first_cells ram counter line mode n) (cell_at ram counter line mode n ∷ []) (force_line ram counter line mode n)
    (sym (mode_after ram counter line mode n), tt)

force_lines : (ram : Ram) (counter mode n : ℕ) → InForce mode (first_lines ram counter mode n)
unfolding first_lines gather
force_lines ram counter mode zero = tt
force_lines ram counter mode (suc n) =
    let line = line_of ram counter mode n in
    force_append mode (first_lines ram counter mode n) line (force_lines ram counter mode n)
    (subst (λ (m : ℕ). InForce m line) (sym (mode_down ram counter mode n)) (force_line ram counter n (mode_before ram mode n) columns))

pub modes_carry : ModesCarry
modes_carry image state = force_lines (ram_of image state) state.counter state.mode lines
