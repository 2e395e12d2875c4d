-- What holds of every line and every frame, stated over the rules alone; the proofs are in proofs/.
-- Assumes nothing.
use Rattle.std.specs.Prelude.{ℕ, ◌+◌, ◌*◌, ◌≤◌, ◌<◌, ◌≡◌, get_or, length}
use mathlib.Core.List.{List, [], ◌∷◌, map, Option-to_list}
use Rattle.std.proofs.Math.Option.{Option}
use Rattle.machine.specs.Image.{Image, image_length, folded, byte_at}
use Rattle.machine.specs.Lists.{Each}
use Rattle.machine.specs.Sizes.{cell_length, columns, lines}
use Rattle.video.specs.Answer.{painted}
use Rattle.video.specs.Cell.{Cell, pixels, screen_addresses, used}
use Rattle.video.specs.Frame.{mode_before, frame_cells}
use Rattle.video.specs.Laws.{StandsIn}
use Rattle.video.specs.Line.{cell_at, line_cells}
use Rattle.video.specs.Ram.{Ram, ram_of}
use Rattle.video.specs.State.{Within, with_profile, after_frame}
use Rattle.video.specs.declared.state.State.{State}
use Rattle.video_laws.specs.Region.{Region, In, InOneBlock, folded_region, screen_region, definition_region}

-- a cell's addresses lie in the folded regions of its line and the mode in force
abbrev pub Placed : ℕ → Cell → Type 0
Placed profile c =
    In (folded_region profile (screen_region c.line c.mode)) c.screen
    × Each (In (folded_region profile (definition_region c.line c.mode))) (Option-to_list c.character)

-- the mode in force at each cell is the one that the cell before left, at the first cell the given one (document 01: mode in force)
abbrev pub InForce : ℕ → List Cell → Type 0
InForce mode [] = Unit {0}
InForce mode (c ∷ cells) = (c.mode ≡ mode) × InForce c.registers.mode cells

-- two images hold the same bytes at each of the addresses
abbrev pub Agree : Image → Image → List ℕ → Type 0
Agree first second addresses = Each (λ (address : ℕ). byte_at first address ≡ byte_at second address) addresses

-- a number is a colour, 0 to 7
abbrev pub Colour : ℕ → Type 0
Colour pixel = pixel ≤ 7

-- no region of the table crosses a border of 16K
abbrev pub RegionsInOneBlock : Type 0
RegionsInOneBlock = (line mode : ℕ) → InOneBlock (screen_region line mode) × InOneBlock (definition_region line mode)

-- so a folded region holds the folded addresses of the region, and no others
abbrev pub RegionsFold : Type 0
RegionsFold =
    (profile : ℕ) (region : Option Region) → InOneBlock region
    → ((address : ℕ) → In region address → In (folded_region profile region) (folded profile address))
    × ((address : ℕ) → In (folded_region profile region) address → (origin : ℕ) × In region origin × (folded profile origin ≡ address))

-- each used address lies in its region
abbrev pub RegionsHold : Type 0
RegionsHold = (image : Image) (state : State) → Each (Placed state.profile) (frame_cells image state)

-- the mode in force is carried from cell to cell, across line ends too
abbrev pub ModesCarry : Type 0
ModesCarry = (image : Image) (state : State) → InForce state.mode (frame_cells image state)

-- each used address is below the ROM and the overlay
abbrev pub UsedBelowOverlay : Type 0
UsedBelowOverlay = (image : Image) (state : State) → Each (λ (address : ℕ). address < 0xC000) (used (frame_cells image state))

-- each used address is that of a byte of the image
abbrev pub UsedInImage : Type 0
UsedInImage =
    (image : Image) (state : State) → Each (λ (address : ℕ). address < image_length state.profile) (used (frame_cells image state))

-- each pixel of a line is a colour
abbrev pub LineOfColours : Type 0
LineOfColours = (ram : Ram) (counter line mode : ℕ) → Each Colour (pixels (line_cells ram counter line mode))

-- each pixel of a frame is a colour
abbrev pub FrameOfColours : Type 0
FrameOfColours = (image : Image) (state : State) → Each Colour (pixels (frame_cells image state))

-- a frame that begins in a state within its limits leaves one that is
abbrev pub StatesStayWithin : Type 0
StatesStayWithin =
    (image : Image) (state : State) → Within state → Within (painted (after_frame state) (frame_cells image state)).state

-- cell 40 x line + column of a frame is the cell at that line and column
abbrev pub CellOfFrame : Type 0
CellOfFrame =
    (image : Image) (state : State) (line column : ℕ) (other : Cell) → line < lines → column < columns
    → let ram = ram_of image state in
    get_or (frame_cells image state) (columns * line + column) other
    ≡ cell_at ram state.counter line (mode_before ram state.mode line) column

-- pixel 6 x i + k of cells of six colours is colour k of cell i
abbrev pub PixelOfCell : Type 0
PixelOfCell =
    (cells : List Cell) (i k : ℕ) (other : Cell) → Each (λ (c : Cell). length c.colours ≡ cell_length) cells
    → i < length cells → k < cell_length
    → get_or (pixels cells) (cell_length * i + k) 0 ≡ get_or (get_or cells i other).colours k 0

-- each cell of a frame has six colours
abbrev pub CellsOfSix : Type 0
CellsOfSix = (image : Image) (state : State) → Each (λ (c : Cell). length c.colours ≡ cell_length) (frame_cells image state)

-- the modes before the lines and after the last depend on the screen bytes alone
abbrev pub PathByScreenBytes : Type 0
PathByScreenBytes =
    (first second : Image) (state : State) → Agree first second (screen_addresses (frame_cells first state))
    → (line : ℕ) → line ≤ lines → mode_before (ram_of second state) state.mode line ≡ mode_before (ram_of first state) state.mode line

-- a frame depends on the bytes at its used addresses alone
abbrev pub FrameByUsedBytes : Type 0
FrameByUsedBytes =
    (first second : Image) (state : State) → Agree first second (used (frame_cells first state))
    → frame_cells second state ≡ frame_cells first state

-- an image that stands in another shows the same pixels, uses as many bytes, at folded addresses, and leaves the same mode
abbrev pub FoldedFrameShowsSame : Type 0
FoldedFrameShowsSame =
    (small large : Image) (state : State) → StandsIn state.profile small large
    → let folding = frame_cells small (with_profile 1 state) in
    let plain = frame_cells large state in
    (pixels folding ≡ pixels plain) × (used folding ≡ map (folded 1) (used plain)) × (painted state folding ≡ painted state plain)
