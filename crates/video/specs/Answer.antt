-- What the entry points answer, and what they leave in the memory that is lent to them, for every input.
-- Assumes nothing.
use Rattle.std.specs.Prelude.{ℕ, List, [], ◌∷◌, ◌++◌, length}
use Rattle.machine.specs.Refusal.{Check, refusal, if_done, memory_check, output_check, mode_check, counter_check, line_check, column_check, profile_check}
use Rattle.machine.specs.Sizes.{line_length, frame_length}
use Rattle.used_map.specs.Map.{map_length, marked}
use Rattle.video.specs.Address.{screen_address}
use Rattle.video.specs.Cell.{Cell, pixels, screen_addresses, character_addresses, used, mode_left}
use Rattle.video.specs.Frame.{frame_cells}
use Rattle.video.specs.Line.{line_cells}
use Rattle.video.specs.Ram.{ram_of}
use Rattle.video.specs.State.{with_mode, after_frame}
use Rattle.video.specs.declared.address.Address.{Address}
use Rattle.video.specs.declared.answer.Painted.{Painted}
use Rattle.video.specs.declared.state.State.{State}

-- what a painting answers: the state in the mode that its last cell left, and how many addresses of each kind it used
abbrev pub painted : State → List Cell → Painted
painted state cells =
    record {
      status = 0;
      state = with_mode (mode_left state.mode cells) state;
      screen = length (screen_addresses cells);
      character = length (character_addresses cells);
    }

-- what a refused painting answers: the state as handed in, and counts of 0
abbrev pub unpainted : ℕ → State → Painted
unpainted number state = record { status = number; state = state; screen = 0; character = 0 }

-- the first refusals of a painting, in order: the profile, the lengths of the memory and of what is to be painted
abbrev pub picture_checks : ℕ → ℕ → ℕ → ℕ → List Check
picture_checks profile memory wanted output = profile_check profile ∷ memory_check profile memory ∷ output_check wanted output ∷ []

-- and its last: mode and counter
abbrev pub state_checks : State → List Check
state_checks state = mode_check state.mode ∷ counter_check state.counter ∷ []

-- between them that of a map: its length
abbrev pub map_check : List ℕ → Check
map_check map = output_check map_length (length map)

-- by the status of a painting: what it answers, from the state handed in and the one that it leaves but for the mode
abbrev pub painted_by : ℕ → State → State → List Cell → Painted
painted_by number state after cells = if_done number (painted after cells) (unpainted number state)

-- and what it leaves in what was lent to be filled
abbrev pub filled_by : ℕ → List Cell → List ℕ → List ℕ
filled_by number cells lent = if_done number (pixels cells) lent

-- and in a map: the used addresses marked
abbrev pub mapped_by : ℕ → List Cell → List ℕ → List ℕ
mapped_by number cells map = if_done number (marked map (used cells)) map

-- a frame: refusals 12, 1, 2, 3, 4
abbrev pub frame_checks : List ℕ → State → List ℕ → List Check
frame_checks memory state frame = picture_checks state.profile (length memory) frame_length (length frame)

abbrev pub frame_refusal : List ℕ → State → List ℕ → ℕ
frame_refusal memory state frame = refusal (frame_checks memory state frame ++ state_checks state)

unfoldable pub frame_answer : List ℕ → State → List ℕ → Painted
frame_answer memory state frame = painted_by (frame_refusal memory state frame) state (after_frame state) (frame_cells memory state)

unfoldable pub frame_contents : List ℕ → State → List ℕ → List ℕ
frame_contents memory state frame = filled_by (frame_refusal memory state frame) (frame_cells memory state) frame

-- a frame with a map: refusals 12, 1, 2 for the frame, 2 for the map, 3, 4
abbrev pub mapped_frame_refusal : List ℕ → State → List ℕ → List ℕ → ℕ
mapped_frame_refusal memory state frame map = refusal (frame_checks memory state frame ++ (map_check map ∷ state_checks state))

unfoldable pub mapped_frame_answer : List ℕ → State → List ℕ → List ℕ → Painted
mapped_frame_answer memory state frame map =
    painted_by (mapped_frame_refusal memory state frame map) state (after_frame state) (frame_cells memory state)

unfoldable pub mapped_frame_contents : List ℕ → State → List ℕ → List ℕ → List ℕ
mapped_frame_contents memory state frame map = filled_by (mapped_frame_refusal memory state frame map) (frame_cells memory state) frame

unfoldable pub mapped_frame_map : List ℕ → State → List ℕ → List ℕ → List ℕ
mapped_frame_map memory state frame map = mapped_by (mapped_frame_refusal memory state frame map) (frame_cells memory state) map

-- a line: refusals 12, 1, 2, 3, 4, 5; a single line does not move the counter
abbrev pub line_checks : List ℕ → State → List ℕ → List Check
line_checks memory state output = picture_checks state.profile (length memory) line_length (length output)

abbrev pub line_refusal : List ℕ → State → ℕ → List ℕ → ℕ
line_refusal memory state line output = refusal (line_checks memory state output ++ state_checks state ++ (line_check line ∷ []))

-- the cells of a single line, which begins in the mode of the state
abbrev pub cells_of_line : List ℕ → State → ℕ → List Cell
cells_of_line memory state line = line_cells (ram_of memory state) state.counter line state.mode

unfoldable pub line_answer : List ℕ → State → ℕ → List ℕ → Painted
line_answer memory state line output = painted_by (line_refusal memory state line output) state state (cells_of_line memory state line)

unfoldable pub line_contents : List ℕ → State → ℕ → List ℕ → List ℕ
line_contents memory state line output = filled_by (line_refusal memory state line output) (cells_of_line memory state line) output

-- a line with a map: refusals 12, 1, 2 for the line, 2 for the map, 3, 4, 5
abbrev pub mapped_line_refusal : List ℕ → State → ℕ → List ℕ → List ℕ → ℕ
mapped_line_refusal memory state line output map =
    refusal (line_checks memory state output ++ (map_check map ∷ state_checks state) ++ (line_check line ∷ []))

unfoldable pub mapped_line_answer : List ℕ → State → ℕ → List ℕ → List ℕ → Painted
mapped_line_answer memory state line output map =
    painted_by (mapped_line_refusal memory state line output map) state state (cells_of_line memory state line)

unfoldable pub mapped_line_contents : List ℕ → State → ℕ → List ℕ → List ℕ → List ℕ
mapped_line_contents memory state line output map =
    filled_by (mapped_line_refusal memory state line output map) (cells_of_line memory state line) output

unfoldable pub mapped_line_map : List ℕ → State → ℕ → List ℕ → List ℕ → List ℕ
mapped_line_map memory state line output map =
    mapped_by (mapped_line_refusal memory state line output map) (cells_of_line memory state line) map

-- the address of a cell's screen byte: refusals 12, 3, 5, 6, with 0 for the address
abbrev pub address_refusal : ℕ → ℕ → ℕ → ℕ → ℕ
address_refusal profile line column mode =
    refusal (profile_check profile ∷ mode_check mode ∷ line_check line ∷ column_check column ∷ [])

abbrev pub address_answer : ℕ → ℕ → ℕ → ℕ → Address
address_answer profile line column mode =
    let number = address_refusal profile line column mode in
    record { status = number; address = if_done number (screen_address profile line column mode) 0 }
