-- What a frame depends on, and what it leaves.
-- Assumes nothing.
use Prim.Native.Nat.{ℕ, ◌≤◌, ◌<◌}
use mathlib.Core.Bool.{Bool, true, false}
use mathlib.Core.List.{[], ◌∷◌, map-id, Option-to_list}
use mathlib.Core.Path.{◌≡◌, refl, ◌∙◌}
use native.Mathlib.Omega.{arith}
use lib.Dec.{eqb}
use borrow.Author.Tests.{eqb-false}
use Rattle.machine.specs.Image.{Image, byte_at}
use Rattle.machine.specs.Lists.{Each}
use Rattle.machine.specs.Sizes.{columns, lines, last_count}
use Rattle.machine.proofs.Each.{each_head, each_tail, each_piece, each_mapped, each_joined}
use Rattle.video.specs.Cell.{Cell, cell, screen_byte, screen_addresses, used}
use Rattle.video.specs.Frame.{mode_before, first_lines, frame_cells}
use Rattle.video.specs.Line.{cell_at, first_cells}
use Rattle.video.specs.Ram.{ram_of}
use Rattle.video.specs.State.{next_counter}
use Rattle.video.proofs.Agreement.{path_lines, cell_read, frame_changed}
use Rattle.video.proofs.Folded.{frame_folds, pixels_folded, used_folded, painted_folded}
use Rattle.video.proofs.Frames.{modes_small, mode_down}
use Rattle.video.proofs.Used.{each_character}
use Rattle.video.specs.declared.state.State.{State}
use Rattle.video_laws.specs.Laws.{Agree, StatesStayWithin, PathByScreenBytes, FrameByUsedBytes, FoldedFrameShowsSame}

counter_small : (counter : ℕ) → counter ≤ last_count → next_counter counter ≤ last_count
counter_small counter h = go (eqb counter last_count) refl
  where
    go : (last : Bool) → eqb counter last_count ≡ last → next_counter counter ≤ last_count
    go true e = simp e (omega arith)
    go false e = simp e (omega (arith, eqb-false counter last_count e))

pub states_stay_within : StatesStayWithin
states_stay_within image state within =
    record {
      mode = rw (mode_down (ram_of image state) state.counter state.mode lines) (modes_small (ram_of image state) state.mode within.mode lines);
      counter = counter_small state.counter within.counter;
      profile = within.profile;
    }

-- what holds of each cell of a frame holds of the cell at a line and a column
cell_in : (P : Cell → Type 0) (image : Image) (state : State) → Each P (frame_cells image state)
    → (line column : ℕ) → line < lines → column < columns
    → let ram = ram_of image state in P (cell_at ram state.counter line (mode_before ram state.mode line) column)
unfolding first_lines first_cells
cell_in P image state p line column hl hc =
    each_head P _ [] (each_piece P _ columns (each_piece P _ lines p line hl) column hc)

-- two images hold the same byte at an address
abbrev Same : Image → Image → ℕ → Type 0
Same first second address = byte_at first address ≡ byte_at second address

pub path_by_screen_bytes : PathByScreenBytes
unfolding screen_addresses cell_at cell screen_byte
path_by_screen_bytes first second state agree =
    path_lines (ram_of first state) (ram_of second state) state.mode
    (cell_in (λ (c : Cell). Same first second c.screen) first state (each_mapped (Same first second) (λ (c : Cell). c.screen) (frame_cells first state) agree))

pub frame_by_used_bytes : FrameByUsedBytes
unfolding used cell_at cell screen_byte
frame_by_used_bytes first second state agree =
    let Alike : Cell → Type 0 = λ (c : Cell). Agree first second (c.screen ∷ Option-to_list c.character) in
    let alike = cell_in Alike first state (each_joined (Same first second) _ (frame_cells first state) agree) in
    frame_changed (ram_of first state) (ram_of second state) (λ (c : Cell). c) state.counter
    (λ line column before same. cell_read (ram_of first state) (ram_of second state) state.counter line column before same)
    state.mode
    (λ line column hl hc. record {
      screen = each_head (Same first second) _ _ (alike line column hl hc);
      character = each_character (Same first second) state.profile line _ _ (each_tail (Same first second) _ _ (alike line column hl hc));
    })
    ∙ map-id (frame_cells first state)

pub folded_frame_shows_same : FoldedFrameShowsSame
folded_frame_shows_same small large state stands =
    rw (frame_folds small large state stands)
    (pixels_folded 1 (frame_cells large state), used_folded 1 (frame_cells large state), painted_folded 1 state (frame_cells large state))
