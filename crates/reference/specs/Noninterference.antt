-- Noninterference (demand 3): what a frame shows depends on its used addresses alone, these lie in their regions, and no list
-- of bus accesses that stores at none of them changes it. One statement in three parts, over the definitions that the contracts
-- of paint_frame, paint_frame_mapped, read, write and write_in_place cite.
-- Assumes nothing.
use Rattle.std.specs.Prelude.{ℕ, ◌≡◌, List, length}
use Rattle.machine.specs.Image.{Image, IsImage}
use Rattle.machine.specs.Lists.{Each}
use Rattle.machine.specs.Sizes.{frame_length}
use Rattle.used_map.specs.Map.{map_length}
use Rattle.video.specs.State.{Within, after_frame}
use Rattle.video.specs.Cell.{pixels, used}
use Rattle.video.specs.Frame.{frame_cells}
use Rattle.video.specs.Answer.{painted, frame_answer, frame_contents, mapped_frame_answer, mapped_frame_contents, mapped_frame_map}
use Rattle.video.specs.declared.answer.Painted.{Painted}
use Rattle.video.specs.declared.state.State.{State}
use Rattle.video_laws.specs.Laws.{Agree, InForce, Placed}
use Rattle.bus.specs.Accesses.{Step, board_after, stores}
use Rattle.bus.specs.declared.latch.Latches.{Latches}

-- two paintings of the program: neither is refused, and both leave and answer the same
pub record DoneAlike (first second : Painted) (lent other : List ℕ) : Type 0 where
  pub first_done : first.status ≡ 0
  pub second_done : second.status ≡ 0
  pub contents : other ≡ lent
  pub answers : second ≡ first

-- the program paints two images into two lent frames, whatever these held before
abbrev pub PaintSame : Image → Image → State → List ℕ → List ℕ → Type 0
PaintSame first second state lent other =
    DoneAlike (frame_answer first state lent) (frame_answer second state other) (frame_contents first state lent) (frame_contents second state other)

-- and, with maps that were equal before, marks the same
abbrev pub MapSame : Image → Image → State → List ℕ → List ℕ → List ℕ → Type 0
MapSame first second state lent other map =
    DoneAlike (mapped_frame_answer first state lent map) (mapped_frame_answer second state other map)
    (mapped_frame_contents first state lent map) (mapped_frame_contents second state other map)
    × (mapped_frame_map second state other map ≡ mapped_frame_map first state lent map)

-- two images show the same from a start state: the used addresses in painting order, all pixels, the state afterwards and both
-- counts; and so does the program, for any two lent frames of 53,760 bytes and any map of 8,192 bytes
pub record ShowSame (first second : Image) (state : State) : Type 0 where
  pub addresses : used (frame_cells second state) ≡ used (frame_cells first state)
  pub shown : pixels (frame_cells second state) ≡ pixels (frame_cells first state)
  pub answer : painted (after_frame state) (frame_cells second state) ≡ painted (after_frame state) (frame_cells first state)
  pub program : (lent other : List ℕ) → length lent ≡ frame_length → length other ≡ frame_length
      → PaintSame first second state lent other × ((map : List ℕ) → length map ≡ map_length → MapSame first second state lent other map)

-- no address is in both lists
abbrev pub Apart : List ℕ → List ℕ → Type 0
Apart xs ys = Each (λ (x : ℕ). Each (λ (y : ℕ). x ≡ y → ⊥) ys) xs

-- the three parts, for an image and a start state
pub record Noninterference (first : Image) (state : State) : Type 0 where
  -- an image that agrees at every used address shows the same
  pub images : (second : Image) → IsImage state.profile second → Agree first second (used (frame_cells first state)) → ShowSame first second state
  -- every cell uses addresses in the folded regions of its line and the mode in force there
  pub regions : InForce state.mode (frame_cells first state) × Each (Placed state.profile) (frame_cells first state)
  -- a list of accesses, each with a profile of its own, that stores at no used address leaves a memory that shows the same
  pub accesses : (latches : Latches) (steps : List Step) → Apart (used (frame_cells first state)) (stores (length first) latches steps)
      → ShowSame first (board_after (record { memory = first; latches = latches }) steps).memory state

-- for every start state within its limits, of either profile, and every image of the profile's length
abbrev pub NoninterferenceHolds : Type 0
NoninterferenceHolds = (first : Image) (state : State) → IsImage state.profile first → Within state → Noninterference first state
