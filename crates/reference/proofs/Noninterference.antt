-- Noninterference holds: a frame depends on the bytes at its used addresses alone, and a list of accesses that stores at none of
-- them leaves those bytes, and the length of the memory, as they were. Assumes nothing.
use Prim.Native.Nat.{ℕ}
use mathlib.Core.Path.{◌≡◌, sym, ap, ◌∙◌}
use mathlib.Core.List.{List}
use lib.ListN.{length}
use Rattle.machine.specs.Image.{Image, IsImage}
use Rattle.machine.specs.Sizes.{frame_length}
use Rattle.used_map.specs.Map.{map_length, marked}
use Rattle.video.specs.State.{Within, after_frame}
use Rattle.video.specs.Cell.{Cell, pixels, used}
use Rattle.video.specs.Frame.{frame_cells}
use Rattle.video.specs.Answer.{painted, frame_refusal, frame_answer, frame_contents, mapped_frame_refusal, mapped_frame_answer, mapped_frame_contents, mapped_frame_map}
use Rattle.video.proofs.Accepted.{frame_accepted, mapped_accepted}
use Rattle.video.proofs.Answers.{painting_done, mapping_done}
use Rattle.video.specs.declared.answer.Painted.{Painted}
use Rattle.video.specs.declared.state.State.{State}
use Rattle.video_laws.proofs.Frames.{frame_by_used_bytes}
use Rattle.video_laws.proofs.Places.{regions_hold, modes_carry}
use Rattle.bus.specs.Accesses.{board_after}
use Rattle.bus.proofs.Stores.{steps_keep, steps_sized}
use Rattle.reference.specs.Noninterference.{DoneAlike, PaintSame, MapSame, ShowSame, NoninterferenceHolds}

-- a frame of its length is painted: what the program answers and leaves
module _ (image : Image) (state : State) (frame : List ℕ) (sized : IsImage state.profile image) (within : Within state) (lent : length frame ≡ frame_length) where
  done : (painted (after_frame state) (frame_cells image state) ≡ frame_answer image state frame)
      × (pixels (frame_cells image state) ≡ frame_contents image state frame)
  unfolding frame_answer frame_contents
  done =
      painting_done (frame_refusal image state frame) state (after_frame state) (frame_cells image state) frame
      (frame_accepted image state frame sized within lent)

  -- and, with a map of its length, in the map
  mapped : (map : List ℕ) → length map ≡ map_length
      → (painted (after_frame state) (frame_cells image state) ≡ mapped_frame_answer image state frame map)
      × (pixels (frame_cells image state) ≡ mapped_frame_contents image state frame map)
      × (marked map (used (frame_cells image state)) ≡ mapped_frame_map image state frame map)
  unfolding mapped_frame_answer mapped_frame_contents mapped_frame_map
  mapped map size =
      let number = mapped_frame_refusal image state frame map in
      let accepted = mapped_accepted image state frame sized within lent map size in
      let left = painting_done number state (after_frame state) (frame_cells image state) frame accepted in
      (left.0, left.1, mapping_done number (frame_cells image state) map accepted)

-- paintings of the same cells are alike
alike : (after : State) (cells : List Cell) (first second : Painted) (lent other : List ℕ)
    → (painted after cells ≡ first) → (pixels cells ≡ lent) → (painted after cells ≡ second) → (pixels cells ≡ other)
    → DoneAlike first second lent other
alike after cells first second lent other f l s o =
    record {
      first_done = sym (ap (λ (a : Painted). a.status) f);
      second_done = sym (ap (λ (a : Painted). a.status) s);
      contents = sym o ∙ l;
      answers = sym s ∙ f;
    }

-- the same cells show the same
module _ (first second : Image) (state : State) (sized : IsImage state.profile first) (sized-too : IsImage state.profile second) (within : Within state) (e : frame_cells second state ≡ frame_cells first state) where
  module _ (lent other : List ℕ) (l : length lent ≡ frame_length) (o : length other ≡ frame_length) where
    paint_same : PaintSame first second state lent other
    paint_same =
        let one = done first state lent sized within l in
        let two = done second state other sized-too within o in
        alike (after_frame state) (frame_cells first state) _ _ _ _ one.0 one.1
        (sym (ap (painted (after_frame state)) e) ∙ two.0) (sym (ap pixels e) ∙ two.1)

    map_same : (map : List ℕ) → length map ≡ map_length → MapSame first second state lent other map
    map_same map size =
        let one = mapped first state lent sized within l map size in
        let two = mapped second state other sized-too within o map size in (
          alike (after_frame state) (frame_cells first state) _ _ _ _ one.0 one.1
              (sym (ap (painted (after_frame state)) e) ∙ two.0) (sym (ap pixels e) ∙ two.1),
          sym two.2 ∙ ap (λ (cells : List Cell). marked map (used cells)) e ∙ one.2,
        )

  cells_show : ShowSame first second state
  cells_show =
      record {
        addresses = ap used e;
        shown = ap pixels e;
        answer = ap (painted (after_frame state)) e;
        program = λ lent other l o. (paint_same lent other l o, map_same lent other l o);
      }

pub noninterference : NoninterferenceHolds
noninterference first state image within =
    record {
      images = λ second sized agree. cells_show first second state image sized within (frame_by_used_bytes first second state agree);
      regions = (modes_carry first state, regions_hold first state);
      accesses = λ latches steps apart.
          let after = (board_after (record { memory = first; latches = latches }) steps).memory in
          cells_show first after state image (steps_sized steps first latches ∙ image) within
          (frame_by_used_bytes first after state (λ address m. sym (steps_keep steps first latches address (apart address m))));
    }
