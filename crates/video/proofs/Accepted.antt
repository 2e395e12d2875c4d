-- No refusal applies to a frame of its length, of an image, from a state within its limits.
-- Assumes nothing.
use Prim.Native.Nat.{ℕ}
use mathlib.Core.List.{List}
use mathlib.Core.Path.{◌≡◌}
use lib.ListN.{length}
use borrow.Author.Tests.{eq-eqb, le-ltb}
use Rattle.machine.specs.Image.{Image, IsImage, image_length}
use Rattle.machine.specs.Sizes.{frame_length, last_mode, last_count, last_profile}
use Rattle.used_map.specs.Map.{map_length}
use Rattle.video.specs.Answer.{frame_refusal, mapped_frame_refusal}
use Rattle.video.specs.State.{Within}
use Rattle.video.specs.declared.state.State.{State}

-- a frame of its length, of an image, from a state within its limits, is not refused, with a map of its length or without
module _ (image : Image) (state : State) (frame : List ℕ) (sized : IsImage state.profile image) (within : Within state) (lent : length frame ≡ frame_length) where
  pub frame_accepted : frame_refusal image state frame ≡ 0
  frame_accepted =
      simp (
        le-ltb last_profile state.profile within.profile,
        eq-eqb (length image) (image_length state.profile) sized,
        eq-eqb (length frame) frame_length lent,
        le-ltb last_mode state.mode within.mode,
        le-ltb last_count state.counter within.counter,
      )

  pub mapped_accepted : (map : List ℕ) → length map ≡ map_length → mapped_frame_refusal image state frame map ≡ 0
  mapped_accepted map mapped =
      simp (
        le-ltb last_profile state.profile within.profile,
        eq-eqb (length image) (image_length state.profile) sized,
        eq-eqb (length frame) frame_length lent,
        eq-eqb (length map) map_length mapped,
        le-ltb last_mode state.mode within.mode,
        le-ltb last_count state.counter within.counter,
      )
