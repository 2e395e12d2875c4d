-- The RAM that video reads: an image, and the profile by which addresses reach its bytes.
-- Assumes nothing.
use Rattle.std.specs.Prelude.{ℕ}
use Rattle.machine.specs.Image.{Image}
use Rattle.video.specs.declared.state.State.{State}

pub record Ram : Type 0 where
  pub profile : ℕ
  pub image : Image

-- the RAM of a painting: the image that is lent, by the profile of the state
abbrev pub ram_of : Image → State → Ram
ram_of image state = record { profile = state.profile; image = image }
