-- What is known of the inputs of a comparison that is not refused.
-- Assumes nothing.
use Prim.Native.Nat.{ℕ}
use mathlib.Core.List.{List}
use mathlib.Core.Path.{◌≡◌}
use lib.ListN.{length}
use Rattle.machine.specs.Lists.{AreSized}
use Rattle.machine.specs.Sizes.{lines, frame_length}
use Rattle.machine.proofs.Refusals.{output_passed}
use Rattle.compare.specs.Answer.{list_length, status_of}

module _ (first second counts cells : List ℕ) where
  pub record Sized : Type 0 where
    pub frames : AreSized frame_length first second
    pub counted : length counts ≡ lines
    pub list : length cells ≡ list_length

  pub accepted_lengths : status_of first second counts cells ≡ 0 → Sized
  accepted_lengths accepted =
      let one = output_passed _ frame_length (length first) accepted in
      let other = output_passed _ frame_length (length second) one.rest in
      let counted = output_passed _ lines (length counts) other.rest in
      let list = output_passed _ list_length (length cells) counted.rest in
      record { frames = record { one = one.holds; other = other.holds }; counted = counted.holds; list = list.holds }
