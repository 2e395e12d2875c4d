-- An access that is not refused reaches a byte that the memory has, where its target holds bytes: RAM numbers are folded, and the
-- overlay is reached only where the image is 64K.
-- Assumes nothing.
use Prim.Native.Nat.{ℕ, ◌<◌}
use mathlib.Core.Bool.{Bool, true, false, true≢false}
use mathlib.Core.Path.{◌≡◌, refl, sym, ◌∙◌}
use native.Mathlib.Omega.{arith}
use lib.ListN.{length}
use Rattle.machine.specs.Image.{Image, is_16k, image_length}
use Rattle.machine.proofs.Choice.{cond_all}
use Rattle.machine.proofs.Folding.{folded_inside}
use Rattle.machine.proofs.Refusals.{profile_passed, memory_passed, kind_passed, controller_passed}
use Rattle.bus.specs.Cycle.{Held, is_memory, access_refusal}
use Rattle.bus.specs.Place.{ram, via, controller, basic_rom, overlay_ram, boot_eprom, unassigned, without_controller, with_microdisc, with_jasmin, place}
use Rattle.bus.specs.declared.latch.Latches.{Latches}
use Rattle.bus.specs.declared.place.Place.{Place}

module _ (profile address : ℕ) (fits : address < 65536) where
  -- a place of the image, if its target holds bytes
  record Inside (reached : Place) : Type 0 where
    number : is_memory reached ≡ true → reached.number < image_length profile

  -- RAM numbers are folded; an overlay's are inside 64K; no other target holds a byte
  ram_inside : Inside (ram profile address)
  ram_inside = record { number = λ held. folded_inside profile address fits }

  overlay_inside : is_16k profile ≡ false → Inside (overlay_ram address)
  overlay_inside large = record { number = λ held. simp large fits }

  none_held : (reached : Place) → is_memory reached ≡ false → Inside reached
  none_held reached none = record { number = λ held. absurd (true≢false (sym held ∙ none)) }

  via_inside : Inside (via address)
  via_inside = none_held (via address) refl

  controller_inside : Inside (controller address)
  controller_inside = none_held (controller address) refl

  unassigned_inside : Inside (unassigned address)
  unassigned_inside = none_held (unassigned address) refl

  basic_inside : Inside (basic_rom address)
  basic_inside = none_held (basic_rom address) refl

  eprom_inside : (start : ℕ) → Inside (boot_eprom start address)
  eprom_inside start = none_held (boot_eprom start address) refl

  -- each decode goes to such places alone, whatever its tests
  without_inside : Inside (without_controller profile address)
  without_inside = search (cond_all Inside, ram_inside, via_inside, basic_inside)

  microdisc_inside : (latch : ℕ) → is_16k profile ≡ false → Inside (with_microdisc profile latch address)
  microdisc_inside latch large =
      search (cond_all Inside, ram_inside, via_inside, controller_inside, unassigned_inside, basic_inside, overlay_inside, eprom_inside)

  jasmin_inside : (first second : ℕ) → is_16k profile ≡ false → Inside (with_jasmin profile first second address)
  jasmin_inside first second large =
      search (cond_all Inside, ram_inside, via_inside, controller_inside, basic_inside, overlay_inside, eprom_inside)

  place_inside : (latches : Latches) → (is_16k profile ≡ true → latches.kind ≡ 0) → Inside (place profile latches address)
  unfolding place
  place_inside latches small = go (is_16k profile) refl
    where
      go : (b : Bool) → is_16k profile ≡ b → Inside (place profile latches address)
      go true e = rw (small e) without_inside
      go false e = search (cond_all Inside, microdisc_inside, jasmin_inside, without_inside)

-- an access that is not refused
pub accepted_held : (memory : Image) (profile : ℕ) (latches : Latches) (address : ℕ) → address < 65536
    → access_refusal profile (length memory) latches.kind ≡ 0 → Held memory (place profile latches address)
accepted_held memory profile latches address fits done held =
    let size = memory_passed _ profile (length memory) (profile_passed _ profile done).rest in
    let kind = controller_passed _ profile latches.kind (kind_passed _ latches.kind size.rest).rest in
    omega (arith, size.holds, (place_inside profile address fits latches kind.holds).number held)
