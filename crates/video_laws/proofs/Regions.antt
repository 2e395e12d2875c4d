-- Every address that a cell uses lies in its region: by the cases of the table, lines 0 to 199 or below them, text or hires, and then
-- folded, since no region crosses a border of 16K.
-- Assumes nothing.
use Prim.Native.Nat.{ℕ, ◌+◌, ◌*◌, ◌/◌, ◌<◌}
use mathlib.Core.Bool.{Bool, true, false, true≢false}
use mathlib.Core.Option.{none, some}
use mathlib.Core.Path.{◌≡◌, refl}
use native.Mathlib.Omega.{arith}
use lib.Dec.{ltb}
use borrow.Author.Tests.{ltb-true, ltb-false}
use Rattle.machine.specs.Image.{is_16k, block_length, folded}
use Rattle.machine.specs.Sizes.{columns, lines}
use Rattle.machine.proofs.Folding.{folded_most}
use Rattle.card.specs.Card.{bitmap_lines}
use Rattle.video.specs.Address.{is_hires, is_bitmap, screen_address, character_address}
use Rattle.video.proofs.Addresses.{characters_in_block, row_most, offset_most}
use Rattle.video_laws.specs.Laws.{RegionsInOneBlock, RegionsFold}
use Rattle.video_laws.specs.Region.{In, InOneBlock, folded_region, screen_region, definition_region}

pub regions_in_one_block : RegionsInOneBlock
regions_in_one_block line mode = go (ltb line bitmap_lines) (is_hires mode) refl refl
  where
    go : (upper hires : Bool) → ltb line bitmap_lines ≡ upper → is_hires mode ≡ hires
        → InOneBlock (screen_region line mode) × InOneBlock (definition_region line mode)
    go true true u h = simp (u, h) (refl, tt)
    go true false u h = simp (u, h) (refl, refl)
    go false true u h = simp (u, h) (refl, refl)
    go false false u h = simp (u, h) (refl, refl)

pub regions_fold : RegionsFold
regions_fold profile none block = (λ address h. absurd h, λ address h. absurd h)
regions_fold profile (some region) block = go (is_16k profile) refl
  where
    go : (small : Bool) → is_16k profile ≡ small
        → ((address : ℕ) → In (some region) address → In (folded_region profile (some region)) (folded profile address))
        × ((address : ℕ) → In (folded_region profile (some region)) address → (origin : ℕ) × In (some region) origin × (folded profile origin ≡ address))
    go true e =
        simp e
        (λ address h. omega arith, λ address h. (region.first / block_length * block_length + address, omega arith, omega arith))
    go false e = simp e (λ address h. h, λ address h. (address, h, refl))

-- the screen byte of a cell
module _ (profile line column mode : ℕ) (hl : line < lines) (hc : column < columns) where
  screen_case : (upper hires : Bool) → ltb line bitmap_lines ≡ upper → is_hires mode ≡ hires
      → In (screen_region line mode) (screen_address 0 line column mode)
  screen_case true true u h = simp (u, h) (omega (arith, ltb-true line bitmap_lines u))
  screen_case true false u h = simp (u, h) (omega (arith, ltb-true line bitmap_lines u))
  screen_case false true u h = simp (u, h) (omega (arith, ltb-false line bitmap_lines u))
  screen_case false false u h = simp (u, h) (omega (arith, ltb-false line bitmap_lines u))

  pub screen_in_region : In (folded_region profile (screen_region line mode)) (screen_address profile line column mode)
  screen_in_region =
      (regions_fold profile (screen_region line mode) (regions_in_one_block line mode).0).0 (screen_address 0 line column mode)
      (screen_case (ltb line bitmap_lines) (is_hires mode) refl refl)

-- the character byte of a picture that shows no bitmap
module _ (profile line mode style code : ℕ) (hc : code < 128) where
  pub characters_below : character_address profile line mode style code < 0xC000
  characters_below = omega (arith, folded_most profile (character_address 0 line mode style code), characters_in_block profile line mode style code hc)

  definition_case : (upper hires : Bool) → ltb line bitmap_lines ≡ upper → is_hires mode ≡ hires → is_bitmap line mode ≡ false
      → In (definition_region line mode) (character_address 0 line mode style code)
  definition_case true true u h picture = absurd (true≢false (simp (u, h) at picture))
  definition_case true false u h picture = simp (u, h) (omega (arith, row_most line style, offset_most style))
  definition_case false true u h picture = simp (u, h) (omega (arith, row_most line style, offset_most style))
  definition_case false false u h picture = simp (u, h) (omega (arith, row_most line style, offset_most style))

  pub definition_in_region : is_bitmap line mode ≡ false
      → In (folded_region profile (definition_region line mode)) (character_address profile line mode style code)
  definition_in_region picture =
      (regions_fold profile (definition_region line mode) (regions_in_one_block line mode).1).0 (character_address 0 line mode style code)
      (definition_case (ltb line bitmap_lines) (is_hires mode) refl refl picture)
