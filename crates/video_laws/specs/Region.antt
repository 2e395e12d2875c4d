-- The regions that document 01's table gives for a line and the mode in force.
-- Assumes nothing.
use Rattle.std.specs.Prelude.{ℕ, ◌≤◌, ◌/◌, cond, ◌≡◌, ltb}
use Rattle.std.proofs.Math.Option.{Option, none, some}
use Rattle.machine.specs.Image.{block_length, folded}
use Rattle.card.specs.Card.{bitmap_lines}
use Rattle.video.specs.Address.{is_hires}

-- the addresses from the first to the last, both included
pub record Region : Type 0 where
  pub first : ℕ
  pub last : ℕ

-- an address lies in a region, if there is one
abbrev pub In : Option Region → ℕ → Type 0
In none address = ⊥
In (some region) address = (region.first ≤ address) × (address ≤ region.last)

-- a region lies in one block of 16K, if there is one
abbrev pub InOneBlock : Option Region → Type 0
InOneBlock none = Unit {0}
InOneBlock (some region) = region.first / block_length ≡ region.last / block_length

-- a region of the table for a profile: its first and last folded
abbrev pub folded_region : ℕ → Option Region → Option Region
folded_region profile none = none
folded_region profile (some region) = some (record { first = folded profile region.first; last = folded profile region.last })

-- (document 01: region of screen bytes)
abbrev pub screen_region : ℕ → ℕ → Option Region
screen_region line mode =
    some
    (cond (ltb line bitmap_lines) (cond (is_hires mode) (record { first = 0xA000; last = 0xBF3F }) (record { first = 0xBB80; last = 0xBF67 }))
    (record { first = 0xBF68; last = 0xBFDF }))

-- (document 01: region of definitions)
abbrev pub definition_region : ℕ → ℕ → Option Region
definition_region line mode =
    cond (ltb line bitmap_lines) (cond (is_hires mode) none (some (record { first = 0xB400; last = 0xBBFF })))
    (some (cond (is_hires mode) (record { first = 0x9800; last = 0x9FFF }) (record { first = 0xB400; last = 0xBBFF })))
