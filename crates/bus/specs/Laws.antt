-- What holds of every access, stated over the rules alone; the proofs are in proofs/.
-- Assumes nothing.
use Rattle.std.specs.Prelude.{ℕ, ◌≤◌, [], ◌≡◌, length}
use Rattle.machine.specs.Image.{Image, IsImage}
use Rattle.machine.specs.Sizes.{last_profile}
use Rattle.bus.specs.Accesses.{write_stores}
use Rattle.bus.specs.declared.latch.Latches.{Latches}

-- a write of another profile than the memory's stores nowhere
abbrev pub OtherProfileStoresNowhere : Type 0
OtherProfileStoresNowhere =
    (memory : Image) (profile other : ℕ) → profile ≤ last_profile → IsImage profile memory → (other ≡ profile → ⊥)
    → (latches : Latches) (address : ℕ) → write_stores (length memory) other latches address ≡ []
