-- What holds of every map; the proofs are in proofs/.
-- Assumes nothing.
use Rattle.std.specs.Prelude.{ℕ, ◌*◌, ◌<◌, ◌||◌, List, ◌++◌, ◌≡◌, length}
use Rattle.machine.specs.Lists.{is_in}
use Rattle.used_map.specs.Map.{byte_bits, is_marked, marked}

-- after a marking the bit of an address is set exactly where it was set before or the address is one of those marked
abbrev pub MarkedExactly : Type 0
MarkedExactly =
    (map addresses : List ℕ) (address : ℕ) → address < byte_bits * length map
    → is_marked (marked map addresses) address ≡ (is_marked map address || is_in address addresses)

-- one marking after another is a marking of all their addresses
abbrev pub MarksJoin : Type 0
MarksJoin = (map first second : List ℕ) → marked (marked map first) second ≡ marked map (first ++ second)
