-- The map of used addresses: a bit for each address (document 02).
-- Assumes nothing.
use Rattle.std.specs.Prelude.{ℕ, ◌+◌, ◌*◌, ◌/◌, ◌%◌, ◌^◌, Bool, ◌||◌, List, [], ◌∷◌, get_or, length}
use Rattle.machine.specs.Bits.{bit, of_bits}
use Rattle.machine.specs.Lists.{gather, is_in}

-- a byte has eight bits
abbrev pub byte_bits : ℕ
byte_bits = 8

-- 8,192 bytes in both profiles: 65,536 bits
abbrev pub map_length : ℕ
map_length = 8192

-- the bit of an address is set: bit 0 of byte 0 is address 0
abbrev pub is_marked : List ℕ → ℕ → Bool
is_marked map address = bit (2 ^ (address % byte_bits)) (get_or map (address / byte_bits) 0)

-- byte k after a marking: bit b is set where it was set before or address 8 k + b is one of those marked
abbrev pub marked_byte : List ℕ → ℕ → ℕ → ℕ
marked_byte addresses k byte = of_bits (λ (b : ℕ). bit (2 ^ b) byte || is_in (byte_bits * k + b) addresses) byte_bits

-- a map after a marking
unfoldable pub marked : List ℕ → List ℕ → List ℕ
marked map addresses = gather (λ (k : ℕ). marked_byte addresses k (get_or map k 0) ∷ []) (length map)
