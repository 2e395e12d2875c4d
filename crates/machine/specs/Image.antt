-- The memory image: what it is, how long it is, which of its bytes an address reaches, and the byte at an address.
-- Assumes nothing.
use Rattle.std.specs.Prelude.{ℕ, ◌%◌, Bool, cond, List, ◌≡◌, eqb, get_or, length, set}

-- the RAM alone, a byte for each folded address (document 01: memory image)
abbrev pub Image : Type 0
Image = List ℕ

-- profile 1 is the 16K machine
abbrev pub is_16k : ℕ → Bool
is_16k profile = eqb profile 1

-- all the RAM of profile 1 is one block, which stands again in each block of its addresses
abbrev pub block_length : ℕ
block_length = 16384

-- how many bytes of RAM a profile has
abbrev pub image_length : ℕ → ℕ
image_length profile = cond (is_16k profile) block_length 65536

-- the address of the RAM byte that an address reaches: in profile 1 every RAM address is taken mod 16,384
abbrev pub folded : ℕ → ℕ → ℕ
folded profile address = cond (is_16k profile) (address % block_length) address

-- the image has the length of its profile
abbrev pub IsImage : ℕ → Image → Type 0
IsImage profile image = length image ≡ image_length profile

-- the byte at a folded address
abbrev pub byte_at : Image → ℕ → ℕ
byte_at image address = get_or image address 0

-- the image with another byte at a folded address
abbrev pub with_byte : Image → ℕ → ℕ → Image
with_byte image address byte = set image address byte
