-- One bit of a number, and the number that has given bits.
-- Assumes nothing.
use Rattle.std.specs.Prelude.{ℕ, zero, suc, ◌+◌, ◌*◌, ◌/◌, ◌%◌, Bool, cond, eqb}

-- the bit of the given weight is set: bit 128 is bit 7 of a byte
abbrev pub bit : ℕ → ℕ → Bool
bit weight n = eqb (n / weight % 2) 1

-- the number below 2 ^ n whose bit b, of weight 2 ^ b, is set where the test says so of b
unfoldable pub of_bits : (ℕ → Bool) → ℕ → ℕ
of_bits is_set zero = 0
of_bits is_set (suc n) = cond (is_set 0) 1 0 + 2 * of_bits (λ (b : ℕ). is_set (suc b)) n
