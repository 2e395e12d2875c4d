-- The number of given bits has those bits and no others; a byte is the number of its bits, and a bit that is set in it is added.
-- Assumes nothing.
use Prim.Native.Nat.{ℕ, zero, suc, ◌+◌, ◌*◌, ◌/◌, ◌%◌, ◌^◌, ◌<◌}
use mathlib.Core.Bool.{Bool, true, false, cond, ◌||◌}
use mathlib.Core.Path.{◌≡◌, refl, ap, ap₂, ◌∙◌}
use native.Mathlib.Nat.{pow-suc, mul_comm}
use native.Mathlib.Numerals.{one-add}
use native.Mathlib.Omega.{arith}
use lib.Dec.{eqb, eqb→eq}
use lib.Pow.{shr-shr}
use borrow.Author.Tests.{eq-eqb, ne_eqb}
use Rattle.machine.specs.Bits.{bit, of_bits}
use Rattle.machine.proofs.Below.{all_below, below}
use Rattle.machine.proofs.Choice.{cond_most}

-- the same bits
pub bits_same : (f g : ℕ → Bool) (n : ℕ) → ((b : ℕ) → b < n → f b ≡ g b) → of_bits f n ≡ of_bits g n
unfolding of_bits
bits_same f g zero same = refl
bits_same f g (suc n) same =
    ap₂ (λ (first : Bool) (rest : ℕ). cond first 1 0 + 2 * rest) (same 0 (omega arith))
    (bits_same (λ (b : ℕ). f (suc b)) (λ (b : ℕ). g (suc b)) n (λ b h. same (suc b) (omega arith)))

-- the lowest bit, and those above it
low : (first : Bool) (rest : ℕ) → bit 1 (cond first 1 0 + 2 * rest) ≡ first
low true rest = eq-eqb ((1 + 2 * rest) / 1 % 2) 1 (omega arith)
low false rest = ne_eqb ((0 + 2 * rest) / 1 % 2) 1 (omega arith)

high : (first : Bool) (rest : ℕ) → (cond first 1 0 + 2 * rest) / 2 ≡ rest
high true rest = omega arith
high false rest = omega arith

pub bit_of_bits : (is_set : ℕ → Bool) (n b : ℕ) → b < n → bit (2 ^ b) (of_bits is_set n) ≡ is_set b
unfolding of_bits
bit_of_bits is_set zero b h = absurd (omega arith)
bit_of_bits is_set (suc n) zero h = low (is_set 0) _
bit_of_bits is_set (suc n) (suc b) h =
    let rest = of_bits (λ (b : ℕ). is_set (suc b)) n in
    let whole = cond (is_set 0) 1 0 + 2 * rest in
    let above : whole / 2 ^ suc b ≡ rest / 2 ^ b =
    rw (← one-add b, ← shr-shr whole 1 b) (ap (λ (m : ℕ). m / 2 ^ b) (high (is_set 0) rest)) in
    ap (λ (m : ℕ). eqb (m % 2) 1) above ∙ bit_of_bits (λ (b : ℕ). is_set (suc b)) n b (omega arith)

pub bits_below : (is_set : ℕ → Bool) (n : ℕ) → of_bits is_set n < 2 ^ n
unfolding of_bits
bits_below is_set zero = omega arith
bits_below is_set (suc n) =
    let rest = of_bits (λ (b : ℕ). is_set (suc b)) n in
    let half : 2 ^ suc n ≡ 2 * 2 ^ n = pow-suc 2 n ∙ mul_comm (2 ^ n) 2 in
    rw half (omega (arith, cond_most (is_set 0) 1 0 {most = 1} (omega arith) (omega arith), bits_below (λ (b : ℕ). is_set (suc b)) n))

-- a byte is the number of its eight bits
abbrev is_its_bits : ℕ → Bool
is_its_bits byte = eqb (of_bits (λ (b : ℕ). bit (2 ^ b) byte) 8) byte

pub byte_of_bits : (byte : ℕ) → byte < 256 → of_bits (λ (b : ℕ). bit (2 ^ b) byte) 8 ≡ byte
unfolding of_bits
byte_of_bits byte h = eqb→eq _ byte (below is_its_bits 256 tt byte h)

-- with one bit set it is the same byte where that was set before, else more by the bit's weight
abbrev is_more_by_weight : ℕ → ℕ → Bool
is_more_by_weight byte number =
    eqb (of_bits (λ (b : ℕ). bit (2 ^ b) byte || eqb b number) 8) (cond (bit (2 ^ number) byte) byte (byte + 2 ^ number))

pub byte_with_bit : (byte number : ℕ) → byte < 256 → number < 8
    → of_bits (λ (b : ℕ). bit (2 ^ b) byte || eqb b number) 8 ≡ cond (bit (2 ^ number) byte) byte (byte + 2 ^ number)
unfolding of_bits
byte_with_bit byte number h n =
    eqb→eq _ _ (below (is_more_by_weight byte) 8 (below (λ (byte : ℕ). all_below (is_more_by_weight byte) 8) 256 tt byte h) number n)
