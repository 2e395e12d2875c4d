-- A word of six pixels about a gap: ink where a bit is set and paper elsewhere, as one sum of two products.
-- Assumes nothing.
use Prim.Native.Nat.{◌^◌, ◌%◌, ℕ, ◌+◌, ◌-◌, ◌*◌, ◌/◌, ◌≤◌, ◌<◌}
use mathlib.Core.Bool.{Bool, true, false, cond}
use mathlib.Core.List.{List, [], ◌∷◌, ◌++◌, map}
use mathlib.Core.Option.{Option, none, some}
use mathlib.Core.Path.{◌≡◌, refl, sym, ap, ap₂, ◌∙◌}
use native.Mathlib.Nat.{add-mul, mul-add, mul_left_comm}
use native.Mathlib.Omega.{arith}
use lib.Bits.{bit_and, and_zero_r, and_block, and_mask}
use lib.Dec.{eqb, eqb→eq}
use lib.ListN.{length, take, drop}
use Rattle.machine.specs.Bits.{bit}
use Rattle.machine.specs.Lists.{Each}
use Rattle.machine.proofs.Below.{below}
use Rattle.machine.proofs.Choice.{cond_all}
use Rattle.machine.proofs.Each.{each_head, each_tail, each_map}
use Rattle.video.specs.Internal.{low_bytes, word_of, pixel_bytes, spread_word}
use Rattle.video.specs.Pattern.{pattern_weights, pattern_colours, complemented}
use Rattle.video.proofs.Choice.{complemented_most, pattern_map}

pub low_bytes_lem : (bs : List ℕ) → Each (λ (b : ℕ). b < 256) bs → low_bytes (length bs) (word_of bs) ≡ bs
low_bytes_lem [] small = refl
low_bytes_lem (b ∷ bs) small =
    let here : b < 256 = each_head (λ (b : ℕ). b < 256) b bs small in
    let rest : (b + 256 * word_of bs) / 256 ≡ word_of bs = omega arith in
    ap₂ ◌∷◌ (omega arith) (rw rest (low_bytes_lem bs (each_tail (λ (b : ℕ). b < 256) b bs small)))

-- a byte of a word, as the bit of its pixel or as the gap: what it holds where a pixel is 1 if set, 1 always, or one of two colours
abbrev pub one : Option Bool → ℕ
one none = 0
one (some b) = cond b 1 0

abbrev pub every : Option Bool → ℕ
every none = 0
every (some b) = 1

abbrev pub mix : ℕ → ℕ → Option Bool → ℕ
mix ink paper none = 0
mix ink paper (some b) = cond b ink paper

abbrev pub ones : List (Option Bool) → ℕ
ones bits = word_of (map one bits)

abbrev pub all : List (Option Bool) → ℕ
all bits = word_of (map every bits)

pub ones_most : (bits : List (Option Bool)) → ones bits ≤ all bits
ones_most [] = omega arith
ones_most (none ∷ bits) = omega (arith, ones_most bits)
ones_most (some true ∷ bits) = omega (arith, ones_most bits)
ones_most (some false ∷ bits) = omega (arith, ones_most bits)

-- a product with a byte and the bytes above it
times : (n b rest : ℕ) → n * (b + 256 * rest) ≡ n * b + 256 * (n * rest)
times n b rest = mul-add n b (256 * rest) ∙ ap (λ (m : ℕ). n * b + m) (mul_left_comm n 256 rest)

-- one byte more, which is ink where `set` is 1 and paper where `unset` is
more : (ink paper set unset : ℕ) (bits : List (Option Bool))
    → let less = all bits - ones bits in
    ink * (set + 256 * ones bits) + paper * (set + unset + 256 * all bits - (set + 256 * ones bits))
    ≡ ink * set + paper * unset + 256 * (ink * ones bits + paper * less)
more ink paper set unset bits =
    let less = all bits - ones bits in
    let rest : set + unset + 256 * all bits - (set + 256 * ones bits) ≡ unset + 256 * less = omega (arith, ones_most bits) in
    omega (arith, times ink set (ones bits), ap (λ (n : ℕ). paper * n) rest, times paper unset less)

pub mixed : (ink paper : ℕ) (bits : List (Option Bool))
    → ink * ones bits + paper * (all bits - ones bits) ≡ word_of (map (mix ink paper) bits)
mixed ink paper [] = omega arith
mixed ink paper (none ∷ bits) = omega (arith, more ink paper 0 0 bits, mixed ink paper bits)
mixed ink paper (some true ∷ bits) = omega (arith, more ink paper 1 0 bits, mixed ink paper bits)
mixed ink paper (some false ∷ bits) = omega (arith, more ink paper 0 1 bits, mixed ink paper bits)

-- the bits of a pattern, the leftmost pixel first, with the gap after the fourth
abbrev pub bits_of : ℕ → List (Option Bool)
bits_of pattern =
    let bits = map (λ (weight : ℕ). some (bit weight pattern)) pattern_weights in
    take 4 bits ++ (none ∷ drop 4 bits)

pub spread_most : (pattern : ℕ) → spread_word pattern ≤ 0x01010001010101
spread_most pattern = ones_most (bits_of pattern)

mix_small : (ink paper : ℕ) → ink ≤ 7 → paper ≤ 7 → (b : Option Bool) → mix ink paper b < 256
mix_small ink paper hi hp none = omega arith
mix_small ink paper hi hp (some b) = cond_all (λ (n : ℕ). n < 256) b ink paper (omega arith) (omega arith)

-- the six bytes of the sum are the six pixels
six_pixels : (ink paper pattern : ℕ) → ink ≤ 7 → paper ≤ 7
    → pixel_bytes (ink * spread_word pattern + paper * (0x01010001010101 - spread_word pattern)) ≡ pattern_colours ink paper pattern
six_pixels ink paper pattern hi hp =
    let bits = bits_of pattern in
    let small = each_map (λ (b : ℕ). b < 256) (mix ink paper) bits (λ b m. mix_small ink paper hi hp b) in
    ap pixel_bytes (mixed ink paper bits) ∙ ap (λ (bytes : List ℕ). take 4 bytes ++ drop 5 bytes) (low_bytes_lem (map (mix ink paper) bits) small)

-- complementing the whole word complements each of its two colours
complemented_word : (b : Bool) (ink paper n : ℕ) → ink ≤ 7 → paper ≤ 7 → n ≤ 0x01010001010101
    → let word : ℕ → ℕ → ℕ = λ (ink paper : ℕ). ink * n + paper * (0x01010001010101 - n) in
    cond b (0x07070007070707 - word ink paper) (word ink paper) ≡ word (cond b (7 - ink) ink) (cond b (7 - paper) paper)
complemented_word true ink paper n hi hp hn =
    let rest = 0x01010001010101 - n in
    let both-ink : ink + (7 - ink) ≡ 7 = omega arith in
    let both-paper : paper + (7 - paper) ≡ 7 = omega arith in
    omega (
      arith,
      sym (add-mul ink (7 - ink) n) ∙ ap (λ (m : ℕ). m * n) both-ink,
      sym (add-mul paper (7 - paper) rest) ∙ ap (λ (m : ℕ). m * rest) both-paper,
    )
complemented_word false ink paper n hi hp hn = refl

-- the six bytes of the word, complemented or not, are the six pixels
pub complemented_pixels : (byte ink paper pattern : ℕ) → ink ≤ 7 → paper ≤ 7
    → let word = ink * spread_word pattern + paper * (0x01010001010101 - spread_word pattern) in
    pixel_bytes (cond (bit 128 byte) (0x07070007070707 - word) word) ≡ map (complemented byte) (pattern_colours ink paper pattern)
complemented_pixels byte ink paper pattern hi hp =
    ap pixel_bytes (complemented_word (bit 128 byte) ink paper (spread_word pattern) hi hp (spread_most pattern))
    ∙ six_pixels (complemented byte ink) (complemented byte paper) pattern (complemented_most byte ink hi) (complemented_most byte paper hp)
    ∙ pattern_map (complemented byte) ink paper pattern pattern_weights

-- masking with a 1 in some bytes leaves the lowest bit of each of these
mask : List Bool → ℕ
mask bytes = word_of (map (λ (b : Bool). cond b 1 0) bytes)

kept : List Bool → ℕ → List ℕ
kept [] word = []
kept (b ∷ bytes) word = cond b (word % 256 % 2) 0 ∷ kept bytes (word / 256)

masked_byte : (b : Bool) (byte : ℕ) → bit_and byte (cond b 1 0) ≡ cond b (byte % 2) 0
masked_byte true byte = and_mask byte 1
masked_byte false byte = and_zero_r byte

odd_bytes : (bytes : List Bool) (word : ℕ) → bit_and word (mask bytes) ≡ word_of (kept bytes word)
unfolding mask kept
odd_bytes [] word = and_zero_r word
odd_bytes (b ∷ bytes) word =
    let rest = mask bytes in
    let small : cond b 1 0 < 256 = cond_all (λ (n : ℕ). n < 256) b 1 0 (omega arith) (omega arith) in
    let split : word ≡ word / 256 * 2 ^ 8 + word % 256 = omega arith in
    let mask-split : cond b 1 0 + 256 * rest ≡ rest * 2 ^ 8 + cond b 1 0 = omega arith in
    ap₂ bit_and split mask-split
    ∙ and_block 8 (word / 256) rest (word % 256) (cond b 1 0) (omega arith) small
    ∙ omega (arith, masked_byte b (word % 256), odd_bytes bytes (word / 256))

pixel_bytes_lem : List Bool
pixel_bytes_lem = true ∷ true ∷ true ∷ true ∷ false ∷ true ∷ true ∷ []

-- the copies of a pattern hold its bits where the mask leaves them: one test over all bytes
copies : ℕ → Bool
copies pattern = eqb (word_of (kept pixel_bytes_lem (pattern * 0x20100008040201 / 32))) (spread_word pattern)

pub spread_by_copies : (pattern : ℕ) → pattern < 256 → bit_and (pattern * 0x20100008040201 / 32) 0x01010001010101 ≡ spread_word pattern
unfolding copies mask kept pixel_bytes_lem
spread_by_copies pattern h =
    odd_bytes pixel_bytes_lem (pattern * 0x20100008040201 / 32) ∙ eqb→eq _ (spread_word pattern) (below copies 256 tt pattern h)

-- a pattern is the low six bits of its byte
same_bits : (byte : ℕ)
    → (byte % 64 / 32 % 2 ≡ byte / 32 % 2)
    × (byte % 64 / 16 % 2 ≡ byte / 16 % 2)
    × (byte % 64 / 8 % 2 ≡ byte / 8 % 2)
    × (byte % 64 / 4 % 2 ≡ byte / 4 % 2)
    × (byte % 64 / 2 % 2 ≡ byte / 2 % 2)
    × (byte % 64 / 1 % 2 ≡ byte / 1 % 2)
same_bits byte = (omega arith, omega arith, omega arith, omega arith, omega arith, omega arith)

pub low_six : (ink paper byte : ℕ) → pattern_colours ink paper (byte % 64) ≡ pattern_colours ink paper byte
low_six ink paper byte =
    let e = same_bits byte in
    rw (e.0, e.1, e.2, e.3, e.4, e.5) refl
