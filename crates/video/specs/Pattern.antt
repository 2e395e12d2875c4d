-- The six pixels of a pattern, and their complement.
-- Assumes nothing.
use Rattle.std.specs.Prelude.{ℕ, ◌-◌, cond, List, [], ◌∷◌, map}
use Rattle.machine.specs.Bits.{bit}

-- the weights of a pattern's six bits, the leftmost pixel first
abbrev pub pattern_weights : List ℕ
pattern_weights = 32 ∷ 16 ∷ 8 ∷ 4 ∷ 2 ∷ 1 ∷ []

-- a pattern's bit shows ink where it is 1, paper where it is 0
abbrev pub pattern_colour : ℕ → ℕ → ℕ → ℕ → ℕ
pattern_colour ink paper pattern weight = cond (bit weight pattern) ink paper

-- the six pixels of a pattern
abbrev pub pattern_colours : ℕ → ℕ → ℕ → List ℕ
pattern_colours ink paper pattern = map (pattern_colour ink paper pattern) pattern_weights

-- bit 7 of the screen byte turns each colour c into 7 - c
abbrev pub complemented : ℕ → ℕ → ℕ
complemented byte colour = cond (bit 128 byte) (7 - colour) colour
