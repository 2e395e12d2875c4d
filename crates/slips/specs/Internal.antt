-- What the functions of this crate promise to each other.
-- Assumes nothing.
use Rattle.std.specs.Prelude.{ℕ, Bool, cond, eqb, ltb, ℤ, nat_abs}

-- a slip with so many disagreements has fewer than another, or as many and is nearer zero
abbrev pub is_better : ℤ → ℕ → ℤ → ℕ → Bool
is_better slip count best fewest = cond (eqb count fewest) (ltb (nat_abs slip) (nat_abs best)) (ltb count fewest)
