-- What the four registers hold.
-- Assumes nothing.
use Rattle.std.specs.Prelude.{ℕ}

pub record RegisterValues : Type 0 where
  pub ink : ℕ
  pub style : ℕ
  pub paper : ℕ
  pub mode : ℕ
