-- A rule for all numbers below a bound is one test that antt computes, and holds at each.
-- Assumes nothing.
use Prim.Native.Nat.{ℕ, zero, suc, ◌<◌}
use mathlib.Core.Bool.{Bool, true, false, ◌&&◌}
use mathlib.Core.Logic.{⊎_elim}
use mathlib.Core.Path.{sym, subst}
use native.Mathlib.Nat.{eq-or-lt_of_le, le_of_suc-le-suc}
use native.Mathlib.Omega.{arith}
use lib.Dec.{T}

-- every number below the bound passes the test
abbrev pub all_below : (ℕ → Bool) → ℕ → Bool
all_below test zero = true
all_below test (suc n) = test n && all_below test n

both : (a b : Bool) → T (a && b) → T a × T b
both true b t = (tt, t)
both false b t = absurd t

pub below : (test : ℕ → Bool) (n : ℕ) → T (all_below test n) → (k : ℕ) → k < n → T (test k)
below test zero t k h = absurd (omega arith)
below test (suc n) t k h =
    let here = both (test n) (all_below test n) t in
    ⊎_elim (λ e. subst (λ (m : ℕ). T (test m)) (sym e) here.0) (λ less. below test n here.1 k less) (eq-or-lt_of_le (le_of_suc-le-suc h))
