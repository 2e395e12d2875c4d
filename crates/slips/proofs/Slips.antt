-- The slips in a row from -12 on: each has a place of its own, and the next slip the next place.
-- Assumes nothing.
use Prim.Native.Nat.{ℕ, zero, suc, ◌+◌, ◌-◌, ◌≤◌, ◌<◌}
use mathlib.Core.Path.{◌≡◌, refl, ap, ◌∙◌}
use native.Mathlib.Omega.{arith}
use lib.Dec.{lt→ltb}
use lib.IntN.{ℤ, pos, negsuc, nat_abs, suc_ℤ, sub_ℕ, ◌+ℤ◌, +ℤ_one}
use lib.Signed.{◌<ℤ◌}
use Rattle.slips.specs.Slip.{farthest_slip, IsSlip}
use Rattle.slips.proofs.Integers.{difference}

abbrev pub first_slip : ℤ
first_slip = negsuc 11

-- 0 for -12 and 24 for 12
abbrev pub place : ℤ → ℕ
place (pos n) = farthest_slip + n
place (negsuc n) = farthest_slip - suc n

abbrev pub last_place : ℕ
last_place = 24

pub place_one : (a b : ℤ) → IsSlip a → IsSlip b → place a ≡ place b → a ≡ b
place_one (pos m) (pos n) one other e = ap pos (omega arith)
place_one (pos m) (negsuc n) one other e = absurd (omega arith)
place_one (negsuc m) (pos n) one other e = absurd (omega arith)
place_one (negsuc m) (negsuc n) one other e = ap negsuc (omega arith)

pub place_most : (slip : ℤ) → IsSlip slip → place slip ≤ last_place
place_most (pos n) is = omega arith
place_most (negsuc n) is = omega arith

next_place : (slip : ℤ) → IsSlip slip → place (suc_ℤ slip) ≡ place slip + 1
next_place (pos n) is = omega arith
next_place (negsuc zero) is = refl
next_place (negsuc (suc n)) is = omega arith

module _ (slip : ℤ) (is : IsSlip slip) where
  pub place_next : place (slip +ℤ pos 1) ≡ place slip + 1
  place_next = ap place (+ℤ_one slip) ∙ next_place slip is

-- the slip at a place
module _ (n : ℕ) where
  pub place_at : place (sub_ℕ n farthest_slip) ≡ n
  place_at = difference n farthest_slip (λ (z : ℤ). place z ≡ n) (λ h. omega arith) (λ h. omega arith)

  pub slip_at : n ≤ last_place → IsSlip (sub_ℕ n farthest_slip)
  slip_at most = difference n farthest_slip IsSlip (λ h. omega arith) (λ h. omega arith)

-- of two slips as far from zero the later one is positive
pub later_positive : (a b : ℤ) → place a < place b → nat_abs b ≡ nat_abs a → pos 0 <ℤ b
later_positive (pos m) (pos n) h e = absurd (omega arith)
later_positive (pos m) (negsuc n) h e = absurd (omega arith)
later_positive (negsuc m) (pos n) h e = record { lt = lt→ltb 0 n (omega arith) }
later_positive (negsuc m) (negsuc n) h e = absurd (omega arith)

pub positive_one : (a b : ℤ) → pos 0 <ℤ a → pos 0 <ℤ b → nat_abs a ≡ nat_abs b → a ≡ b
positive_one (pos m) (pos n) one other e = ap pos e
positive_one (pos m) (negsuc n) one other e = absurd other.lt
positive_one (negsuc m) b one other e = absurd one.lt
