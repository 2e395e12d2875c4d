-- Laws of a choice between two values, and of tests that say the same.
-- Assumes nothing.
use Prim.Native.Nat.{ℕ, ◌≤◌}
use mathlib.Core.Bool.{Bool, true, false, cond}
use mathlib.Core.Path.{◌≡◌, refl}
use lib.Dec.{eqb}
use borrow.Author.Tests.{eqb-true, eqb-false, eq-eqb, ne_eqb}

-- what holds of both values holds of the chosen one, in whichever case: the library's `cond_both` hands on the case
pub cond_all : {A : Type 0} (P : A → Type 0) (b : Bool) (x y : A) → P x → P y → P (cond b x y)
cond_all P true x y px py = px
cond_all P false x y px py = py

pub cond_most : (b : Bool) (x y : ℕ) {most : ℕ} → x ≤ most → y ≤ most → cond b x y ≤ most
cond_most b x y {most} = cond_all (λ (n : ℕ). n ≤ most) b x y

-- of two choices by one test, what holds in each case
pub cond_both : {A B : Type 0} (R : A → B → Type 0) (b : Bool) (x y : A) (z w : B) → R x z → R y w → R (cond b x y) (cond b z w)
cond_both R true x y z w xz yw = xz
cond_both R false x y z w xz yw = yw

-- two numbers are equal where two others are
pub eqb_same : (a b c d : ℕ) → (a ≡ b → c ≡ d) → (c ≡ d → a ≡ b) → eqb a b ≡ eqb c d
eqb_same a b c d to from = go (eqb c d) refl
  where
    go : (test : Bool) → eqb c d ≡ test → eqb a b ≡ test
    go true e = eq-eqb a b (from (eqb-true c d e))
    go false e = ne_eqb a b (λ same. eqb-false c d e (to same))
