-- Laws of folded addresses: none is larger than before, and each is inside the image.
-- Two profiles whose images have one length are one profile.
-- Assumes nothing.
use Prim.Native.Nat.{ℕ, ◌%◌, ◌<◌, ◌≤◌}
use mathlib.Core.Bool.{Bool, true, false}
use mathlib.Core.Path.{◌≡◌, refl, sym, ◌∙◌}
use native.Mathlib.Omega.{arith}
use borrow.Author.Tests.{eqb-true, eqb-false}
use Rattle.machine.specs.Image.{is_16k, block_length, image_length, folded}
use Rattle.machine.specs.Sizes.{last_profile}
use Rattle.machine.proofs.Choice.{cond_most, cond_both}

module _ (profile : ℕ) where
  pub folded_most : (address : ℕ) → folded profile address ≤ address
  folded_most address = cond_most (is_16k profile) (address % block_length) address (omega arith) (omega arith)

  -- an address of 16 bits reaches a byte of the image
  pub folded_inside : (address : ℕ) → address < 65536 → folded profile address < image_length profile
  folded_inside address fits =
      cond_both (λ (n size : ℕ). n < size) (is_16k profile) (address % block_length) address block_length 65536 (omega arith) fits

pub one_length : (first second : ℕ) → first ≤ last_profile → second ≤ last_profile → image_length first ≡ image_length second → first ≡ second
one_length first second f s same = go (is_16k first) (is_16k second) refl refl
  where
    go : (small too : Bool) → is_16k first ≡ small → is_16k second ≡ too → first ≡ second
    go true true e e' = eqb-true first 1 e ∙ sym (eqb-true second 1 e')
    go true false e e' = absurd (omega (arith, simp (e, e') at same))
    go false true e e' = absurd (omega (arith, simp (e, e') at same))
    go false false e e' = omega (arith, eqb-false first 1 e, eqb-false second 1 e')
