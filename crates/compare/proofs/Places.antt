-- What a comparison of two bytes tells of a place.
-- Assumes nothing.
use Prim.Native.Nat.{ℕ}
use mathlib.Core.Bool.{false, not}
use mathlib.Core.List.{List}
use mathlib.Core.Path.{◌≡◌, ap}
use lib.ListN.{get_or}
use borrow.Author.Tests.{eq-eqb}
use Rattle.compare.specs.Places.{differs}

module _ (first second : List ℕ) (place : ℕ) where
  pub equal : get_or first place 0 ≡ get_or second place 0 → differs first second place ≡ false
  equal e = ap not (eq-eqb (get_or first place 0) (get_or second place 0) e)
