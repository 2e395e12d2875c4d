-- Lists of numbers: those that pass a test, the least and the greatest, the sum.
-- Assumes nothing.
use Rattle.std.specs.Prelude.{ℕ, ◌+◌, min, max, Bool, cond}
use mathlib.Core.List.{List, [], ◌∷◌, flat_map, foldl}
use Rattle.machine.specs.Lists.{gather}

-- a number alone where it passes a test, else none
abbrev pub if_passed : (ℕ → Bool) → ℕ → List ℕ
if_passed test n = cond (test n) (n ∷ []) []

-- those of so many numbers in a row, from one on, that pass a test, in rising order
unfoldable pub passing_from : (ℕ → Bool) → ℕ → ℕ → List ℕ
passing_from test from count = gather (λ (k : ℕ). if_passed test (from + k)) count

-- those of a list that pass a test
abbrev pub passing : (ℕ → Bool) → List ℕ → List ℕ
passing test ns = flat_map (if_passed test) ns

-- the one that is left where one of two is picked over and over, 0 of an empty list
abbrev pub picked : (ℕ → ℕ → ℕ) → List ℕ → ℕ
picked pick [] = 0
picked pick (n ∷ ns) = foldl pick n ns

abbrev pub least : List ℕ → ℕ
least ns = picked min ns

abbrev pub greatest : List ℕ → ℕ
greatest ns = picked max ns

abbrev pub sum : List ℕ → ℕ
sum [] = 0
sum (n ∷ ns) = n + sum ns
