-- What the loop over a line's cells has done when it comes to a column, how one cell more adds to it, and what it comes to at the end.
-- Assumes nothing.
use Prim.Native.Nat.{ℕ, ◌+◌, ◌*◌, ◌≤◌, ◌<◌}
use mathlib.Core.Bool.{Bool, true, false, cond}
use mathlib.Core.List.{List, [], ◌∷◌, ◌++◌}
use mathlib.Core.Path.{◌≡◌, refl, sym, ap, ap₂, ◌∙◌}
use native.Mathlib.Omega.{arith}
use lib.ListN.{length, set, length-append}
use lib.Seq.{sets}
use Rattle.machine.specs.Sizes.{columns}
use Rattle.compare.specs.Internal.{has_place, cell_listed}
use Rattle.machine.specs.Numbers.{passing_from}
use Rattle.compare.proofs.Listed.{sets_more}
use Rattle.machine.proofs.Numbers.{from_none, from_next, from_most}

module _ (first second : List ℕ) (line before : ℕ) (held : List ℕ) where
  -- the differing cells before a column
  abbrev listed : ℕ → List ℕ
  listed column = passing_from (has_place first second) (columns * line) column

  pub record Reached (count : ℕ) (cells : List ℕ) (column : ℕ) : Type 0 where
    pub within : column ≤ columns
    pub counted : count ≡ before + length (listed column)
    pub filled : cells ≡ sets held before (listed column)

  pub none : Reached before held 0
  none =
      let empty = from_none (has_place first second) (columns * line) in
      record {
        within = omega arith;
        counted = omega (arith, ap length empty);
        filled = sym (ap (sets held before) empty);
      }

  module _ (count : ℕ) (cells : List ℕ) (column : ℕ) (here : Reached count cells column) where
    pub few : before ≤ columns * line → count ≤ columns * line + column
    few h = omega (arith, here.counted, from_most (has_place first second) (columns * line) column)

    -- a cell more, which the list and the count tell of where it differs
    next : column < columns → (answer : ℕ) (left added : List ℕ)
        → cell_listed first second (columns * line + column) ≡ added
        → answer ≡ count + length added
        → left ≡ sets cells count added
        → Reached answer left (column + 1)
    next more answer left added is a l =
        let grown = from_next (has_place first second) (columns * line) column ∙ ap (λ (cs : List ℕ). listed column ++ cs) is in
        record {
          within = omega arith;
          counted = omega (arith, a, here.counted, ap length grown, length-append (listed column) added);
          filled =
              l
              ∙ ap₂ (λ (m : List ℕ) (n : ℕ). sets m n added) here.filled here.counted
              ∙ sym (ap (sets held before) grown ∙ sets_more held before (listed column) added);
        }

    pub next_listed : column < columns → has_place first second (columns * line + column) ≡ true
        → Reached (count + 1) (set cells count (columns * line + column)) (column + 1)
    next_listed more differs =
        let cell = columns * line + column in
        next more (count + 1) (set cells count cell) (cell ∷ []) (ap (λ (t : Bool). cond t (cell ∷ []) []) differs) refl refl

    pub next_equal : column < columns → has_place first second (columns * line + column) ≡ false → Reached count cells (column + 1)
    next_equal more equal =
        let cell = columns * line + column in
        next more count cells [] (ap (λ (t : Bool). cond t (cell ∷ []) []) equal) (omega arith) refl
