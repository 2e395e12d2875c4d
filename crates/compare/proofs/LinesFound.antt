-- What the loop over the lines has done when it comes to one, how one line more adds to it, and what it comes to at the end.
-- Assumes nothing.
use Prim.Native.Nat.{ℕ, ◌+◌, ◌*◌, ◌≤◌, ◌<◌}
use mathlib.Core.List.{List, [], ◌∷◌, ◌++◌, map}
use mathlib.Core.Path.{◌≡◌, refl, sym, ap, ap₂, ◌∙◌}
use native.Mathlib.Numerals.{add-one}
use native.Mathlib.Omega.{arith}
use lib.ListN.{length, take, set, length-set}
use lib.Seq.{sets, take-suc-set}
use Rattle.machine.specs.Lists.{gather}
use Rattle.machine.specs.Sizes.{columns, lines, line_length}
use Rattle.machine.proofs.Lists.{gather_next}
use Rattle.compare.specs.Answer.{listed}
use Rattle.compare.specs.Internal.{line_places, has_place, line_listed, found_with, nothing, found_in, counts_in, listed_in}
use Rattle.machine.specs.Numbers.{passing_from}
use Rattle.compare.specs.Places.{x_of, differs}
use Rattle.compare.proofs.Added.{found_none, found_more}
use Rattle.compare.proofs.Listed.{listed_more}
use Rattle.machine.proofs.Numbers.{from_none, start_piece, from_most}
use Rattle.compare.proofs.Picks.{rising, fold_first}
use Rattle.compare.specs.declared.comparison.Found.{Found}

module _ (first second : List ℕ) where
  -- the differing places and cells before a line
  abbrev places : ℕ → List ℕ
  places line = passing_from (differs first second) 0 (line_length * line)

  abbrev cells_of : ℕ → List ℕ
  cells_of line = passing_from (has_place first second) 0 (columns * line)

  pub record Reached (counts cells : List ℕ) (found : Found) (line : ℕ) : Type 0 where
    pub within : line ≤ lines
    pub counted : found ≡ found_in first second line
    pub lent : length counts ≡ lines
    pub filled : take line counts ≡ counts_in first second line
    pub list : cells ≡ listed_in first second line

  pub none : (counts cells : List ℕ) (found : Found) → length counts ≡ lines → cells ≡ listed_in first second 0 → found ≡ nothing → Reached counts cells found 0
  unfolding found_in counts_in gather
  none counts cells found lent list is = record {
    within = omega arith;
    counted = is ∙ sym (ap₂ (found_with nothing) (from_none (differs first second) 0) (from_none (has_place first second) 0) ∙ found_none nothing);
    lent = lent;
    filled = refl;
    list = list;
  }

  module _ (counts cells : List ℕ) (found : Found) (line : ℕ) (here : Reached counts cells found line) where
    listed_count : found.cells ≡ length (cells_of line)
    unfolding found_in found_with
    listed_count = ap (λ (f : Found). f.cells) here.counted ∙ omega arith

    pub few : (found.left ≤ line_length) × (found.pixels ≤ line_length * line) × (found.cells ≤ columns * line)
    unfolding found_in found_with
    few = (
      rw here.counted (fold_first rising line_length (map x_of (places line))),
      rw here.counted (omega (arith, from_most (differs first second) 0 (line_length * line))),
      omega (arith, listed_count, from_most (has_place first second) 0 (columns * line)),
    )

    pub next : line < lines → (pixels : ℕ) (answer : Found) (left : List ℕ)
        → pixels ≡ length (line_places first second line)
        → answer ≡ found_with found (line_places first second line) (line_listed first second line)
        → left ≡ sets cells found.cells (line_listed first second line)
        → Reached (set counts line pixels) left answer (line + 1)
    unfolding found_in counts_in listed_in
    next more pixels answer left p a l =
        let more-places = start_piece (differs first second) line_length line in
        let more-cells = start_piece (has_place first second) columns line in
        let added = line_listed first second line in
        record {
          within = omega arith;
          counted =
              a
              ∙ ap (λ (f : Found). found_with f (line_places first second line) added) here.counted
              ∙ found_more nothing (places line) (line_places first second line) (cells_of line) added
              ∙ sym (ap₂ (found_with nothing) more-places more-cells);
          lent = simp length-set here.lent;
          filled =
              rw (add-one line) (take-suc-set counts line pixels (omega (arith, here.lent)))
              ∙ ap₂ (λ (l : List ℕ) (n : ℕ). l ++ (n ∷ [])) here.filled p
              ∙ sym (gather_next (λ (l : ℕ). length (line_places first second l) ∷ []) line);
          list =
              l
              ∙ ap₂ (λ (m : List ℕ) (n : ℕ). sets m n added) here.list listed_count
              ∙ listed_more (cells_of line) added
              ∙ sym (ap listed more-cells);
        }
