-- What one line adds, and that what is added line by line is what is added at once.
-- Assumes nothing.
use Prim.Native.Nat.{ℕ, ◌+◌, ◌*◌, ◌≤◌, ◌<◌, min, max}
use mathlib.Core.Bool.{Bool, true, false}
use mathlib.Core.List.Memᴰ
use mathlib.Core.List.{List, [], ◌++◌, map, map-append, foldl, foldl-append, Memᴰ}
use mathlib.Core.Logic.{⊎_elim}
use mathlib.Core.Path.{◌≡◌, sym, ap, subst, ◌∙◌}
use native.Mathlib.Nat.{add_assoc}
use native.Mathlib.Omega.{arith}
use lib.Dec.{ltb}
use lib.ListN.{length, length-append, length-map}
use Rattle.std.proofs.Common.{Option, Some, None}
use Rattle.std.specs.Option.{unwrap_or}
use Rattle.std.proofs.lemmas.Bool.{both_ways}
use Rattle.machine.specs.Lists.{Each}
use Rattle.machine.specs.Sizes.{cell_length, columns, line_length}
use Rattle.machine.proofs.Each.{each_map}
use Rattle.compare.specs.Internal.{line_places, has_place, line_listed, found_with}
use Rattle.compare.specs.Places.{x_of, line_of, differs}
use Rattle.machine.proofs.Numbers.{either, from_each, from_member, from_nothing, from_nowhere}
use Rattle.compare.proofs.Picks.{Order, AtLeast, rising, falling, fold_is, fold_kept, fold_all}
use Rattle.compare.proofs.Searches.{First, Last}
use Rattle.compare.specs.declared.comparison.Found.{Found}

-- nothing more, and some more
pub found_none : (before : Found) → found_with before [] [] ≡ before
unfolding found_with
found_none before =
    let pixels : before.pixels + 0 ≡ before.pixels = omega arith in
    let cells : before.cells + 0 ≡ before.cells = omega arith in
    rw (pixels, cells)

pub found_more : (before : Found) (places places' cells cells' : List ℕ)
    → found_with (found_with before places cells) places' cells' ≡ found_with before (places ++ places') (cells ++ cells')
unfolding found_with
found_more before places places' cells cells' = simp (map-append, foldl-append, length-append, add_assoc)

module _ (first second : List ℕ) (line : ℕ) where
  abbrev places : List ℕ
  places = line_places first second line

  abbrev DiffersAt : ℕ → Type 0
  DiffersAt x = differs first second (line_length * line + x) ≡ true

  x_of_lem : (x : ℕ) → x < line_length → x_of (line_length * line + x) ≡ x
  x_of_lem x h = omega arith

  -- the differing x of a line
  pub each_x : (P : ℕ → Type 0) → ((x : ℕ) → x < line_length → DiffersAt x → P x) → Each P (map x_of places)
  each_x P p =
      each_map P x_of places
      (from_each (differs first second) (λ (place : ℕ). P (x_of place)) (line_length * line) line_length (λ x h e. subst P (sym (x_of_lem x h)) (p x h e)))

  -- one that stands before all others in an order decides
  pub side : {pick : ℕ → ℕ → ℕ} {Before : ℕ → ℕ → Type 0} (order : Order pick Before) (b x : ℕ) → x < line_length → DiffersAt x
      → ((i : ℕ) → i < line_length → DiffersAt i → Before x i) → foldl pick b (map x_of places) ≡ pick b x
  side {pick} {Before} order b x h here others =
      let member = Memᴰ.map x_of (from_member (differs first second) (line_length * line) line_length x h here) in
      fold_is order b x (map x_of places) (subst (λ (n : ℕ). Memᴰ n (map x_of places)) (x_of_lem x h) member) (each_x (Before x) others)

  -- no x on one side of another differs: those that do stand on its other side
  pub at_least : (x : ℕ) → ((i : ℕ) → i < x → differs first second (line_length * line + i) ≡ false) → (i : ℕ) → DiffersAt i → x ≤ i
  at_least x same i e =
      ⊎_elim (λ (le : x ≤ i). le) (λ (lt : i < x). absurd (both_ways (differs first second (line_length * line + i)) (same i lt) e)) (either x i)

  pub at_most : (x : ℕ) → ((i : ℕ) → x < i → i < line_length → differs first second (line_length * line + i) ≡ false)
      → (i : ℕ) → i < line_length → DiffersAt i → i ≤ x
  at_most x same i h e =
      ⊎_elim (λ (le : i ≤ x). le) (λ (lt : x < i). absurd (both_ways (differs first second (line_length * line + i)) (same i lt h) e)) (either i x)

  -- what a search of the line from either end comes to
  abbrev at_x : ℕ → Bool
  at_x x = differs first second (line_length * line + x)

  pub first_is : (left : ℕ) → left ≤ line_length → (found : Option ℕ) → First at_x (record { start = 0; end = left }) found
      → unwrap_or found left ≡ foldl min left (map x_of places)
  first_is left h None none =
      sym (fold_kept rising left (map x_of places) (each_x (λ (n : ℕ). left ≤ n) (λ i k. at_least left (λ j less. none j (omega arith) less) i)))
  first_is left h (Some x) found =
      let least : min left x ≡ x = omega (arith, found.1) in
      sym (side rising left x (omega (arith, found.1)) found.2 (λ i k. at_least x (λ j less. found.3 j (omega arith) less) i) ∙ least)

  pub last_is : (right : ℕ) → (found : Option ℕ) → Last at_x (record { start = right; end = line_length }) found
      → unwrap_or found right ≡ foldl max right (map x_of places)
  last_is right None none =
      sym (fold_kept falling right (map x_of places) (each_x (AtLeast right) (at_most right (λ j more. none j (omega arith)))))
  last_is right (Some x) found =
      let greatest : max right x ≡ x = omega (arith, found.0) in
      sym (side falling right x found.1 found.2 (at_most x found.3) ∙ greatest)

  -- a line none of whose pixels differs has no differing cell
  pub none_listed : places ≡ [] → line_listed first second line ≡ []
  none_listed none =
      from_nothing (has_place first second) (columns * line) columns
      (λ column inside.
      let from = cell_length * (columns * line + column) in
      let same : (i : ℕ) → i < cell_length → differs first second (from + i) ≡ false =
      λ i h.
      let place : line_length * line + (cell_length * column + i) ≡ from + i = omega arith in
      rw place at (from_nowhere (differs first second) (line_length * line) line_length none (cell_length * column + i) (omega arith)) in
      ap (λ (l : List ℕ). ltb 0 (length l)) (from_nothing (differs first second) from cell_length same))

  -- a line that differs has its own number
  line_of_lem : {pick : ℕ → ℕ → ℕ} {Before : ℕ → ℕ → Type 0} (order : Order pick Before) (b : ℕ) → 0 < length places
      → foldl pick b (map line_of places) ≡ pick b line
  line_of_lem order b some =
      fold_all order b line (map line_of places)
      (each_map (λ (n : ℕ). n ≡ line) line_of places
      (from_each (differs first second) (λ (place : ℕ). line_of place ≡ line) (line_length * line) line_length (λ k h e. omega arith)))
      (rw (length-map places line_of) some)

  pub line_adds : 0 < length places → (before : Found)
      → ◌≡◌ {A = Found}
      (record {
        left = foldl min before.left (map x_of places);
        right = foldl max before.right (map x_of places);
        top = min before.top line;
        bottom = max before.bottom line;
        pixels = before.pixels + length places;
        cells = before.cells + length (line_listed first second line);
      })
      (found_with before places (line_listed first second line))
  unfolding found_with
  line_adds some before = rw (line_of_lem rising before.top some, line_of_lem falling before.bottom some)
