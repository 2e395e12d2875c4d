-- What was found line by line and cell by cell is what the definitions say of all the places at once.
-- Assumes nothing.
use Prim.Native.Nat.{ℕ, ◌+◌, ◌*◌, ◌≤◌, ◌<◌, min, max}
use mathlib.Core.Bool.{cond}
use mathlib.Core.List.{List, [], ◌∷◌, map, foldl}
use mathlib.Core.Path.{◌≡◌, refl, sym, ap, ◌∙◌}
use native.Mathlib.Omega.{arith}
use lib.Dec.{eqb, ltb, eqb-suc-zero}
use lib.ListN.{length, length-map, replicate}
use Rattle.machine.specs.Lists.{Each}
use Rattle.machine.specs.Sizes.{cell_length, columns, lines, line_length, frame_length}
use Rattle.machine.proofs.Each.{each_map, each_head}
use Rattle.machine.proofs.Lists.{gather_same}
use Rattle.compare.specs.Answer.{list_length, no_cell, report, line_counts, listed}
use Rattle.compare.specs.Internal.{line_places, cell_places, has_place, found_with, found_in, counts_in, listed_in, Small, reported}
use Rattle.machine.specs.Numbers.{passing, passing_from, least, greatest}
use Rattle.compare.specs.Places.{x_of, line_of, cell_of, differs, differences, on_line, in_cell, cell_differs, differing_cells}
use Rattle.machine.proofs.Numbers.{one_piece, start_pieces, from_none, from_each, from_most, from_same}
use Rattle.compare.proofs.Picks.{AtLeast, rising, falling, fold_first, fold_bound, fold_picked}

-- the start of a search for the least does not matter where there is one, and where there is none 0 stands for it
least_found : (b : ℕ) (ns : List ℕ) → Each (λ (n : ℕ). n ≤ b) ns → cond (eqb (length ns) 0) 0 (foldl min b ns) ≡ least ns
least_found b [] p = refl
least_found b (n ∷ ns) p = rw (eqb-suc-zero (length ns)) (fold_picked rising b n ns (each_head (λ (m : ℕ). m ≤ b) n ns p))

greatest_found : (ns : List ℕ) → foldl max 0 ns ≡ greatest ns
greatest_found [] = refl
greatest_found (n ∷ ns) = fold_picked falling 0 n ns (omega arith)

module _ (first second : List ℕ) where
  abbrev places : List ℕ
  places = differences first second

  -- of places that are numbered piece by piece, those with one number are the differing ones of one piece
  one_number : (number : ℕ → ℕ) (size count : ℕ) → size * count ≡ frame_length
      → ((i k : ℕ) → k < size → number (size * i + k) ≡ i)
      → (n : ℕ) → n < count → passing (λ (place : ℕ). eqb (number place) n) places ≡ passing_from (differs first second) (size * n) size
  one_number number size count whole numbered n h =
      ap (λ (m : ℕ). passing (λ (place : ℕ). eqb (number place) n) (passing_from (differs first second) 0 m)) (sym whole)
      ∙ ap (passing (λ (place : ℕ). eqb (number place) n)) (start_pieces (differs first second) size count)
      ∙ one_piece number (λ (k : ℕ). passing_from (differs first second) (size * k) size) count
      (λ i less. from_each (differs first second) (λ (place : ℕ). number place ≡ i) (size * i) size (λ k h' e. numbered i k h')) n h

  in_cell_lem : (cell : ℕ) → cell < columns * lines → in_cell places cell ≡ cell_places first second cell
  in_cell_lem = one_number cell_of cell_length (columns * lines) refl (λ i k h. omega arith)

  on_line_lem : (line : ℕ) → line < lines → on_line places line ≡ line_places first second line
  on_line_lem = one_number line_of line_length lines refl (λ i k h. omega arith)

  cells_are : passing_from (has_place first second) 0 (columns * lines) ≡ differing_cells places
  cells_are =
      from_same (has_place first second) (cell_differs places) 0 (columns * lines)
      (λ k h. sym (ap (λ (l : List ℕ). ltb 0 (length l)) (in_cell_lem (0 + k) (omega arith))))

  pub counts_are : counts_in first second lines ≡ line_counts places
  unfolding counts_in line_counts
  counts_are =
      gather_same (λ (line : ℕ). length (line_places first second line) ∷ []) (λ (line : ℕ). length (on_line places line) ∷ []) lines
      (λ line h. ap (λ (l : List ℕ). length l ∷ []) (sym (on_line_lem line h)))

  -- a list that is clear has no cell yet
  pub clear_is : replicate list_length no_cell ≡ listed_in first second 0
  unfolding listed_in listed
  clear_is = sym (ap listed (from_none (has_place first second) 0))

  pub listed_are : listed_in first second lines ≡ listed (differing_cells places)
  unfolding listed_in
  listed_are = ap listed cells_are

  -- the x and the line of each place
  each_number : (number : ℕ → ℕ) (bound : ℕ) → ((place : ℕ) → place < frame_length → number place < bound)
      → (P : ℕ → Type 0) → ((n : ℕ) → n < bound → P n) → Each P (map number places)
  each_number number bound bounded P p =
      each_map P number places
      (from_each (differs first second) (λ (place : ℕ). P (number place)) 0 frame_length (λ k h e. p (number (0 + k)) (bounded (0 + k) (omega arith))))

  each_x : (P : ℕ → Type 0) → ((x : ℕ) → x < line_length → P x) → Each P (map x_of places)
  each_x = each_number x_of line_length (λ place h. omega arith)

  each_line : (P : ℕ → Type 0) → ((line : ℕ) → line < lines → P line) → Each P (map line_of places)
  each_line = each_number line_of lines (λ place h. omega arith)

  pub small : Small (found_in first second lines)
  unfolding found_in found_with
  small = record {
    left = omega (arith, fold_first rising line_length (map x_of places));
    right = omega (arith, fold_bound falling line_length 0 (map x_of places) (omega arith) (each_x (AtLeast line_length) (λ x h. omega arith)));
    top = omega (arith, fold_first rising lines (map line_of places));
    bottom = omega (arith, fold_bound falling lines 0 (map line_of places) (omega arith) (each_line (AtLeast lines) (λ x h. omega arith)));
    pixels = omega (arith, from_most (differs first second) 0 frame_length);
    cells = omega (arith, from_most (has_place first second) 0 (columns * lines));
  }

  pub report_is : reported (found_in first second lines) ≡ report places
  unfolding reported report found_in found_with
  report_is =
      let pixels : 0 + length places ≡ length places = omega arith in
      let count : 0 + length (passing_from (has_place first second) 0 (columns * lines)) ≡ length (differing_cells places) =
      omega (arith, ap length cells_are) in
      let left = rw (length-map places x_of) at (least_found line_length (map x_of places) (each_x (λ (x : ℕ). x ≤ line_length) (λ x h. omega arith))) in
      let top = rw (length-map places line_of) at (least_found lines (map line_of places) (each_line (λ (line : ℕ). line ≤ lines) (λ line h. omega arith))) in
      rw (pixels, left, greatest_found (map x_of places), top, greatest_found (map line_of places), count)
