-- What the functions of this crate promise to each other.
-- Assumes nothing.
use Rattle.std.specs.Prelude.{ℕ, ◌+◌, ◌*◌, ◌<◌, min, max, Bool, cond, eqb, ltb, length}
use mathlib.Core.List.{List, [], ◌∷◌, map, foldl}
use Rattle.machine.specs.Lists.{gather}
use Rattle.machine.specs.Sizes.{cell_length, columns, lines, line_length}
use Rattle.compare.specs.Answer.{listed}
use Rattle.machine.specs.Numbers.{if_passed, passing_from}
use Rattle.compare.specs.Places.{x_of, line_of, differs}
use Rattle.compare.specs.declared.comparison.Comparison.{Comparison}
use Rattle.compare.specs.declared.comparison.Found.{Found}
use Rattle.compare.specs.declared.pixels.Line.{Line}

module _ (first second : List ℕ) where
  -- the differing places of a line, and of a cell
  abbrev pub line_places : ℕ → List ℕ
  line_places line = passing_from (differs first second) (line_length * line) line_length

  abbrev pub cell_places : ℕ → List ℕ
  cell_places cell = passing_from (differs first second) (cell_length * cell) cell_length

  -- a cell has a differing place
  abbrev pub has_place : ℕ → Bool
  has_place cell = ltb 0 (length (cell_places cell))

  -- what a cell adds to the list of cells, and what a line does
  abbrev pub cell_listed : ℕ → List ℕ
  cell_listed cell = if_passed has_place cell

  abbrev pub line_listed : ℕ → List ℕ
  line_listed line = passing_from has_place (columns * line) columns

-- the differing places of a line of two frames, and its differing cells
abbrev pub places_of : Line → List ℕ
places_of line = line_places line.frames.first.now line.frames.second.now line.number

abbrev pub cells_of : Line → List ℕ
cells_of line = line_listed line.frames.first.now line.frames.second.now line.number

-- some places and cells more
unfoldable pub found_with : Found → List ℕ → List ℕ → Found
found_with before places cells = record {
  left = foldl min before.left (map x_of places);
  right = foldl max before.right (map x_of places);
  top = foldl min before.top (map line_of places);
  bottom = foldl max before.bottom (map line_of places);
  pixels = before.pixels + length places;
  cells = before.cells + length cells;
}

-- before the first line
abbrev pub nothing : Found
nothing = record { left = line_length; right = 0; top = lines; bottom = 0; pixels = 0; cells = 0 }

-- what the lines before one come to
module _ (first second : List ℕ) (line : ℕ) where
  unfoldable pub found_in : Found
  found_in =
      found_with nothing (passing_from (differs first second) 0 (line_length * line)) (passing_from (has_place first second) 0 (columns * line))

  unfoldable pub counts_in : List ℕ
  counts_in = gather (λ (l : ℕ). length (line_places first second l) ∷ []) line

  unfoldable pub listed_in : List ℕ
  listed_in = listed (passing_from (has_place first second) 0 (columns * line))

-- what was found fits the answer
pub record Small (found : Found) : Type 0 where
  pub left : found.left < 256
  pub right : found.right < 256
  pub top : found.top < 256
  pub bottom : found.bottom < 256
  pub pixels : found.pixels < 4294967296
  pub cells : found.cells < 4294967296

-- where no pixel differs the least x and the least line are 0
unfoldable pub reported : Found → Comparison
reported found =
    let empty = eqb found.pixels 0 in
    record {
      status = 0;
      empty = empty;
      first_x = cond empty 0 found.left;
      last_x = found.right;
      first_line = cond empty 0 found.top;
      last_line = found.bottom;
      pixels = found.pixels;
      cells = found.cells;
    }
