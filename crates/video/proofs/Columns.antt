-- What a loop over a line has done when it comes to a column, how one cell more adds to it, and what it comes to at the end: with marks
-- and without.
-- Assumes nothing.
use Prim.Native.Nat.{ℕ, ◌+◌, ◌≤◌, ◌<◌}
use Rattle.std.specs.Prelude.{is_some}
use Rattle.std.specs.Int.{from_bool}
use mathlib.Core.Bool.{Bool, true, false, cond}
use mathlib.Core.List.{List, [], ◌∷◌, ◌++◌, map, map-append, flat_map}
use mathlib.Core.Path.{◌≡◌, refl, sym, ap, ap₂, ◌∙◌}
use native.Mathlib.Numerals.{add-one}
use native.Mathlib.Omega.{arith}
use lib.ListN.{length, take, set, length-set}
use lib.Seq.{take-suc-set, take_all}
use Rattle.machine.specs.Lists.{gather}
use Rattle.machine.specs.Sizes.{columns}
use Rattle.used_map.specs.Map.{marked}
use Rattle.used_map.proofs.Marks.{Bytes, marked_none, marks_join}
use Rattle.video.specs.Cell.{Cell, cell, character_addresses, used}
use Rattle.video.specs.Internal.{painted_cell, used_by, painted_line}
use Rattle.video.specs.Line.{registers_before, cell_at, first_cells, line_cells}
use Rattle.video.specs.Ram.{Ram}
use Rattle.video.specs.Registers.{line_reset}
use Rattle.video.proofs.Lines.{cells_next, cells_length, registers_next, line_uses_screen_bytes}
use Rattle.video.proofs.Readings.{one_counted, characters_one, characters_most, used_one, used_append}
use Rattle.video.specs.declared.cell.PaintedCell.{PaintedCell}
use Rattle.video.specs.declared.line.PaintedLine.{PaintedLine}
use Rattle.video.specs.declared.registers.Registers.{Registers}

abbrev colours : List Cell → List (List ℕ)
colours = map (λ (c : Cell). c.colours)

module _ (ram : Ram) (counter line mode : ℕ) where
  abbrev first : ℕ → List Cell
  first = first_cells ram counter line mode

  pub record Reached (cells : List (List ℕ)) (registers : Registers) (screen character column : ℕ) : Type 0 where
    pub size : length cells ≡ columns
    pub filled : take column cells ≡ colours (first column)
    pub path : registers ≡ registers_before ram line mode column
    pub screens : screen ≡ column
    pub characters : character ≡ length (character_addresses (first column))

  pub none : (cells : List (List ℕ)) (registers : Registers) → length cells ≡ columns → registers ≡ line_reset mode → Reached cells registers 0 0 0
  unfolding first_cells gather registers_before character_addresses flat_map
  none cells registers size reset = record { size = size; filled = refl; path = reset; screens = refl; characters = refl }

  -- where addresses are marked, those of the cells before a column are
  abbrev pub Marked : Bool → ℕ → List ℕ → List ℕ → Type 0
  Marked marking column before marks = marks ≡ cond marking (marked before (used (first column))) before

  pub none_marked : (marking : Bool) (marks : List ℕ) → Bytes marks → Marked marking 0 marks marks
  unfolding first_cells gather used flat_map
  none_marked true marks bytes = marked_none marks bytes
  none_marked false marks bytes = refl

  module _ (cells : List (List ℕ)) (registers : Registers) (screen character column : ℕ) (here : Reached cells registers screen character column) where
    module _ (answer : PaintedCell) (e : answer ≡ painted_cell (cell ram counter line column registers)) where
      abbrev x : Cell
      x = cell_at ram counter line mode column

      is : answer ≡ painted_cell x
      unfolding cell_at
      is = e ∙ ap (λ (r : Registers). painted_cell (cell ram counter line column r)) here.path

      pub next : column < columns
          → Reached (set cells column answer.colours) answer.registers (screen + 1) (character + from_bool (is_some answer.character)) (column + 1)
      next more =
          let grown = cells_next ram counter line mode column in
          record {
            size = simp length-set here.size;
            filled =
                rw (add-one column) (take-suc-set cells column answer.colours (omega arith))
                ∙ ap₂ (λ (l : List (List ℕ)) (a : PaintedCell). l ++ (a.colours ∷ [])) here.filled is
                ∙ simp (grown, map-append);
            path = ap (λ (a : PaintedCell). a.registers) is ∙ sym (registers_next ram counter line mode column);
            screens = ap (λ (n : ℕ). n + 1) here.screens;
            characters =
                ap₂ (λ (n : ℕ) (a : PaintedCell). n + from_bool (is_some a.character)) here.characters is
                ∙ ap (λ (n : ℕ). length (character_addresses (first column)) + n) (one_counted x.character)
                ∙ sym (ap (λ (l : List Cell). length (character_addresses l)) grown ∙ characters_one (first column) x);
          }

      -- the cell's addresses are marked after those of the cells before it
      pub next_marked : (marking : Bool) (before marks after : List ℕ) → Marked marking column before marks
          → after ≡ cond marking (marked marks (used_by answer)) marks → Marked marking (column + 1) before after
      next_marked true before marks after m a =
          a
          ∙ ap₂ (λ (l : List ℕ) (p : PaintedCell). marked l (used_by p)) m is
          ∙ marks_join before (used (first column)) (used_by (painted_cell x))
          ∙ ap (marked before)
          (ap (λ (l : List ℕ). used (first column) ++ l) (used_one x)
          ∙ sym (ap used (cells_next ram counter line mode column) ∙ used_append (first column) (x ∷ [])))
      next_marked false before marks after m a = a ∙ m

    -- no more character bytes are used than cells
    pub few : character ≤ column
    few = omega (arith, here.characters, characters_most (first column), cells_length ram counter line mode column)

    pub all : column ≡ columns
        → (◌≡◌ {A = PaintedLine} (record { registers = registers; screen = screen; character = character }) (painted_line ram counter line mode))
        × (cells ≡ colours (line_cells ram counter line mode))
    all end = (
      rw (here.path, here.screens, here.characters, end, line_uses_screen_bytes ram counter line mode) refl,
      sym (take_all column cells (omega arith)) ∙ here.filled ∙ ap (λ (n : ℕ). colours (first n)) end,
    )
