-- A line without a difference adds nothing, and any other its cells and its number.
-- Assumes nothing.
use Rattle.std.proofs.Common.{ℕ, ◌≡◌, ◌<◌, [], length, sym, ap, ap₂, ◌∙◌, arith}
use Rattle.std.proofs.lemmas.List.{nil_from_length}
use Rattle.std.proofs.lemmas.List.Edits.{sets}
use Rattle.compare.specs.Internal.{places_of, cells_of, found_with}
use Rattle.compare.proofs.Added.{found_none, none_listed, line_adds}
use Rattle.compare.specs.declared.pixels.Line.{Line}
use Rattle.compare.proofs.comparison.Found.with_line.Goals as goal

module _ (line : Line) (pixels : ℕ) (counted : pixels ≡ length (places_of line)) (zero : pixels ≡ 0) where
  no_places : places_of line ≡ []
  no_places = nil_from_length (places_of line) (sym counted ∙ zero)

  no_cells : cells_of line ≡ []
  no_cells = none_listed line.frames.first.now line.frames.second.now line.number no_places

pub returns-then-pixels-eq0-clause-value : goal.returns-then-pixels-eq0-clause-value
returns-then-pixels-eq0-clause-value c =
    let a = c.args in
    let none = no_places a.line a.pixels c.requires.pixels_value c.if-pixels-eq0.true in
    let no_cell = no_cells a.line a.pixels c.requires.pixels_value c.if-pixels-eq0.true in
    sym (ap₂ (found_with a.self) none no_cell ∙ found_none a.self)

pub returns-then-pixels-eq0-clause-cells_after : goal.returns-then-pixels-eq0-clause-cells_after
returns-then-pixels-eq0-clause-cells_after c =
    let a = c.args in
    sym (ap (sets a.cells.now a.self.cells) (no_cells a.line a.pixels c.requires.pixels_value c.if-pixels-eq0.true))

pub returns-clause-value : goal.returns-clause-value
returns-clause-value c =
    let line = c.args.line in
    let counted = c.requires.pixels_value in
    let some : 0 < length (places_of line) = omega (arith, counted, c.if-pixels-eq0.false) in
    rw (c.first_x.ensures, c.last_x.ensures, c.min.ensures, c.max.ensures, counted, c.list_cells.ensures.value)
    (line_adds line.frames.first.now line.frames.second.now line.number some c.args.self)
