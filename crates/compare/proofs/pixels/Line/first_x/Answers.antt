-- The first x that differs stands before all others, and where none lies before `left` that side stays.
-- Assumes nothing.
use Rattle.std.proofs.Common.{◌+◌, ◌*◌, ℕ, ◌∙◌, rules, tests}
use Rattle.machine.specs.Sizes.{line_length}
use Rattle.compare.specs.Places.{differs}
use Rattle.compare.proofs.Added.{first_is}
use Rattle.compare.proofs.Searches.{first_found}
use Rattle.compare.proofs.pixels.Line.first_x.Goals as goal

pub returns : goal.returns
returns c =
    let a = c.args in
    let first = a.self.frames.first.now in
    let second = a.self.frames.second.now in
    c.unwrap_or.ensures
    ∙ first_is first second a.self.number a.left c.requires c.find.result
    (first_found (λ (x : ℕ). differs first second (line_length * a.self.number + x)) _ (λ x b q k. search (rules, tests)) _ _ c.find.result c.find.ensures.ran)
