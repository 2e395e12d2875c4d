-- The last x that differs stands behind all others, and where none lies behind `right` that side stays.
-- Assumes nothing.
use Rattle.std.proofs.Common.{◌+◌, ◌*◌, ℕ, ◌∙◌, rules, tests}
use Rattle.machine.specs.Sizes.{line_length}
use Rattle.compare.specs.Places.{differs}
use Rattle.compare.proofs.Added.{last_is}
use Rattle.compare.proofs.Searches.{last_found}
use Rattle.compare.proofs.pixels.Line.last_x.Goals as goal

pub returns : goal.returns
returns c =
    let a = c.args in
    let first = a.self.frames.first.now in
    let second = a.self.frames.second.now in
    c.unwrap_or.ensures
    ∙ last_is first second a.self.number a.right c.rfind.result
    (last_found (λ (x : ℕ). differs first second (line_length * a.self.number + x)) _ (λ x b q k. search (rules, tests)) _ _ c.rfind.result c.rfind.ensures.ran)
