-- `video::source::Source::fill_single` meets its contract: the line is painted by the record of its number, in the state's mode.
use Rattle.std.proofs.Common.{◌≡◌, refl, ap, ◌∙◌, arith}
use Rattle.machine.specs.Sizes.{columns}
use Rattle.video.specs.Internal.{block_ram}
use Rattle.video.specs.Line.{line_cells}
use Rattle.video.specs.Ram.{Ram}
use Rattle.video.proofs.Lines.{cells_length, mode_after, mode_small, line_uses_screen_bytes}
use Rattle.video.proofs.Readings.{characters_most}
use Rattle.video.specs.declared.line.PaintedLine.{PaintedLine}
use Rattle.video.specs.declared.registers.Registers.{Registers}
use Rattle.video.proofs.source.Source.fill_single.Goals as goal

pub answer-requires-clause-mode_le_last_mode : goal.answer-requires-clause-mode_le_last_mode
answer-requires-clause-mode_le_last_mode g c =
    let mode : c.at_line_start-before.result.mode ≡ c.args.self.state.mode = ap (λ (r : Registers). r.mode) c.at_line_start-before.ensures ∙ c.from.ensures in
    rw (c.fill_line-painted.ensures.value, c.new-scanline.ensures, mode)
    (mode_small (block_ram c.args.self.block.now) c.args.line c.args.self.state.mode c.args.self.is_within.mode columns)

pub answer-requires-clause-screen_bound : goal.answer-requires-clause-screen_bound
answer-requires-clause-screen_bound g c =
    let ram : Ram = block_ram c.args.self.block.now in
    let counter = c.args.self.state.counter in
    let line = c.new-scanline.result.number in
    let mode = c.at_line_start-before.result.mode in
    let screens = ap (λ (p : PaintedLine). p.screen) c.fill_line-painted.ensures.value in
    let characters = ap (λ (p : PaintedLine). p.character) c.fill_line-painted.ensures.value in
    (omega (arith, screens, line_uses_screen_bytes ram counter line mode), omega (arith, characters, characters_most (line_cells ram counter line mode), cells_length ram counter line mode columns))

pub returns-clause-value : goal.returns-clause-value
returns-clause-value g c =
    let state = c.args.self.state in
    let mode : c.at_line_start-before.result.mode ≡ c.args.self.state.mode = ap (λ (r : Registers). r.mode) c.at_line_start-before.ensures ∙ c.from.ensures in
    c.answer.ensures
    ∙ rw (c.fill_line-painted.ensures.value, c.new-scanline.ensures, mode)
    (rw (← mode_after (block_ram c.args.self.block.now) state.counter c.args.line state.mode columns) refl)
