-- `video::paint_line` meets its contract: a refusal leaves all as it was, and past the checks the block paints what the memory does.
use Rattle.std.proofs.Common.{◌<◌, rules, ◌∙◌}
use Rattle.machine.specs.Image.{IsImage}
use Rattle.machine.specs.Sizes.{lines}
use Rattle.video.specs.Answer.{line_answer, line_contents, cells_of_line}
use Rattle.video.proofs.Answers.{passed, answer_refused, contents_refused, line_painted}
use Rattle.video.proofs.line.paint_line.Goals as goal

pub returns-in-Ok : goal.returns-in-Ok
unfolding line_answer line_contents
returns-in-Ok c =
    let a = c.args in
    let ok = passed _ _ c.check_unmapped.ensures _ c.in-Ok.is in
    let sized : IsImage a.state.profile a.memory.now = search rules in
    let low : a.line < lines = search rules in
    let done = line_painted _ ok a.memory.now a.state sized _ c.video_block-block.ensures.value a.output.now a.line low in
    record { value = c.fill_single.ensures.value ∙ done.0; output_after = c.fill_single.ensures.output_after ∙ done.1 }

pub returns-in-Err : goal.returns-in-Err
unfolding line_answer line_contents
returns-in-Err c =
    let a = c.args in
    let cells = cells_of_line a.memory.now a.state a.line in record {
      value = c.refused.ensures ∙ answer_refused _ _ c.check_unmapped.ensures _ c.in-Err.is cells a.state a.state;
      output_after = contents_refused _ _ c.check_unmapped.ensures _ c.in-Err.is cells a.output.now;
    }
