-- `video::paint_frame` meets its contract: a refusal leaves all as it was, and past the checks the block paints what the memory does.
use Rattle.std.proofs.Common.{rules, ◌∙◌}
use Rattle.machine.specs.Image.{IsImage}
use Rattle.video.specs.Answer.{frame_answer, frame_contents}
use Rattle.video.specs.Frame.{frame_cells}
use Rattle.video.specs.State.{after_frame}
use Rattle.video.proofs.Answers.{passed, answer_refused, contents_refused, frame_painted}
use Rattle.video.proofs.frame.paint_frame.Goals as goal

pub returns-in-Ok : goal.returns-in-Ok
unfolding frame_answer frame_contents
returns-in-Ok c =
    let a = c.args in
    let ok = passed _ _ c.check_unmapped.ensures _ c.in-Ok.is in
    let sized : IsImage a.state.profile a.memory.now = search rules in
    let done = frame_painted _ ok a.memory.now a.state sized _ c.video_block-block.ensures.value a.frame.now (after_frame a.state) in
    record { value = c.fill_frame.ensures.value ∙ done.0; frame_after = c.fill_frame.ensures.frame_after ∙ done.1 }

pub returns-in-Err : goal.returns-in-Err
unfolding frame_answer frame_contents
returns-in-Err c =
    let a = c.args in
    let cells = frame_cells a.memory.now a.state in record {
      value = c.refused.ensures ∙ answer_refused _ _ c.check_unmapped.ensures _ c.in-Err.is cells a.state (after_frame a.state);
      frame_after = contents_refused _ _ c.check_unmapped.ensures _ c.in-Err.is cells a.frame.now;
    }
