-- `video::paint_frame_mapped` meets its contract, as `paint_frame` does; the part of the map that has the block's bits comes back
-- marked.
use Rattle.std.proofs.Common.{◌≡◌, length, rules, arith, ◌∙◌}
use Rattle.machine.specs.Image.{IsImage}
use Rattle.used_map.specs.Map.{map_length}
use Rattle.video.specs.Answer.{mapped_frame_answer, mapped_frame_contents, mapped_frame_map}
use Rattle.video.specs.Frame.{frame_cells}
use Rattle.video.specs.State.{after_frame}
use Rattle.video.proofs.Answers.{passed, answer_refused, contents_refused, map_refused, frame_painted, mapping_done}
use Rattle.video.proofs.Block.{frame_marks}
use Rattle.video.proofs.frame.paint_frame_mapped.Goals as goal

pub returns-in-Ok : goal.returns-in-Ok
unfolding mapped_frame_answer mapped_frame_contents mapped_frame_map
returns-in-Ok c =
    let a = c.args in
    let ok = passed _ _ c.check_mapped.ensures _ c.in-Ok.is in
    let sized : IsImage a.state.profile a.memory.now = search rules in
    let mapped : length a.map.now ≡ map_length = search rules in
    let done = frame_painted _ ok a.memory.now a.state sized _ c.video_block-block.ensures.value a.frame.now (after_frame a.state) in
    record {
      value = c.fill_frame.ensures.value ∙ done.0;
      frame_after = c.fill_frame.ensures.frame_after ∙ done.1;
      map_after =
          frame_marks a.memory.now a.state sized a.map.now (λ k. grind arith) mapped
          c.block_marks-from.result c.block_marks-from.ensures.value c.video_block-block.result.now c.video_block-block.ensures.value _
          c.fill_frame.ensures.marks_after
          ∙ mapping_done _ (frame_cells a.memory.now a.state) a.map.now ok;
    }

pub returns-in-Err : goal.returns-in-Err
unfolding mapped_frame_answer mapped_frame_contents mapped_frame_map
returns-in-Err c =
    let a = c.args in
    let cells = frame_cells a.memory.now a.state in record {
      value = c.refused.ensures ∙ answer_refused _ _ c.check_mapped.ensures _ c.in-Err.is cells a.state (after_frame a.state);
      frame_after = contents_refused _ _ c.check_mapped.ensures _ c.in-Err.is cells a.frame.now;
      map_after = map_refused _ _ c.check_mapped.ensures _ c.in-Err.is cells a.map.now;
    }
