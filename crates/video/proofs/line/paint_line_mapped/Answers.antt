-- `video::paint_line_mapped` meets its contract, as `paint_line` does; the part of the map that has the block's bits comes back
-- marked.
use Rattle.std.proofs.Common.{◌≡◌, ◌<◌, length, rules, arith, ◌∙◌}
use Rattle.machine.specs.Image.{IsImage}
use Rattle.machine.specs.Sizes.{lines}
use Rattle.used_map.specs.Map.{map_length}
use Rattle.video.specs.Answer.{mapped_line_answer, mapped_line_contents, mapped_line_map, cells_of_line}
use Rattle.video.proofs.Answers.{passed, answer_refused, contents_refused, map_refused, line_painted, mapping_done}
use Rattle.video.proofs.Block.{line_marks}
use Rattle.video.proofs.line.paint_line_mapped.Goals as goal

pub returns-in-Ok : goal.returns-in-Ok
unfolding mapped_line_answer mapped_line_contents mapped_line_map
returns-in-Ok c =
    let a = c.args in
    let ok = passed _ _ c.check_mapped.ensures _ c.in-Ok.is in
    let sized : IsImage a.state.profile a.memory.now = search rules in
    let mapped : length a.map.now ≡ map_length = search rules in
    let low : a.line < lines = search rules in
    let done = line_painted _ ok a.memory.now a.state sized _ c.video_block-block.ensures.value a.output.now a.line low in
    record {
      value = c.fill_single.ensures.value ∙ done.0;
      output_after = c.fill_single.ensures.output_after ∙ done.1;
      map_after =
          line_marks a.memory.now a.state sized a.map.now (λ k. grind arith) mapped
          c.block_marks-from.result c.block_marks-from.ensures.value c.video_block-block.result.now c.video_block-block.ensures.value _ a.line low
          c.fill_single.ensures.marks_after
          ∙ mapping_done _ (cells_of_line a.memory.now a.state a.line) a.map.now ok;
    }

pub returns-in-Err : goal.returns-in-Err
unfolding mapped_line_answer mapped_line_contents mapped_line_map
returns-in-Err c =
    let a = c.args in
    let cells = cells_of_line a.memory.now a.state a.line in record {
      value = c.refused.ensures ∙ answer_refused _ _ c.check_mapped.ensures _ c.in-Err.is cells a.state a.state;
      output_after = contents_refused _ _ c.check_mapped.ensures _ c.in-Err.is cells a.output.now;
      map_after = map_refused _ _ c.check_mapped.ensures _ c.in-Err.is cells a.map.now;
    }
